use Rattle.flow_graph.specs.Nodes.{graph_of}
use Rattle.region_cutter.proofs.RegionLimits.{limit_of}
use Rattle.region_cutter.proofs.region_limits.limit_at.Goals as goal

pub returns-clause-reads : goal.returns-clause-reads
returns-clause-reads c = λ node elements from lt reads. c.go_back.ensures.kept elements (c.requires.reads node elements from lt reads)

pub returns-clause-limit : goal.returns-clause-limit
returns-clause-limit c =
    limit_of (graph_of c.args.graph.now) c.args.first c.args.number c.args.past c.least_hit.result c.go_back.new.tracks c.requires.from_first c.requires.before
    c.go_back.ensures.tracked (λ node elements from lt reads. c.go_back.ensures.kept elements (c.requires.reads node elements from lt reads))
    c.least_hit.ensures
