use Rattle.std.proofs.Common.{length}
use Rattle.std.proofs.lemmas.List.{length-map}
use Rattle.flow_graph.specs.Nodes.{graph_of}
use Rattle.flow_graph.specs.IdempotentCuts.{boundaries_of}
use Rattle.region_cutter.proofs.FewBoundaries.{still_fewest}
use Rattle.region_cutter.proofs.CoveredReads.{covered_none}
use Rattle.region_cutter.proofs.TrialPasses.{pass_minimal}
use Rattle.region_cutter.proofs.cutting.cut.Goals as goal

pub loop-covered-init : goal.loop-covered-init
loop-covered-init c = record {
  kept = c.in_ok-cuts.ensures.kept;
  fewest = c.in_ok-cuts.ensures.fewest;
  covered = covered_none (graph_of c.args.graph.now) (boundaries_of c.in_ok-cuts.cuts) c.in_ok-covered.covered.items c.in_ok-covered.ensures.none;
}

pub loop-covered-preserved : goal.loop-covered-preserved
loop-covered-preserved c =
    let p = c.in_ok-take_away.ensures.pass in
    record {
      kept = p.kept;
      fewest = still_fewest (graph_of c.args.graph.now) (boundaries_of c.loop-covered.cuts) (boundaries_of c.take_away.new.cuts) p.kept.cuts p.less
          c.loop-covered.invariant.fewest;
      covered = c.in_ok-take_away.ensures.covered;
    }

pub returns-clause-minimal : goal.returns-clause-minimal
returns-clause-minimal c =
    pass_minimal (graph_of c.args.graph.now) (boundaries_of c.loop-covered.cuts) (boundaries_of c.take_away.new.cuts)
    (length c.args.graph.now.nodes.items) c.in_ok-take_away.field-0
    (simp length-map) c.if-branch.false c.in_ok-take_away.ensures.pass

pub returns-clause-fewest : goal.returns-clause-fewest
returns-clause-fewest c =
    let p = c.in_ok-take_away.ensures.pass in
    still_fewest (graph_of c.args.graph.now) (boundaries_of c.loop-covered.cuts) (boundaries_of c.take_away.new.cuts) p.kept.cuts p.less
    c.loop-covered.invariant.fewest
