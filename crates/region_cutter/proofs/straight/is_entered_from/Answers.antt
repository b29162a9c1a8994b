use Rattle.std.proofs.Common.{length}
use Rattle.std.proofs.lemmas.List.{length-map}
use Rattle.flow_graph.specs.Nodes.{graph_of}
use Rattle.region_cutter.proofs.StraightCode.{entered_is, entered_not}
use Rattle.region_cutter.proofs.straight.is_entered_from.Goals as goal

pub returns-in-From : goal.returns-in-From
returns-in-From c =
    entered_is (graph_of c.args.graph.now) c.args.entries.now (length c.args.graph.now.nodes.items) c.args.from c.args.node c.in-From.other (simp length-map)
    c.requires.entries c.requires.exists c.in-From.is

pub returns-in_default : goal.returns-in_default
returns-in_default c =
    entered_not (graph_of c.args.graph.now) c.args.entries.now (length c.args.graph.now.nodes.items) c.args.from c.args.node (simp length-map)
    c.requires.entries c.requires.exists c.in_default.not-From
