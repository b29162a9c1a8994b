use Rattle.std.proofs.Common.{None, refl, length}
use Rattle.std.proofs.lemmas.List.{length-map}
use Rattle.flow_graph.specs.Nodes.{graph_of}
use Rattle.region_cutter.proofs.StraightCode.{entered_at, no_stretch, not_entered_at}
use Rattle.region_cutter.proofs.straight.stretch_at.Goals as goal

pub stretch_after-requires-clause-entered : goal.stretch_after-requires-clause-entered
stretch_after-requires-clause-entered c =
    entered_at (graph_of c.args.graph.now) c.args.entries.now (length c.args.graph.now.nodes.items) c.in-From.before c.args.first (simp length-map)
    c.requires.entries c.requires.exists c.in-From.is

pub returns-in_default : goal.returns-in_default
returns-in_default c =
    no_stretch (graph_of c.args.graph.now) c.args.first None refl
    (not_entered_at (graph_of c.args.graph.now) c.args.entries.now (length c.args.graph.now.nodes.items) c.args.first (simp length-map)
    c.requires.entries c.requires.exists c.in_default.not-From)
