use Rattle.std.proofs.Common.{ap, ◌∙◌}
use Rattle.std.specs.Option.{option_map}
use Rattle.std.proofs.lemmas.Option.{slice_get-map}
use Rattle.flow_graph.specs.Nodes.{graph_of, node_of}
use Rattle.region_cutter.proofs.TrialParts.{same_some, same_none}
use Rattle.region_cutter.proofs.local.writes_same.Goals as goal

pub returns-in-Some : goal.returns-in-Some
returns-in-Some c =
    same_some (graph_of c.args.graph.now) c.args.element c.args.number (node_of c.args.node.now) c.in-Some.written c.same.result
    (slice_get-map node_of c.args.graph.now.nodes.items c.args.number ∙ ap (option_map node_of) c.requires)
    c.in-Some.is c.same.ensures

pub returns-in-None : goal.returns-in-None
returns-in-None c = same_none (graph_of c.args.graph.now) c.args.element c.args.number (node_of c.args.node.now)
    (slice_get-map node_of c.args.graph.now.nodes.items c.args.number ∙ ap (option_map node_of) c.requires) c.in-None.is
