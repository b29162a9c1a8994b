use Rattle.std.proofs.Common.{◌↔◌, ◌||◌, ap, ◌∙◌}
use Rattle.std.specs.Prelude.{IsTrue}
use Rattle.std.specs.Option.{option_map}
use Rattle.std.proofs.lemmas.Option.{slice_get-map}
use Rattle.flow_graph.specs.Nodes.{graph_of, node_of}
use Rattle.flow_graph.specs.IdempotentCuts.{boundaries_of}
use Rattle.region_cutter.specs.links.RemovalPaths.{OverwritesRead}
use Rattle.region_cutter.proofs.Edges.{or_then, or_else}
use Rattle.region_cutter.proofs.TrialParts.{inside_both, read_is}
use Rattle.region_cutter.proofs.local.overwrites_read.Goals as goal
use Rattle.region_cutter.proofs.local.overwrites_read.Goals.{In_ok-two}

asked : (c : In_ok-two) → IsTrue (c.in_ok-one.one || c.in_ok-two.two) ↔ OverwritesRead (graph_of c.args.graph.now) (boundaries_of c.args.cuts.now) c.args.number
asked c =
    let g = graph_of c.args.graph.now in
    let b = boundaries_of c.args.cuts.now in
    let n = c.args.number in
    read_is g b n c.inside-next.result c.inside-other.result c.in_ok-one.one c.in_ok-two.two
    (inside_both g b n (node_of c.args.node.now) c.has_after-after.result c.next.result c.other.result c.inside-next.result c.inside-other.result
    (slice_get-map node_of c.args.graph.now.nodes.items n ∙ ap (option_map node_of) c.requires.node)
    c.has_after-after.ensures c.next.ensures c.other.ensures c.inside-next.ensures c.inside-other.ensures) c.in_ok-one.ensures c.in_ok-two.ensures

pub returns-then-one : goal.returns-then-one
returns-then-one c =
    or_then c.in_ok-one.one c.in_ok-two.two (OverwritesRead (graph_of c.args.graph.now) (boundaries_of c.args.cuts.now) c.args.number) c.if-one.true
    (asked (goal.at.returns-then-one c).In_ok-two)

pub returns-else-one : goal.returns-else-one
returns-else-one c =
    or_else c.in_ok-one.one c.in_ok-two.two (OverwritesRead (graph_of c.args.graph.now) (boundaries_of c.args.cuts.now) c.args.number) c.if-one.false
    (asked (goal.at.returns-else-one c).In_ok-two)
