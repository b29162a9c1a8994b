use Rattle.std.proofs.Common.{◌<◌, length, refl, ap, ◌∙◌, arith}
use Rattle.std.specs.Option.{option_map}
use Rattle.std.proofs.lemmas.List.{length-map}
use Rattle.std.proofs.lemmas.Option.{slice_get-map, slice_get_read}
use Rattle.flow_graph.specs.Nodes.{graph_of, node_of}
use Rattle.region_cutter.proofs.TrialParts.{sources_none, sources_both, sources_all}
use Rattle.region_cutter.proofs.marks.sources_of.Goals as goal

pub loop-number-init : goal.loop-number-init
loop-number-init c =
    let nodes = c.args.graph.now.nodes.items in
    sources_none (graph_of c.args.graph.now) c.len.result c.in_ok-sources.sources.items
    (omega (arith, c.len.ensures, c.args.graph.now.nodes.ok.0, length-map nodes node_of)) c.in_ok-sources.ensures

pub loop-number-preserved : goal.loop-number-preserved
loop-number-preserved c =
    let nodes = c.args.graph.now.nodes.items in
    let n = c.loop-number.number in
    let lt : n < length nodes = omega (arith, c.loop-number-test.true, c.len-number-end.ensures, c.args.graph.now.nodes.ok.0) in
    let at = slice_get_read nodes (length nodes) n c.index-node.result.now refl lt c.index-node.ensures in
    sources_both (graph_of c.args.graph.now) n
    (node_of c.index-node.result.now) c.next.result c.other.result c.loop-number.sources.items c.add_source.new.sources.items
    c.add_source-in-loop-number.new.sources.items
    (slice_get-map node_of nodes n ∙
    ap (option_map node_of) at) c.next.ensures c.other.ensures c.in_ok-add_source.ensures c.in_ok-add_source-2.ensures c.loop-number.invariant

pub returns : goal.returns
returns c =
    let nodes = c.args.graph.now.nodes.items in
    sources_all (graph_of c.args.graph.now) c.loop-number.number c.loop-number.sources.items
    (omega (arith, c.loop-number-test.false, c.len-number-end.ensures, c.args.graph.now.nodes.ok.0, length-map nodes node_of)) c.loop-number.invariant
