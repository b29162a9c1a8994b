use Rattle.std.proofs.Common.{length, refl, ap, ◌∙◌, arith}
use Rattle.std.specs.Option.{option_map}
use Rattle.std.specs.Prelude.{Contains}
use Rattle.std.proofs.lemmas.Option.{slice_get_read, slice_get-map}
use Rattle.flow_graph.specs.Nodes.{graph_of, node_of}
use Rattle.region_cutter.proofs.RegionLimits.{at_end_more, have_more}
use Rattle.region_cutter.proofs.region_limits.tracks_of.Goals as goal

pub loop-number-preserved : goal.loop-number-preserved
loop-number-preserved c =
    let nodes = c.args.graph.now.nodes.items in
    let n = c.loop-number.number in
    let x = c.index.result.now in
    let at = slice_get_read nodes (length nodes) n x refl (omega arith) c.index.ensures in (
      at_end_more c.args.past (Contains x.reads.items) c.loop-number.tracks.items c.add_tracks.new.tracks.items c.loop-number.invariant.0
          c.in_ok-add_tracks.ensures,
      have_more (graph_of c.args.graph.now) c.args.first n c.args.past (node_of x) c.loop-number.tracks.items c.add_tracks.new.tracks.items
          (slice_get-map node_of nodes n ∙ ap (option_map node_of) at) c.in_ok-add_tracks.ensures c.loop-number.invariant.1,
    )

pub returns-clause-reads : goal.returns-clause-reads
returns-clause-reads c = λ node elements from lt reads. c.loop-number.invariant.1 node elements from (omega (arith, lt)) reads
