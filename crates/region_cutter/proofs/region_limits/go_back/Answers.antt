use Rattle.std.proofs.Common.{ℕ, None, set, length, get_or, refl, subst, arith}
use Rattle.std.proofs.lemmas.Option.{slice_get_read, slice_get-get_or}
use Rattle.flow_graph.specs.Nodes.{graph_of}
use Rattle.region_cutter.specs.declared.region_limits.Track.{Track}
use Rattle.region_cutter.proofs.RegionLimits.{GoesBack, back_none, back_more, back_all}
use Rattle.region_cutter.proofs.region_limits.go_back.Goals as goal

abbrev none : Track
none = record { elements = record { variable = 0; lo = 0; hi = 0; key = None }; next = 0; hit = 0 }

pub loop-k-init : goal.loop-k-init
loop-k-init c = back_none (graph_of c.args.graph.now) c.args.number c.args.past c.args.tracks.now c.requires.tracked

pub seen_from-requires-clause-node : goal.seen_from-requires-clause-node
seen_from-requires-clause-node c =
    let nodes = c.args.graph.now.nodes.items in
    slice_get_read nodes (length nodes) c.args.number c.index-node.result.now refl c.requires.exists c.index-node.ensures

pub seen_from-requires-clause-tracked : goal.seen_from-requires-clause-tracked
seen_from-requires-clause-tracked c =
    c.loop-k.invariant.left c.loop-k.k (get_or c.loop-k.tracks c.loop-k.k none) (slice_get-get_or c.loop-k.tracks c.loop-k.k none (omega arith)) (omega arith)

pub loop-k-preserved : goal.loop-k-preserved
loop-k-preserved c =
    subst (λ (n : ℕ). GoesBack (graph_of c.args.graph.now) c.args.number c.args.past n c.args.tracks.now (set c.loop-k.tracks c.loop-k.k c.seen_from.result))
    (omega arith)
    (back_more (graph_of c.args.graph.now) c.args.number c.args.past c.loop-k.k c.args.tracks.now c.loop-k.tracks (get_or c.loop-k.tracks c.loop-k.k none)
    c.seen_from.result (slice_get-get_or c.loop-k.tracks c.loop-k.k none (omega arith)) c.seen_from.ensures.tracked c.seen_from.ensures.elements
    c.loop-k.invariant)

pub returns-clause-tracked : goal.returns-clause-tracked
returns-clause-tracked c =
    back_all (graph_of c.args.graph.now) c.args.number c.args.past c.loop-k.k c.args.tracks.now c.loop-k.tracks (omega arith) c.loop-k.invariant
