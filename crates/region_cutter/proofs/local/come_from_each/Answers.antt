use Rattle.std.proofs.Common.{◌⊎◌, ◌+◌, get_or}
use Rattle.std.proofs.lemmas.Option.{slice_get-get_or}
use Rattle.flow_graph.specs.Nodes.{graph_of}
use Rattle.flow_graph.specs.IdempotentCuts.{boundaries_of}
use Rattle.region_cutter.specs.links.RemovalPaths.{ComesFrom, ComesFromAny, ComesFromBelow}
use Rattle.region_cutter.proofs.TrialParts.{comes_none, comes_next, comes_any, found_contained}
use Rattle.region_cutter.proofs.GraphSearchComplete.{follows_none, follows_as, follows_both}
use Rattle.region_cutter.proofs.local.come_from_each.Goals as goal

pub loop-from-init : goal.loop-from-init
loop-from-init c =
    let g = graph_of c.args.graph.now in
    let b = boundaries_of c.args.cuts.now in
    let s = c.args.search.now in
    follows_none (ComesFromBelow g b c.args.past c.args.sources.now 0) s.seen.items s.waiting.items
    (λ n d lt. absurd (comes_none g b c.args.past c.args.sources.now n d))

pub come_from-requires : goal.come_from-requires
come_from-requires c =
    let xs = c.args.sources.now in
    let i = c.loop-from.from-index in
    c.requires (get_or xs i 0) (found_contained xs (get_or xs i 0) i (slice_get-get_or xs i 0 c.loop-from-test.true))

pub loop-from-preserved : goal.loop-from-preserved
loop-from-preserved c =
    let g = graph_of c.args.graph.now in
    let b = boundaries_of c.args.cuts.now in
    let past = c.args.past in
    let xs = c.args.sources.now in
    let i = c.loop-from.from-index in
    let from = get_or xs i 0 in
    let o = c.args.search.now in
    let s = c.loop-from.search in
    let s' = c.come_from.new.search in
    follows_as (λ m. ComesFromBelow g b past xs i m ⊎ ComesFrom g b past from m) (ComesFromBelow g b past xs (i + 1)) o.seen.items o.waiting.items
    s'.seen.items s'.waiting.items
    (λ m. comes_next g b past xs i from m (slice_get-get_or xs i 0 c.loop-from-test.true))
    (follows_both (ComesFromBelow g b past xs i) (ComesFrom g b past from) o.seen.items o.waiting.items s.seen.items s.waiting.items
    s'.seen.items s'.waiting.items c.loop-from.invariant c.in_ok-come_from.ensures)

pub returns : goal.returns
returns c =
    let g = graph_of c.args.graph.now in
    let b = boundaries_of c.args.cuts.now in
    let past = c.args.past in
    let xs = c.args.sources.now in
    let i = c.loop-from.from-index in
    let o = c.args.search.now in
    let s = c.loop-from.search in
    follows_as (ComesFromBelow g b past xs i) (ComesFromAny g b past xs) o.seen.items o.waiting.items s.seen.items s.waiting.items
    (λ m. comes_any g b past xs i m c.loop-from-test.false) c.loop-from.invariant
