use Rattle.std.proofs.Common.{◌≡◌, inl, inr, true, false}
use Rattle.flow_graph.specs.Nodes.{graph_of}
use Rattle.flow_graph.specs.IdempotentCuts.{boundaries_of}
use Rattle.region_cutter.specs.links.RemovalPaths.{ComesFrom}
use Rattle.region_cutter.proofs.TrialParts.{comes_from_is, comes_from_none}
use Rattle.region_cutter.proofs.GraphSearchComplete.{follows_none, follows_as}
use Rattle.region_cutter.proofs.local.come_from.Goals as goal

pub returns-then-has_after : goal.returns-then-has_after
returns-then-has_after c =
    let g = graph_of c.args.graph.now in
    let b = boundaries_of c.args.cuts.now in
    let s = c.args.search.now in
    follows_none (ComesFrom g b c.args.past c.args.from) s.seen.items s.waiting.items
    (λ n d lt. absurd (comes_from_none g b c.args.past c.args.from (inl (c.has_after.ensures.0 c.if-has_after.true)) n d))

pub returns-then-writes_past : goal.returns-then-writes_past
returns-then-writes_past c =
    let g = graph_of c.args.graph.now in
    let b = boundaries_of c.args.cuts.now in
    let s = c.args.search.now in
    follows_none (ComesFrom g b c.args.past c.args.from) s.seen.items s.waiting.items
    (λ n d lt. absurd (comes_from_none g b c.args.past c.args.from (inr (c.writes_past.ensures.0 c.if-writes_past.true)) n d))

pub returns : goal.returns
returns c =
    let g = graph_of c.args.graph.now in
    let b = boundaries_of c.args.cuts.now in
    let from = c.args.from in
    let s = c.args.search.now in
    let s' = c.come_to.new.self in
    follows_as (λ n. from ≡ n) (ComesFrom g b c.args.past from) s.seen.items s.waiting.items s'.seen.items s'.waiting.items
    (comes_from_is g b c.args.past from
    (λ h. let yes' : c.has_after.result ≡ true = c.has_after.ensures.1 h in let no' : c.has_after.result ≡ false = c.if-has_after.false in cc)
    (λ h. let yes' : c.writes_past.result ≡ true = c.writes_past.ensures.1 h in let no' : c.writes_past.result ≡ false = c.if-writes_past.false in cc))
    c.in_ok-come_to.ensures
