use Rattle.std.proofs.Common.{◌≡◌, ℕ, true, false, List, Some, length, refl, subst, sym, arith}
use Rattle.std.specs.Prelude.{slice_get, Contains}
use Rattle.std.proofs.lemmas.List.{length-map}
use Rattle.std.proofs.lemmas.Option.{slice_get_within, slice_get_read}
use Rattle.flow_graph.specs.Nodes.{graph_of, node_of}
use Rattle.flow_graph.specs.IdempotentCuts.{HasBefore, boundaries_of}
use Rattle.region_cutter.specs.links.GraphSearch.{IsSearchStep}
use Rattle.region_cutter.specs.links.RemovalPaths.{ComesBack, ComesFromAny}
use Rattle.region_cutter.proofs.TrialParts.{comes_back}
use Rattle.region_cutter.proofs.GraphSearchComplete.{follows_as}
use Rattle.region_cutter.proofs.local.go_back.Goals as goal
use Rattle.region_cutter.proofs.local.go_back.Goals.{After-index}

noted : (c : After-index) → slice_get c.args.marks.now.sources.items c.args.number ≡ Some c.index.result.now
noted c =
    let xs = c.args.marks.now.sources.items in
    slice_get_read xs (length xs) c.args.number c.index.result.now refl
    (omega (arith, c.requires.exists, c.requires.marks.sources.long, length-map c.args.graph.now.nodes.items node_of)) c.index.ensures

pub come_from_each-requires : goal.come_from_each-requires
come_from_each-requires c = λ from k.
    let g = graph_of c.args.graph.now in
    let at = noted (goal.at.come_from_each-requires c).After-index in
    let k' : Contains c.index.result.now.items from = subst (λ (xs : List ℕ). Contains xs from) c.deref-then-not-stands.ensures.value k in
    let edge = c.requires.marks.sources.are from c.args.number c.index.result.now at k' in
    omega (arith, slice_get_within g.nodes from edge.is edge.at, length-map c.args.graph.now.nodes.items node_of)

pub returns-in_ok-come_from_each : goal.returns-in_ok-come_from_each
returns-in_ok-come_from_each c =
    let g = graph_of c.args.graph.now in
    let b = boundaries_of c.args.cuts.now in
    let past = c.args.past in
    let n = c.args.number in
    let s = c.args.search.now in
    let s' = c.come_from_each.new.search in
    let at = noted (goal.at.returns-in_ok-come_from_each c).After-index in
    let f : IsSearchStep (ComesFromAny g b past c.index.result.now.items) s.seen.items s.waiting.items s'.seen.items s'.waiting.items =
    subst (λ (xs : List ℕ). IsSearchStep (ComesFromAny g b past xs) s.seen.items s.waiting.items s'.seen.items s'.waiting.items)
    c.deref-then-not-stands.ensures.value c.in_ok-come_from_each.ensures in
    let free : ¬ (HasBefore b n) = λ h. let yes' : c.stands.result ≡ true =
    c.stands.ensures.1 (subst (λ xs. slice_get xs n ≡ Some true) (sym c.deref.ensures.value) h) in
    let no' : c.stands.result ≡ false = c.if-not-stands.true in cc in
    follows_as (ComesFromAny g b past c.index.result.now.items) (ComesBack g b past n) s.seen.items s.waiting.items s'.seen.items s'.waiting.items
    (comes_back g b past c.args.marks.now.sources.items c.index.result.now n c.requires.marks.sources at free) f
