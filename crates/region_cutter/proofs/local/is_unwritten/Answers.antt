use Rattle.std.proofs.Common.{◌≡◌, ◌<◌, ◌≤◌, ℕ, true, false, Some, List, [], length, ap, sym, subst, ◌∙◌, arith, refl}
use Rattle.std.specs.Prelude.{Contains}
use Rattle.std.proofs.lemmas.List.{length-map, length-replicate, length_push, nil_from_length}
use Rattle.std.proofs.lemmas.List.Elements.{Contains-push}
use Rattle.flow_graph.specs.Nodes.{graph_of, node_of}
use Rattle.flow_graph.specs.IdempotentCuts.{BeginsRegion, boundaries_of}
use Rattle.region_cutter.specs.links.RemovalPaths.{ComesBack, IsUnwritten}
use Rattle.region_cutter.specs.links.GraphSearch.{ReachesEnd, IsSearchStep, left}
use Rattle.region_cutter.proofs.TrialParts.{back_within}
use Rattle.region_cutter.proofs.ConflictPaths.{unwritten_back, back_unwritten}
use Rattle.region_cutter.proofs.GraphSearchComplete.{searched_first, searched_step, searched_found, searched_nowhere}
use Rattle.region_cutter.proofs.local.is_unwritten.Goals as goal
use Rattle.region_cutter.proofs.local.is_unwritten.Goals.{In-Some}

-- the number that was taken is one of a node
popped : (c : In-Some) → c.in-Some.number < length c.args.graph.now.nodes.items
popped c =
    let waits : Contains c.loop-number.search.waiting.items c.in-Some.number =
    subst (λ (x : List ℕ). Contains x c.in-Some.number) (sym c.in-Some.ensures.items) (Contains-push c.pop.new.self.items c.in-Some.number) in
    let lt = (c.loop-number.invariant.0.led c.in-Some.number waits).0 in
    omega (arith, lt, c.loop-number.invariant.1)

pub loop-number-init : goal.loop-number-init
loop-number-init c =
    let g = graph_of c.args.graph.now in
    let b = boundaries_of c.args.cuts.now in
    let e = c.args.element in
    let Step = ComesBack g b (Some e) in
    let End = BeginsRegion g b in
    let start : ℕ → Type 0 = λ n. c.args.node ≡ n in
    let f = c.in_ok-search.ensures in (
      searched_first Step End start (IsUnwritten g b e c.args.node) start c.len.result c.in_ok-search.search.seen.items c.in_ok-search.search.waiting.items f
          (λ n is comes. back_unwritten g b e c.args.node (subst (λ (m : ℕ). ReachesEnd Step End m) (sym is) comes)) (λ n is lt. is),
      omega (arith, f.long, length-replicate c.len.result false, c.len.ensures, c.args.graph.now.nodes.ok.0),
    )

pub begins_at-requires-clause-exists : goal.begins_at-requires-clause-exists
begins_at-requires-clause-exists c = popped (goal.at.begins_at-requires-clause-exists c).In-Some

pub go_back-requires-clause-exists : goal.go_back-requires-clause-exists
go_back-requires-clause-exists c = popped (goal.at.go_back-requires-clause-exists c).In-Some

pub returns-then-begins_at : goal.returns-then-begins_at
returns-then-begins_at c =
    let g = graph_of c.args.graph.now in
    let b = boundaries_of c.args.cuts.now in
    let e = c.args.element in (
      λ _. searched_found (ComesBack g b (Some e)) (BeginsRegion g b) (λ n. c.args.node ≡ n) (IsUnwritten g b e c.args.node)
          c.loop-number.search.seen.items c.loop-number.search.waiting.items c.pop.new.self.items c.in-Some.number
          c.in-Some.ensures.items c.loop-number.invariant.0 (c.begins_at.ensures.0 c.if-begins_at.true),
      λ _. refl,
    )

pub loop-number-preserved : goal.loop-number-preserved
loop-number-preserved c =
    let g = graph_of c.args.graph.now in
    let b = boundaries_of c.args.cuts.now in
    let e = c.args.element in
    let Step = ComesBack g b (Some e) in
    let n = c.in-Some.number in
    let s = c.loop-number.search in
    let rest = c.pop.new.self.items in
    let s' = c.go_back.new.search in
    let stays : ¬ (BeginsRegion g b n) = λ h. let yes' : c.begins_at.result ≡ true = c.begins_at.ensures.1 h in let no' : c.begins_at.result ≡ false =
    c.if-begins_at.false in cc in
    let f : IsSearchStep (λ to. Step n to) s.seen.items rest s'.seen.items s'.waiting.items = c.in_ok-go_back.ensures in (
      searched_step Step (BeginsRegion g b) (λ m. c.args.node ≡ m) (IsUnwritten g b e c.args.node) s.seen.items s.waiting.items rest s'.seen.items
          s'.waiting.items n c.in-Some.ensures.items c.loop-number.invariant.0 stays f,
      f.long ∙ c.loop-number.invariant.1,
    )

pub loop-number-smaller : goal.loop-number-smaller
loop-number-smaller c =
    let s = c.loop-number.search in
    let rest = c.pop.new.self.items in
    let s' = c.go_back.new.search in
    let less : left s'.seen.items s'.waiting.items ≤ left s.seen.items rest = c.in_ok-go_back.ensures.less in
    let one = ap length c.in-Some.ensures.items ∙ length_push rest c.in-Some.number in
    let falls : left s'.seen.items s'.waiting.items < left s.seen.items s.waiting.items = omega (arith, less, one) in
    falls

pub returns : goal.returns
returns c =
    let g = graph_of c.args.graph.now in
    let b = boundaries_of c.args.cuts.now in
    let e = c.args.element in
    let s = c.loop-number.search in
    let none : s.waiting.items ≡ [] = nil_from_length s.waiting.items (omega (arith, c.in_default.ensures.cases.0, s.waiting.ok.0)) in
    let count : length s.seen.items ≡ length g.nodes = c.loop-number.invariant.1 ∙ sym (length-map c.args.graph.now.nodes.items node_of) in
    let no' = searched_nowhere (ComesBack g b (Some e)) (BeginsRegion g b) (λ n. c.args.node ≡ n) (IsUnwritten g b e c.args.node) s.seen.items s.waiting.items
    none (λ n from step. omega (arith, back_within g b (Some e) n from step, count)) c.loop-number.invariant.0 c.args.node refl
    (omega (arith, c.requires.exists, c.loop-number.invariant.1)) in (
      λ t. let wrong : false ≡ true = t in absurd (cc),
      λ u. absurd (no' (unwritten_back g b e c.args.node u)),
    )
