use Rattle.std.proofs.Common.{◌≡◌, ◌<◌, ◌≤◌, ℕ, true, false, Some, List, [], length, ap, sym, subst, refl, ◌∙◌, arith}
use Rattle.std.specs.Prelude.{slice_get, Contains}
use Rattle.std.specs.Option.{option_map}
use Rattle.std.proofs.lemmas.List.{length-map, length-replicate, length_push, nil_from_length}
use Rattle.std.proofs.lemmas.List.Elements.{Contains-push}
use Rattle.std.proofs.lemmas.Option.{slice_get-map, slice_get_read}
use Rattle.flow_graph.specs.Nodes.{graph_of, node_of}
use Rattle.flow_graph.specs.Liveness.{NodeAt}
use Rattle.flow_graph.specs.IdempotentCuts.{boundaries_of}
use Rattle.region_cutter.specs.links.Lines.{GoesOnPast, IsPast, Leaves}
use Rattle.region_cutter.specs.links.GraphSearch.{ReachesEnd, IsSearchStep, left}
use Rattle.region_cutter.proofs.Edges.{past_is}
use Rattle.region_cutter.proofs.Lines.{comes_within}
use Rattle.region_cutter.proofs.GraphSearchComplete.{follows_as, searched_first, searched_step, searched_found, searched_none}
use Rattle.region_cutter.proofs.cleaning.reaches_uncleaned.Goals as goal
use Rattle.region_cutter.proofs.cleaning.reaches_uncleaned.Goals.{In-Some, After-index-node}

pub loop-number-init : goal.loop-number-init
loop-number-init c =
    let g = graph_of c.args.graph.now in
    let b = boundaries_of c.args.cuts.now in
    let Step = GoesOnPast g b c.args.lines.now c.args.line in
    let start : ℕ → Type 0 = λ n. c.args.from ≡ n in
    let f = c.in_ok-search.ensures in (
      searched_first Step (Leaves g b) start
          (ReachesEnd Step (Leaves g b) c.args.from) start c.len.result c.in_ok-search.search.seen.items c.in_ok-search.search.waiting.items f
          (λ n is comes. subst (λ (m : ℕ). ReachesEnd Step (Leaves g b) m) (sym is) comes) (λ n is lt. is),
      omega (arith, f.long, length-replicate c.len.result false, c.len.ensures, c.args.graph.now.nodes.ok.0),
    )

-- the number that was taken is one of a node
popped : (c : In-Some) → c.in-Some.number < length c.args.graph.now.nodes.items
popped c =
    let waits : Contains c.loop-number.search.waiting.items c.in-Some.number =
    subst (λ (x : List ℕ). Contains x c.in-Some.number) (sym c.in-Some.ensures.items) (Contains-push c.pop.new.self.items c.in-Some.number) in
    let lt = (c.loop-number.invariant.0.led c.in-Some.number waits).0 in
    omega (arith, lt, c.loop-number.invariant.1)

pub index-node-requires : goal.index-node-requires
index-node-requires c = omega (arith, popped (goal.at.index-node-requires c).In-Some, c.args.graph.now.nodes.ok.0)

found : (c : After-index-node) → c.in-Some.number < length c.args.graph.now.nodes.items → slice_get c.args.graph.now.nodes.items c.in-Some.number ≡
    Some c.index-node.result.now
found c lt = slice_get_read c.args.graph.now.nodes.items
    (length c.args.graph.now.nodes.items) c.in-Some.number c.index-node.result.now refl lt c.index-node.ensures

pub leaves-requires : goal.leaves-requires
leaves-requires c = found (goal.at.leaves-requires c).After-index-node (popped (goal.at.leaves-requires c).In-Some)

pub returns-then-leaves : goal.returns-then-leaves
returns-then-leaves c =
    let g = graph_of c.args.graph.now in
    let b = boundaries_of c.args.cuts.now in (
      λ _. searched_found (GoesOnPast g b c.args.lines.now c.args.line) (Leaves g b) (λ n. c.args.from ≡ n)
          (ReachesEnd (GoesOnPast g b c.args.lines.now c.args.line)
          (Leaves g b) c.args.from) c.loop-number.search.seen.items c.loop-number.search.waiting.items c.pop.new.self.items c.in-Some.number
          c.in-Some.ensures.items c.loop-number.invariant.0 (c.leaves.ensures.0 c.if-leaves.true),
      λ _. refl,
    )

pub loop-number-preserved : goal.loop-number-preserved
loop-number-preserved c =
    let g = graph_of c.args.graph.now in
    let b = boundaries_of c.args.cuts.now in
    let lines = c.args.lines.now in
    let line = c.args.line in
    let n = c.in-Some.number in
    let x = node_of c.index-node.result.now in
    let s = c.loop-number.search in
    let rest = c.pop.new.self.items in
    let s' = c.go_on.new.search in
    let lt = popped (goal.at.loop-number-preserved c).In-Some in
    let at : NodeAt g n x = slice_get-map node_of c.args.graph.now.nodes.items n ∙
    ap (option_map node_of) (found (goal.at.loop-number-preserved c).After-index-node lt) in
    let stays : ¬ (Leaves g b n) = λ h. let yes' : c.leaves.result ≡ true = c.leaves.ensures.1 h in let no' : c.leaves.result ≡ false =
    c.if-leaves.false in cc in
    let f : IsSearchStep (IsPast lines line x) s.seen.items rest s'.seen.items s'.waiting.items = c.in_ok-go_on.ensures in
    let f' = follows_as (IsPast lines line x) (GoesOnPast g b lines line n) s.seen.items rest s'.seen.items s'.waiting.items
    (past_is g b lines line n x at stays) f in (
      searched_step (GoesOnPast g b lines line) (Leaves g b) (λ m. c.args.from ≡ m)
          (ReachesEnd (GoesOnPast g b lines line)
          (Leaves g b) c.args.from) s.seen.items s.waiting.items rest s'.seen.items s'.waiting.items n c.in-Some.ensures.items
          c.loop-number.invariant.0 stays f',
      f.long ∙ c.loop-number.invariant.1,
    )

pub loop-number-smaller : goal.loop-number-smaller
loop-number-smaller c =
    let s = c.loop-number.search in
    let rest = c.pop.new.self.items in
    let s' = c.go_on.new.search in
    let less : left s'.seen.items s'.waiting.items ≤ left s.seen.items rest = c.in_ok-go_on.ensures.less in
    let one = ap length c.in-Some.ensures.items ∙ length_push rest c.in-Some.number in
    let falls : left s'.seen.items s'.waiting.items < left s.seen.items s.waiting.items = omega (arith, less, one) in
    falls

pub returns : goal.returns
returns c =
    let g = graph_of c.args.graph.now in
    let b = boundaries_of c.args.cuts.now in
    let lines = c.args.lines.now in
    let line = c.args.line in
    let s = c.loop-number.search in
    let none : s.waiting.items ≡ [] = nil_from_length s.waiting.items (omega (arith, c.in_default.ensures.cases.0, s.waiting.ok.0)) in
    let count : length s.seen.items ≡ length g.nodes = c.loop-number.invariant.1 ∙ sym (length-map c.args.graph.now.nodes.items node_of) in
    let no' = searched_none (GoesOnPast g b lines line) (Leaves g b) (λ n. c.args.from ≡ n)
    (ReachesEnd (GoesOnPast g b lines line) (Leaves g b) c.args.from) s.seen.items s.waiting.items none
    (λ n comes. omega (arith, comes_within g b lines line n comes, count)) c.loop-number.invariant.0 c.args.from refl in (
      λ e. let wrong : false ≡ true = e in absurd (cc),
      λ comes. absurd (no' comes),
    )
