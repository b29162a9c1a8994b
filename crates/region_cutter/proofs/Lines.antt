-- Lines of nodes, the answers that searches give of them, and what both say of cleans.
use Rattle.std.proofs.Common.{◌≡◌, ◌⊎◌, ◌↔◌, inl, inr, ℕ, zero, suc, ◌+◌, ◌<◌, Bool, true, List, [], ◌∷◌, ◌++◌, length, map, Option, Some, refl, ap, sym}
use Rattle.std.proofs.Common.{subst, ◌∙◌, arith}
use Rattle.std.specs.Prelude.{slice_get, IsTrue}
use Rattle.std.specs.Option.{option_map}
use Rattle.std.proofs.lemmas.Bool.{cases_lt}
use Rattle.std.proofs.lemmas.List.{length-map, length_push}
use Rattle.std.proofs.lemmas.Option.{slice_get_within, slice_get-map}
use Rattle.ido_base.specs.declared.location.Shape.{Shape}
use Rattle.flow_graph.specs.declared.graph.Node as code
use Rattle.flow_graph.specs.Nodes.{Node, Graph, node_of, next_of, other_of}
use Rattle.flow_graph.specs.IdempotentCuts.{Boundaries}
use Rattle.flow_graph.specs.OmittedCleans.{StoresInLine, ReachesUncleaned, at_boundary, IsCleanedLater}
use Rattle.flow_graph.specs.OmittedCleans as c
use Rattle.region_cutter.specs.links.GraphSearch.{ReachesEnd, there, goes_on}
use Rattle.region_cutter.specs.links.Lines.{WritesInLine, AreLines, Leaves, GoesOnPast, IsPast, IsCleanedAfter, AreAnswers}
use Rattle.region_cutter.proofs.Lists.{get_below, get_last}

-- ---- Lines of the first nodes

pub record AreFirstLines (nodes : List code.Node) (shapes : List Shape) (lines : List (Option ℕ)) (count : ℕ) : Type 0 where
  pub long : length lines ≡ count
  pub each : (node line : ℕ) (x : code.Node) → node < count → slice_get nodes node ≡ Some x →
      (slice_get lines node ≡ Some (Some line)) ↔ WritesInLine shapes (node_of x) line

pub first_none : (nodes : List code.Node) (shapes : List Shape) → AreFirstLines nodes shapes [] 0
first_none nodes shapes = record { long = refl; each = λ n line x lt. absurd (omega arith) }

pub first_more : (nodes : List code.Node) (shapes : List Shape) (lines : List (Option ℕ)) (count : ℕ) (x : code.Node) (found : Option ℕ) →
    slice_get nodes count ≡ Some x → AreFirstLines nodes shapes lines count →
    ((line : ℕ) → (found ≡ Some line) ↔ WritesInLine shapes (node_of x) line) → AreFirstLines nodes shapes (lines ++ found ∷ []) (count + 1)
first_more nodes shapes lines count x found at h k = record {
  long = omega (arith, length_push lines found, h.long);
  each = λ n line y lt at'. elim (cases_lt n count) [
    | inl less ↦ (
        let same = get_below lines found n (omega (arith, h.long)) in
        let old = h.each n line y less at' in
        (λ e. old.0 (sym same ∙ e), λ w. same ∙ old.1 w))
    | inr most ↦ (
        let is : n ≡ length lines = omega (arith, h.long) in
        let last : slice_get (lines ++ found ∷ []) n ≡ Some found = ap (λ m. slice_get (lines ++ found ∷ []) m) is ∙ get_last lines found in
        let node : n ≡ count = omega (arith, h.long) in
        let both : Some x ≡ Some y = sym at ∙ sym (ap (λ m. slice_get nodes m) node) ∙ at' in
        let same : x ≡ y = cc in (
          λ e. (let some : Some found ≡ Some (Some line) = sym last ∙ e in let found_is : found ≡ Some line = cc in
              subst (λ (z : code.Node). WritesInLine shapes (node_of z) line) same ((k line).0 found_is)),
          λ w. last ∙ ap (λ (o : Option ℕ). Some o) ((k line).1 (subst (λ (z : code.Node). WritesInLine shapes (node_of z) line) (sym same) w)),
        ))
  ];
}

-- a node that contracts see is one of the code's
pub code_node : (nodes : List code.Node) (n : ℕ) (x : Node) → slice_get (map node_of nodes) n ≡ Some x → (y : code.Node) × (slice_get nodes n ≡ Some y) ×
    (node_of y ≡ x)
code_node [] n x at = absurd (cc)
code_node (y ∷ ys) zero x at = (y, refl, let same : node_of y ≡ x = cc in same)
code_node (y ∷ ys) (suc n) x at = code_node ys n x at

pub first_all : (g : Graph) (nodes : List code.Node) (shapes : List Shape) (lines : List (Option ℕ)) (count : ℕ) → g.nodes ≡ map node_of nodes → count ≡
    length nodes → AreFirstLines nodes shapes lines count → AreLines g shapes lines
first_all g nodes shapes lines count is all h = record {
  count = omega (arith, h.long, ap length is, length-map nodes node_of);
  each = λ n line. (
    λ e. (
        let lt = slice_get_within lines n (Some line) e in
        let below : n < length nodes = omega (arith, h.long) in
        let y = at_of nodes n below in
        let w = (h.each n line y.0 (omega (arith, h.long)) y.1).0 e in
        record {
          is = node_of y.0;
          at = ap (λ (xs : List Node). slice_get xs n) is ∙ slice_get-map node_of nodes n ∙ ap (option_map node_of) y.1;
          written =
              w.written;
          writes = w.writes;
          single = w.single;
          in_line = w.in_line;
        }),
    λ s. (
        let y = code_node nodes n s.is (ap (λ (xs : List Node). slice_get xs n) (sym is) ∙ s.at) in
        let lt = slice_get_within nodes n y.0 y.1 in
        (h.each n line y.0 (omega arith) y.1).1
        (subst (λ (z : Node). WritesInLine shapes z line) (sym y.2)
        (record { written = s.written; writes = s.writes; single = s.single; in_line = s.in_line }))),
  );
}
  where
    at_of : (nodes : List code.Node) (n : ℕ) → n < length nodes → (y : code.Node) × (slice_get nodes n ≡ Some y)
    at_of [] n lt = absurd (omega arith)
    at_of (y ∷ ys) zero lt = (y, refl)
    at_of (y ∷ ys) (suc n) lt = at_of ys n (omega arith)

-- ---- Searches find the paths that leave the line uncleaned

uncleaned : (g : Graph) (b : Boundaries) (shapes : List Shape) (lines : List (Option ℕ)) (line : ℕ) → AreLines g shapes lines → (n : ℕ) →
    ReachesEnd (GoesOnPast g b lines line) (Leaves g b) n → ReachesUncleaned g b shapes line n
uncleaned g b shapes lines line are n (there _ leaves) = at_boundary n leaves.to leaves.edge leaves.boundary
uncleaned g b shapes lines line are n (goes_on _ to step rest) =
    c.goes_on n to step.edge step.inside (λ s. step.past ((are.each to line).1 s)) (uncleaned g b shapes lines line are to rest)

comes : (g : Graph) (b : Boundaries) (shapes : List Shape) (lines : List (Option ℕ)) (line : ℕ) → AreLines g shapes lines → (n : ℕ) →
    ReachesUncleaned g b shapes line n → ReachesEnd (GoesOnPast g b lines line) (Leaves g b) n
comes g b shapes lines line are n (at_boundary _ to edge over) = there n (record { to = to; edge = edge; boundary = over })
comes g b shapes lines line are n (c.goes_on _ to edge inside past rest) =
    goes_on n to (record { edge = edge; inside = inside; past = λ e. past ((are.each to line).0 e) }) (comes g b shapes lines line are to rest)

cleaned_is : (g : Graph) (b : Boundaries) (shapes : List Shape) (lines : List (Option ℕ)) → AreLines g shapes lines → (n : ℕ) →
    IsCleanedAfter g b lines n ↔ IsCleanedLater g b shapes n
cleaned_is g b shapes lines are n = (
  λ k. record { line = k.line; stores = (are.each n k.line).0 k.stores; later = λ r. k.later (comes g b shapes lines k.line are n r) },
  λ k. record { line = k.line; stores = (are.each n k.line).1 k.stores; later = λ r. k.later (uncleaned g b shapes lines k.line are n r) },
)

-- ---- Answers

pub answers_none : (g : Graph) (b : Boundaries) (lines : List (Option ℕ)) → AreAnswers g b lines 0 []
answers_none g b lines = record { count = refl; each = λ n lt. absurd (omega arith) }

pub answers_more : (g : Graph) (b : Boundaries) (lines : List (Option ℕ)) (number : ℕ) (later : List Bool) (cleaned : Bool) →
    AreAnswers g b lines number later → (IsTrue cleaned ↔ IsCleanedAfter g b lines number) →
    AreAnswers g b lines (number + 1) (later ++ cleaned ∷ [])
answers_more g b lines number later cleaned h k = record {
  count = omega (arith, length_push later cleaned, h.count);
  each = λ n lt. elim (cases_lt n number) [
    | inl less ↦ (
        let same = get_below later cleaned n (omega (arith, h.count)) in
        let old = h.each n less in
        (λ e. old.0 (sym same ∙ e), λ w. same ∙ old.1 w))
    | inr most ↦ (
        let is : n ≡ length later = omega (arith, h.count) in
        let last : slice_get (later ++ cleaned ∷ []) n ≡ Some cleaned = ap (λ m. slice_get (later ++ cleaned ∷ []) m) is ∙ get_last later cleaned in
        let here : n ≡ number = omega (arith, h.count) in (
          λ e. (let some : Some cleaned ≡ Some true = sym last ∙ e in let sure : cleaned ≡ true = cc in
              subst (λ (m : ℕ). IsCleanedAfter g b lines m) (sym here) (k.0 sure)),
          λ w. last ∙ ap (λ (v : Bool). Some v) (k.1 (subst (λ (m : ℕ). IsCleanedAfter g b lines m) here w)),
        ))
  ];
}

pub answers_all : (g : Graph) (b : Boundaries) (shapes : List Shape) (lines : List (Option ℕ)) (later : List Bool) → AreLines g shapes lines →
    AreAnswers g b lines (length lines) later → (n : ℕ) →
    (slice_get later n ≡ Some true) ↔ IsCleanedLater g b shapes n
answers_all g b shapes lines later are h n =
    let k = cleaned_is g b shapes lines are n in (
      λ e. (let lt = slice_get_within later n true e in k.0 ((h.each n (omega (arith, h.count))).0 e)),
      λ cleaned. (let lt = slice_get_within g.nodes n cleaned.stores.is cleaned.stores.at in (h.each n (omega (arith, are.count))).1 (k.1 cleaned)),
    )

-- ---- Nodes on the way exist

pub comes_within : (g : Graph) (b : Boundaries) (lines : List (Option ℕ)) (line n : ℕ) → ReachesEnd (GoesOnPast g b lines line) (Leaves g b) n →
    n < length g.nodes
comes_within g b lines line n (there _ leaves) = slice_get_within g.nodes n leaves.edge.is leaves.edge.at
comes_within g b lines line n (goes_on _ to step rest) = slice_get_within g.nodes n step.edge.is step.edge.at

-- the nodes to go on to
pub past_both : (lines : List (Option ℕ)) (line : ℕ) (x : Node) (next other one two : Option ℕ) → next ≡ next_of x.action → other ≡ other_of x.action →
    ((n : ℕ) → (one ≡ Some n) ↔ ((next ≡ Some n) × ¬ (slice_get lines n ≡ Some (Some line)))) →
    ((n : ℕ) → (two ≡ Some n) ↔ ((other ≡ Some n) × ¬ (slice_get lines n ≡ Some (Some line)))) →
    (to : ℕ) → ((one ≡ Some to) ⊎ (two ≡ Some to)) ↔ IsPast lines line x to
past_both lines line x next other one two e f h k to = (
  λ d. elim d [
    | inl is ↦ (let m = (h to).0 is in record { after = inl (sym e ∙ m.0); past = m.1 })
    | inr is ↦ (let m = (k to).0 is in record { after = inr (sym f ∙ m.0); past = m.1 })
  ],
  λ p. elim p.after [
    | inl is ↦ inl ((h to).1 (e ∙ is, p.past))
    | inr is ↦ inr ((k to).1 (f ∙ is, p.past))
  ],
)
