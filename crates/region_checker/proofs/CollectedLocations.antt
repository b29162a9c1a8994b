-- Locations that are collected.
use Rattle.std.proofs.Common.{◌≡◌, inl, inr, ℕ, ◌+◌, ◌<◌, ◌≤◌, List, [], ◌∷◌, ◌++◌, length, Some, refl, ap, sym, subst, ◌∙◌, arith}
use Rattle.std.specs.Prelude.{Contains, slice_get}
use Rattle.std.proofs.lemmas.Option.{slice_get_within, slice_get_read}
use Rattle.std.proofs.lemmas.List.Elements.{Contains-append_left, Contains-push}
use Rattle.ido_base.specs.declared.location.Location.{Location}
use Rattle.flow_graph.specs.declared.graph.Node as code
use Rattle.flow_graph.specs.declared.graph.Graph as declared
use Rattle.flow_graph.specs.Nodes.{Node, graph_of}
use Rattle.flow_graph.proofs.Public.{same_or_other}
use Rattle.region_checker.specs.links.ConflictSearch.{AreAllRead, IsAdded}
use Rattle.region_checker.proofs.Nodes.{is_of}

pub at_contains : (xs : List Location) (x : Location) (c : Contains xs x) → slice_get xs c.0 ≡ Some x
at_contains xs x c = slice_get_read xs (length xs) c.0 x refl c.1 (sym c.2)

some_same : (a b : Location) → Some a ≡ Some b → a ≡ b
some_same a b e = cc

-- one more of what was read is there
pub added_more : (reads now : List Location) (i : ℕ) (y : Location) → slice_get reads i ≡ Some y → Contains now y →
    ((k : ℕ) (x : Location) → k < i → slice_get reads k ≡ Some x → Contains now x) →
    (k : ℕ) (x : Location) → k < i + 1 → slice_get reads k ≡ Some x → Contains now x
added_more reads now i y here there below k x lt at = elim (same_or_other k i) [
  | inl e ↦ subst (λ (z : Location). Contains now z) (some_same y x (sym here ∙ ap (λ j. slice_get reads j) (sym e) ∙ at)) there
  | inr other ↦ below k x (omega (arith, lt)) at
]

pub kept : (old now : List Location) (y : Location) → now ≡ old ++ y ∷ [] → (x : Location) → Contains old x → Contains now x
kept old now y e x c = subst (λ (xs : List Location). Contains xs x) (sym e) (Contains-append_left old (y ∷ []) x c)

pub pushed : (old now : List Location) (y : Location) → now ≡ old ++ y ∷ [] → Contains now y
pushed old now y e = subst (λ (xs : List Location). Contains xs y) (sym e) (Contains-push old y)

-- what was there is there, and the first of what was read
pub record Added (first reads now : List Location) (count : ℕ) : Type 0 where
  pub keeps : (x : Location) → Contains first x → Contains now x
  pub adds : (k : ℕ) (x : Location) → k < count → slice_get reads k ≡ Some x → Contains now x

pub added_next : (first reads old now : List Location) (i : ℕ) (y : Location) → slice_get reads i ≡ Some y → IsAdded old now y → Added first reads old i →
    Added first reads now (i + 1)
added_next first reads old now i y here n a = record {
  keeps = λ x c. n.keeps x (a.keeps x c);
  adds = added_more reads now i y here n.there (λ k x lt at. n.keeps x (a.adds k x lt at));
}

-- one more node's
pub read_more : (nodes : List code.Node) (old now : List Location) (i : ℕ) (y : code.Node) → slice_get nodes i ≡ Some y →
    ((x : Location) → Contains old x → Contains now x) →
    ((x : Location) → Contains y.reads.items x → Contains now x) →
    ((n : ℕ) (x : code.Node) (e : Location) → n < i → slice_get nodes n ≡ Some x → Contains x.reads.items e → Contains old e) →
    (n : ℕ) (x : code.Node) (e : Location) → n < i + 1 → slice_get nodes n ≡ Some x → Contains x.reads.items e → Contains now e
read_more nodes old now i y here keeps own below n x e lt at c = elim (same_or_other n i) [
  | inl is ↦ (
      let both : Some x ≡ Some y = sym at ∙ ap (λ j. slice_get nodes j) is ∙ here in
      let same : x ≡ y = cc in
      own e (subst (λ (z : code.Node). Contains z.reads.items e) same c))
  | inr other ↦ keeps e (below n x e (omega (arith, lt)) at c)
]

pub read_all : (g : declared.Graph) (locations : List Location) (count : ℕ) → length g.nodes.items ≤ count →
    ((n : ℕ) (x : code.Node) (e : Location) → n < count → slice_get g.nodes.items n ≡ Some x → Contains x.reads.items e → Contains locations e) →
    AreAllRead (graph_of g) locations
read_all g locations count le h = record {
  each = λ e n r.
      let k = is_of g.nodes.items n r.is r.at in
      h n k.is e (omega (arith, slice_get_within g.nodes.items n k.is k.at, le)) k.at (subst (λ (y : Node). Contains y.reads e) (sym k.same) r.reads);
}
