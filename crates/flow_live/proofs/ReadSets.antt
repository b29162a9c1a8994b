-- Sets of what nodes read, node after node.
use Rattle.std.proofs.Common.{◌≡◌, ◌↔◌, inl, inr, ℕ, ◌+◌, ◌<◌, ◌≤◌, List, [], ◌∷◌, ◌++◌, length, get_or, Some, refl, ap, sym, subst, ◌∙◌, arith}
use Rattle.std.specs.Prelude.{Contains, slice_get}
use Rattle.std.proofs.lemmas.Option.{slice_get_within}
use Rattle.std.proofs.lemmas.List.{get_or_append_left, get_or_past, get_or_push, length_push}
use Rattle.flow_graph.specs.declared.graph.Node as code
use Rattle.flow_graph.specs.LocalSets.{Has, HasAt}
use Rattle.flow_graph.proofs.Public.{none_empty, same_or_other, below_or_past}
use Rattle.flow_live.specs.links.Passes.{AreLong, UsesLocal, AreRead}
use Rattle.flow_live.proofs.LivenessFixpoint.{some_same}

-- ---- One more set

below : (sets : List (List ℕ)) (to : List ℕ) (n : ℕ) → n < length sets → get_or (sets ++ to ∷ []) n [] ≡ get_or sets n []
below sets to n lt = get_or_append_left sets (to ∷ []) [] n lt

pub long_none : (words : ℕ) → AreLong [] words
long_none words = record { each = λ n lt. absurd (omega arith) }

pub long_more : (sets : List (List ℕ)) (to : List ℕ) (words : ℕ) → AreLong sets words → length to ≡ words → AreLong (sets ++ to ∷ []) words
long_more sets to words h e = record {
  each = λ n lt. elim (same_or_other n (length sets)) [
    | inl is ↦ ap length (get_or_push sets to [] n (sym is)) ∙ e
    | inr other ↦ (
        let less : n < length sets = omega (arith, length_push sets to) in
        ap length (below sets to n less) ∙ h.each n less)
  ];
}

-- ---- What nodes read

-- the first of the nodes have their sets
pub record AreReadUpTo (nodes : List code.Node) (sets : List (List ℕ)) (count : ℕ) : Type 0 where
  pub long : length sets ≡ count
  pub only : (n local : ℕ) → HasAt sets n local → UsesLocal nodes n local
  pub each : (n local : ℕ) → n < count → UsesLocal nodes n local → HasAt sets n local

pub read_none : (nodes : List code.Node) → AreReadUpTo nodes [] 0
read_none nodes = record { long = refl; only = λ n local h. absurd (none_empty local h); each = λ n local lt. absurd (omega arith) }

pub read_more : (nodes : List code.Node) (sets : List (List ℕ)) (count : ℕ) (x : code.Node) (to : List ℕ) → slice_get nodes count ≡ Some x →
    AreReadUpTo nodes sets count →
    ((local : ℕ) → Has to local ↔ Contains x.uses.items local) → AreReadUpTo nodes (sets ++ to ∷ []) (count + 1)
read_more nodes sets count x to at r is = record {
  long = length_push sets to ∙ ap (λ n. n + 1) r.long;
  only = λ n local h. elim (same_or_other n count) [
    | inl e ↦ (
        let here : Has to local = subst (λ (s : List ℕ). Has s local) (get_or_push sets to [] n (r.long ∙ sym e)) h in
        record { is = x; at = ap (λ k. slice_get nodes k) e ∙ at; reads = (is local).0 here })
    | inr other ↦ elim (below_or_past n count) [
      | inl lt ↦ r.only n local (subst (λ (s : List ℕ). Has s local) (below sets to n (omega (arith, r.long))) h)
      | inr past ↦
          absurd (none_empty local (subst (λ (s : List ℕ). Has s local) (get_or_past (sets ++ to ∷ []) n [] (omega (arith, length_push sets to, r.long))) h))
    ]
  ];
  each = λ n local lt reads. elim (same_or_other n count) [
    | inl e ↦ (
        let same : x ≡ reads.is = some_same nodes n count x reads.is e at reads.at in
        subst (λ (s : List ℕ). Has s local) (sym (get_or_push sets to [] n (r.long ∙ sym e)))
        ((is local).1 (subst (λ (y : code.Node). Contains y.uses.items local) (sym same) reads.reads)))
    | inr other ↦ (
        let less : n < count = omega arith in
        subst (λ (s : List ℕ). Has s local) (sym (below sets to n (omega (arith, r.long)))) (r.each n local less reads))
  ];
}

pub read_all : (nodes : List code.Node) (sets : List (List ℕ)) (count : ℕ) → length nodes ≤ count → count ≤ length nodes → AreReadUpTo nodes sets count →
    AreRead nodes sets
read_all nodes sets count le le' r = record {
  count = omega (arith, r.long);
  has = λ n local. (r.only n local, λ reads. r.each n local (omega (arith, slice_get_within nodes n reads.is reads.at)) reads);
}

-- ---- What one node reads

-- the first of the locals are in the set
pub record HasFirst (set uses : List ℕ) (count : ℕ) : Type 0 where
  pub only : (local : ℕ) → Has set local → Contains uses local
  pub each : (k : ℕ) → k < count → Has set (get_or uses k 0)

-- ---- The greatest local that is read

pub up_to_more : (nodes : List code.Node) (i : ℕ) (y : code.Node) (uses : List ℕ) (before after : ℕ) → slice_get nodes i ≡ Some y → uses ≡ y.uses.items →
    before ≤ after →
    ((local : ℕ) → Contains uses local → local ≤ after) →
    ((n local : ℕ) (x : code.Node) → n < i → slice_get nodes n ≡ Some x → Contains x.uses.items local → local ≤ before) →
    (n local : ℕ) (x : code.Node) → n < i + 1 → slice_get nodes n ≡ Some x → Contains x.uses.items local → local ≤ after
up_to_more nodes i y uses before after here is le own old n local x lt at k = elim (same_or_other n i) [
  | inl e ↦ (
      let same : y ≡ x = some_same nodes n i y x e here at in
      own local (subst (λ (us : List ℕ). Contains us local) (sym is) (subst (λ (z : code.Node). Contains z.uses.items local) (sym same) k)))
  | inr other ↦ (
      let less : local ≤ before = old n local x (omega arith) at k in
      omega arith)
]
