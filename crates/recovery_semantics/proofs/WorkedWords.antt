-- Worked rows: two `int` variables in one word.
use Rattle.std.proofs.Common.{◌≡◌, ◌⊎◌, inl, inr, refl, ℕ, zero, suc, ◌+◌, ◌*◌, ◌-◌, ◌^◌, ◌/◌, ◌%◌, ◌<◌, ◌≤◌, List, [], ◌∷◌, arith, sym, ◌∙◌, ap, subst, ⊎_elim}
use Rattle.std.specs.Prelude.{pos, negsuc}
use Rattle.std.proofs.lemmas.Bool.{cases_eq, cases_lt}
use Rattle.ido_ints.specs.declared.kinds.Kind.{Kind}
use Rattle.ido_ints.specs.declared.kinds.Kind.TheVariants as kind
use Rattle.ido_ints.specs.Kinds.{bytes_of}
use Rattle.ido_ints.specs.Reduction as reduction
use Rattle.ido_base.specs.Words as w
use Rattle.source_machine.proofs.Public.{some_is}
use Rattle.recovery_semantics.specs.ElementHistories.{IsOther}
use Rattle.recovery_semantics.specs.VariableSpots.{Spot, memory_in, IsAtSpot, AreSpotsApart}
use Rattle.recovery_semantics.proofs.Paths.{none_some}

abbrev first : Spot
first = record { kind = kind.Int; start = 0; elements = 1 }

abbrev second : Spot
second = record { kind = kind.Int; start = 4; elements = 1 }

abbrev two : List Spot
two = first ∷ second ∷ []

-- a store to the second one appends to both
store : memory_in two (w.stored (w.word_of 5 ∷ []) 4 4 (2 ^ 64 - 7)) ≡
    (record { values = pos 5 ∷ pos 5 ∷ []; durable = 0 } ∷ []) ∷ (record { values = pos 0 ∷ negsuc 6 ∷ []; durable = 0 } ∷ []) ∷ []
unfolding reduction.from_least_on
store = refl

-- ---- The two variables' elements are apart

record At (v e number : ℕ) (k : Kind) : Type 0 where
  kind_is : k ≡ kind.Int
  number_is : number ≡ 4 * v
  element_is : e ≡ 0

at_by : (v e : ℕ) (k : Kind) (number : ℕ) (s : Spot) → s.kind ≡ kind.Int → s.elements ≡ 1 → s.start ≡ 4 * v → (a : IsAtSpot two v e k number) → s ≡ a.spot →
    At v e number k
at_by v e k number s is_int one start a same =
    let within : e < s.elements = subst (λ (y : Spot). e < y.elements) (sym same) a.within in
    let none : e ≡ 0 = omega (arith, within, one) in
    let place : number ≡ s.start + bytes_of s.kind * e = subst (λ (y : Spot). number ≡ y.start + bytes_of y.kind * e) (sym same) a.number_is in
    record {
      kind_is = a.kind_is ∙ (ap (λ (y : Spot). y.kind) (sym same) ∙ is_int);
      number_is = place ∙ (ap (λ (n : ℕ). s.start + bytes_of s.kind * n) none ∙ (let r : s.start + bytes_of s.kind * 0 ≡ 4 * v = omega (arith, start) in r));
      element_is = none;
    }

at_two : (v e : ℕ) (k : Kind) (number : ℕ) → IsAtSpot two v e k number → At v e number k
at_two zero e k number a = at_by 0 e k number first refl refl refl a (some_is first a.spot a.there)
at_two (suc zero) e k number a = at_by 1 e k number second refl refl refl a (some_is second a.spot a.there)
at_two (suc (suc v)) e k number a = absurd (none_some a.spot a.there)

below_two : (v e : ℕ) (k : Kind) (number : ℕ) → IsAtSpot two v e k number → v < 2
below_two zero e k number a = omega arith
below_two (suc zero) e k number a = omega arith
below_two (suc (suc v)) e k number a = absurd (none_some a.spot a.there)

whole : (v e : ℕ) (k : Kind) (number : ℕ) → IsAtSpot two v e k number → (number % 8 + bytes_of k ≤ 8) × (number / 8 < 1)
whole v e k number a =
    let r = at_two v e k number a in
    let low = below_two v e k number a in
    let place = r.number_is in
    let size : bytes_of k ≡ 4 = ap bytes_of r.kind_is in
    (omega (arith, place, low, size), omega (arith, place, low))

apart : (v e i j : ℕ) (k other : Kind) (number at : ℕ) → IsAtSpot two v e k number → IsAtSpot two i j other at → IsOther i j v e →
    (at + bytes_of other ≤ number) ⊎ (number + bytes_of k ≤ at)
apart v e i j k other number at a b differs =
    let r = at_two v e k number a in
    let q = at_two i j other at b in
    let here = r.number_is in
    let there = q.number_is in
    let mine : bytes_of k ≡ 4 = ap bytes_of r.kind_is in
    let theirs : bytes_of other ≡ 4 = ap bytes_of q.kind_is in
    ⊎_elim
    (λ same. absurd (differs same (r.element_is ∙ sym q.element_is)))
    (λ n. ⊎_elim (λ l. inr (omega (arith, here, there, mine, l))) (λ g. inl (omega (arith, here, there, theirs, g, n))) (cases_lt v i))
    (cases_eq v i)

two_apart : AreSpotsApart two 1
two_apart = record { whole = whole; apart = apart }
