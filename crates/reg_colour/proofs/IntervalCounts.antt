-- How many of the first intervals hold a node.
use Rattle.std.proofs.Common.{◌≡◌, ◌↔◌, ℕ, zero, suc, ◌+◌, ◌<◌, ◌≤◌, List, ◌∷◌, length}
use Rattle.std.proofs.Common.{Contains, slice_get, Option, Some, None, inl, inr, refl, sym, ap, subst, arith}
use Rattle.std.proofs.lemmas.Bool.{cases_eq}
use Rattle.std.proofs.lemmas.Option.{slice_get_within, get_or_from_slice_get}
use Rattle.reg_colour.specs.declared.intervals.Interval.{Interval}
use Rattle.reg_colour.specs.links.Intervals.{Intervals, IntervalAt, Holds, IsInInterval, AreHolding}
use Rattle.reg_colour.proofs.Pigeonhole.{Once}

-- how many of the intervals of earlier locals hold the node
pub record CountedTo (xs : Intervals) (node up_to count : ℕ) : Type 0 where
  pub locals : List ℕ
  pub each : (local : ℕ) → Contains locals local ↔ ((local < up_to) × Holds xs node local)
  pub once : Once locals
  pub long : length locals ≡ count
  pub few : count ≤ up_to

in_longer : (xs : Intervals) (node k local : ℕ) (ls : List ℕ) → Holds xs node k → ((l : ℕ) → Contains ls l → (l < k) × Holds xs node l) →
    Contains (k ∷ ls) local → (local < k + 1) × Holds xs node local
in_longer xs node k local ls h each (zero, lt, e) = (omega (arith, e), subst (λ (l : ℕ). Holds xs node l) e h)
in_longer xs node k local ls h each (suc m, lt, e) = let r = each local (m, omega arith, e) in (omega (arith, r.0), r.1)

to_longer : (xs : Intervals) (node k local : ℕ) (ls : List ℕ) → ((l : ℕ) → (l < k) × Holds xs node l → Contains ls l) →
    (local < k + 1) × Holds xs node local → Contains (k ∷ ls) local
to_longer xs node k local ls each p = elim (cases_eq k local) [
  | inl e ↦ (0, omega arith, e)
  | inr ne ↦ let c = each local (omega (arith, p.0, ne), p.1) in (suc c.0, omega (arith, c.1), c.2)
]

listed : (ls : List ℕ) (i x : ℕ) → slice_get ls i ≡ Some x → Contains ls x
listed ls i x e = (i, slice_get_within ls i x e, get_or_from_slice_get ls i x x e)

once_longer : (ls : List ℕ) (k : ℕ) → Once ls → (Contains ls k → ⊥) → Once (k ∷ ls)
once_longer ls k once none zero zero x a b = refl
once_longer ls k once none zero (suc j) x a b = let e : k ≡ x = cc in absurd (none (subst (λ (l : ℕ). Contains ls l) (sym e) (listed ls j x b)))
once_longer ls k once none (suc i) zero x a b = let e : k ≡ x = cc in absurd (none (subst (λ (l : ℕ). Contains ls l) (sym e) (listed ls i x a)))
once_longer ls k once none (suc i) (suc j) x a b = ap suc (once i j x a b)

pub one_more : (xs : Intervals) (node k count : ℕ) → Holds xs node k → CountedTo xs node k count → CountedTo xs node (k + 1) (count + 1)
one_more xs node k count h c = record {
  locals = k ∷ c.locals;
  each = λ local. (in_longer xs node k local c.locals h (λ l. (c.each l).0), to_longer xs node k local c.locals (λ l. (c.each l).1));
  once = once_longer c.locals k c.once (λ m. let r = (c.each k).0 m in omega (arith, r.0));
  long = omega (arith, c.long);
  few = omega (arith, c.few);
}

pub no_more : (xs : Intervals) (node k count : ℕ) → (Holds xs node k → ⊥) → CountedTo xs node k count → CountedTo xs node (k + 1) count
no_more xs node k count none c = record {
  locals = c.locals;
  each = λ local. (
    λ m. let r = (c.each local).0 m in (omega (arith, r.0), r.1),
    λ p. elim (cases_eq local k) [
      | inl e ↦ absurd (none (subst (λ (l : ℕ). Holds xs node l) e p.1))
      | inr ne ↦ (c.each local).1 (omega (arith, p.0, ne), p.1)
    ],
  );
  once = c.once;
  long = c.long;
  few = omega (arith, c.few);
}

pub held_within : (xs : Intervals) (node local : ℕ) → Holds xs node local → local < length xs
held_within xs node local h = slice_get_within xs local (Some h.interval) h.at

pub all_counted : (xs : Intervals) (node up_to count : ℕ) → length xs ≤ up_to → CountedTo xs node up_to count → AreHolding xs node count
all_counted xs node up_to count le c = record {
  locals = c.locals;
  each = λ local. (λ m. ((c.each local).0 m).1, λ h. (c.each local).1 (omega (arith, held_within xs node local h), h));
  once = c.once;
  count = c.long;
}

-- ---- One interval

pub held_in : (xs : Intervals) (local node : ℕ) (o : Option Interval) → slice_get xs local ≡ Some o → Holds xs node local → IsInInterval o node
held_in xs local node None e h = absurd (let at : IntervalAt xs local h.interval = h.at in cc)
held_in xs local node (Some i) e h = let at : IntervalAt xs local h.interval = h.at in let same : h.interval ≡ i = cc in
    (omega (arith, h.from_first, ap (λ (x : Interval). x.first) same), omega (arith, h.below_end, ap (λ (x : Interval). x.end) same))

pub in_held : (xs : Intervals) (local node : ℕ) (o : Option Interval) → slice_get xs local ≡ Some o → IsInInterval o node → Holds xs node local
in_held xs local node None e h = absurd h
in_held xs local node (Some i) e h = record { interval = i; at = e; from_first = h.0; below_end = h.1 }

pub counted_more : (xs : Intervals) (node k count now : ℕ) (o : Option Interval) → slice_get xs k ≡ Some o → IsInInterval o node → CountedTo xs node k count →
    now ≡ count + 1 → CountedTo xs node (k + 1) now
counted_more xs node k count now o at h c e = subst (λ (n : ℕ). CountedTo xs node (k + 1) n) (sym e) (one_more xs node k count (in_held xs k node o at h) c)

pub counted_same : (xs : Intervals) (node k count now : ℕ) (o : Option Interval) → slice_get xs k ≡ Some o → (IsInInterval o node → ⊥) →
    CountedTo xs node k count →
    now ≡ count → CountedTo xs node (k + 1) now
counted_same xs node k count now o at none c e =
    subst (λ (n : ℕ). CountedTo xs node (k + 1) n) (sym e) (no_more xs node k count (λ h. none (held_in xs k node o at h)) c)
