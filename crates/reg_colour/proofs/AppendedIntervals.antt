-- A list with one more element.
use Rattle.std.proofs.Common.{◌≡◌, ◌⊎◌, ℕ, zero, suc, List, [], ◌∷◌, ◌++◌, length, slice_get, Option, Some, inl, inr, refl, sym, subst, arith}
use Rattle.flow_graph.specs.declared.graph.Part.{Part}
use Rattle.flow_graph.specs.Nodes.{Graph}
use Rattle.reg_colour.specs.declared.intervals.Interval.{Interval}
use Rattle.reg_colour.specs.links.Intervals.{Intervals, IsIntervalOf, AreIntervals}

pub pushed : {X : Type 0} (xs : List X) (y : X) (k : ℕ) (z : X) → slice_get (xs ++ y ∷ []) k ≡ Some z →
    (slice_get xs k ≡ Some z) ⊎ ((k ≡ length xs) × (z ≡ y))
pushed [] y zero z e = inr (refl, cc)
pushed [] y (suc k) z e = absurd (let h : slice_get [] k ≡ Some z = e in cc)
pushed (x ∷ xs) y zero z e = inl e
pushed (x ∷ xs) y (suc k) z e = elim (pushed xs y k z e) [ inl old ↦ inl old | inr new ↦ inr (omega (arith, new.0), new.1) ]

one_of_more : (g : Graph) (part : Part) (xs : Intervals) (o : Option Interval) (n : ℕ) → length xs ≡ n → AreIntervals g part xs → IsIntervalOf g part n o →
    (local : ℕ) (i : Option Interval) →
    ((slice_get xs local ≡ Some i) ⊎ ((local ≡ length xs) × (i ≡ o))) → IsIntervalOf g part local i
one_of_more g part xs o n long a h local i (inl old) = a.each local i old
one_of_more g part xs o n long a h local i (inr new) = let e : local ≡ n = omega (arith, new.0, long) in
    subst (λ (x : Option Interval). IsIntervalOf g part local x) (sym new.1) (subst (λ (l : ℕ). IsIntervalOf g part l o) (sym e) h)

pub one_interval_more : (g : Graph) (part : Part) (xs : Intervals) (o : Option Interval) (n : ℕ) → length xs ≡ n → AreIntervals g part xs →
    IsIntervalOf g part n o → AreIntervals g part (xs ++ o ∷ [])
one_interval_more g part xs o n long a h = record { each = λ local i e. one_of_more g part xs o n long a h local i (pushed xs o local i e) }
