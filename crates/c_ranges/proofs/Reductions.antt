-- Numbers within intervals, reduced into a kind.
use Rattle.std.proofs.Common.{◌≡◌, refl, sym, subst, Bool, true, false, cond, arith}
use Rattle.std.proofs.lemmas.Int.{ints}
use Rattle.std.specs.Prelude.{ℤ, pos}
use Rattle.ido_ints.specs.declared.kinds.Kind.{Kind}
use Rattle.ido_ints.specs.Kinds.{Holds, least_of, greatest_of}
use Rattle.ido_ints.specs.Operators.{truth}
use Rattle.ido_ints.specs.Reduction.{reduced}
use Rattle.ido_ints.proofs.Public.{Holds-reduced, reduced_held}
use Rattle.c_tree.specs.Ranges.{Interval, interval, Within, full, fitted, truth_range}
use Rattle.c_ranges.specs.Bounds.{HeldBy}
use Rattle.c_ranges.proofs.IntervalsOfKinds.{Inside, fitted_by}
use Rattle.c_ranges.proofs.HeldRanges.{range}
use Rattle.c_ranges.proofs.IntervalHulls.{le_trans, le_refl}

-- what holds in both cases of a test
pub cond_by : (P : Interval → Type 0) (b : Bool) (i j : Interval) → (true ≡ b → P i) → (false ≡ b → P j) → P (cond b i j)
cond_by P true i j p q = p refl
cond_by P false i j p q = q refl

pub Holds-within : (k : Kind) (i : Interval) (z : ℤ) → Inside k i → Within i z → Holds k z
Holds-within k i z h w = record { from_least = le_trans _ i.lo z h.from_least w.from_low; to_greatest = le_trans z i.hi _ w.to_high h.to_greatest }

-- a reduction keeps what lies in an interval that the kind holds
pub Within_kept : (k : Kind) (i : Interval) (z : ℤ) → Inside k i → Within i z → Within i (reduced k z)
Within_kept k i z h w = let P : ℤ → Type 0 = Within i in subst P (sym (reduced_held k z (Holds-within k i z h w))) w

pub Within_full : (k : Kind) (z : ℤ) → Within (full k) (reduced k z)
Within_full k z = let h = Holds-reduced k z in record { from_low = h.from_least; to_high = h.to_greatest }

pub Within_fitted : (k : Kind) (i : Interval) (z : ℤ) → Within i z → Within (fitted k i) (reduced k z)
Within_fitted k i z w = let P : Interval → Type 0 = λ r. Within r (reduced k z) in fitted_by P k i (λ h. Within_kept k i z h w) (Within_full k z)

pub Inside_full : (k : Kind) → Inside k (full k)
Inside_full k = record { from_least = le_refl (least_of k); to_greatest = le_refl (greatest_of k) }

pub Inside_fitted : (k : Kind) (i : Interval) → Inside k (fitted k i)
Inside_fitted k i = fitted_by (Inside k) k i (λ h. h) (Inside_full k)

pub Inside_HeldBy : (k : Kind) (l h : ℤ) → HeldBy k (range l h) → Inside k (interval l h)
Inside_HeldBy k l h r = record { from_least = r.from_least; to_greatest = r.to_greatest }

pub Within_truth : (b : Bool) → Within truth_range (truth b)
Within_truth true = record { from_low = omega (arith, ints); to_high = le_refl (pos 1) }
Within_truth false = record { from_low = le_refl (pos 0); to_high = omega (arith, ints) }
