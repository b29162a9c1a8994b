-- The products of the ends of two intervals lie in their product, and where 128 bits don't hold one, no kind holds the product.
use Rattle.std.proofs.Common.{◌≡◌, refl, sym, subst, ⊎_elim}
use Rattle.std.specs.Prelude.{ℤ, ◌*ℤ◌, ◌≤ℤ◌}
use Rattle.ido_ints.specs.declared.kinds.Kind.{Kind}
use Rattle.ido_ints.proofs.Public.{Bounded-fits, Holds-Bounded}
use Rattle.c_tree.specs.Ranges.{Interval, Within, only, full, fitted, hull, product}
use Rattle.c_ranges.specs.Bounds.{interval_of}
use Rattle.c_ranges.specs.links.Corners.{IsWide, HasWideCorner}
use Rattle.c_ranges.specs.declared.interval.Interval.{Interval as Range}
use Rattle.c_ranges.proofs.IntervalsOfKinds.{Inside, fitted_by}
use Rattle.c_ranges.proofs.IntervalHulls.{le_trans, Within_only, Within_hull_left, Within_hull_right}

pub record Corners (i j : Interval) : Type 0 where
  pub low_low : Within (product i j) (i.lo *ℤ j.lo)
  pub low_high : Within (product i j) (i.lo *ℤ j.hi)
  pub high_low : Within (product i j) (i.hi *ℤ j.lo)
  pub high_high : Within (product i j) (i.hi *ℤ j.hi)

pub corners : (i j : Interval) → Corners i j
corners i j =
    let ll = only (i.lo *ℤ j.lo) in
    let lh = only (i.lo *ℤ j.hi) in
    let hl = only (i.hi *ℤ j.lo) in
    let hh = only (i.hi *ℤ j.hi) in
    record {
      low_low = Within_hull_left (hull ll lh) (hull hl hh) _ (Within_hull_left ll lh _ (Within_only _));
      low_high = Within_hull_left (hull ll lh) (hull hl hh) _ (Within_hull_right ll lh _ (Within_only _));
      high_low = Within_hull_right (hull ll lh) (hull hl hh) _ (Within_hull_left hl hh _ (Within_only _));
      high_high = Within_hull_right (hull ll lh) (hull hl hh) _ (Within_hull_right hl hh _ (Within_only _));
    }

product_ordered : (i j : Interval) → (product i j).lo ≤ℤ (product i j).hi
product_ordered i j = let c = (corners i j).low_low in le_trans _ _ _ c.from_low c.to_high

pub ordered : (r : Range) (i j : Interval) → interval_of r ≡ product i j → r.lo ≤ℤ r.hi
ordered r i j e = let P : Interval → Type 0 = λ p. p.lo ≤ℤ p.hi in subst P (sym e) (product_ordered i j)

not_wide : (k : Kind) (p : Interval) (z : ℤ) → Inside k p → Within p z → IsWide z → ⊥
not_wide k p z h w wide = wide (Bounded-fits z (Holds-Bounded k z (record {
  from_least = le_trans _ p.lo z h.from_least w.from_low;
  to_greatest = le_trans z p.hi _ w.to_high h.to_greatest;
})))

pub wide_product : (k : Kind) (i j : Interval) → HasWideCorner i j → full k ≡ fitted k (product i j)
wide_product k i j wide =
    let c = corners i j in
    let P : Interval → Type 0 = λ r. full k ≡ r in
    fitted_by P k (product i j)
    (λ h. absurd (⊎_elim
    (⊎_elim (not_wide k (product i j) _ h c.low_low) (not_wide k (product i j) _ h c.low_high))
    (⊎_elim (not_wide k (product i j) _ h c.high_low) (not_wide k (product i j) _ h c.high_high))
    wide))
    refl
