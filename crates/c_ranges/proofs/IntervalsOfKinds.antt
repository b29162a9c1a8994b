-- Lesser and greater numbers, hulls, and intervals that a kind may hold.
use Rattle.std.proofs.Common.{◌≡◌, refl, sym, Bool, true, false, cond, arith}
use Rattle.std.specs.Prelude.{ℤ, pos, ◌≤ℤ◌, ◌<ℤ◌, int_le}
use Rattle.std.proofs.lemmas.Int.{ints}
use Rattle.ido_ints.specs.declared.kinds.Kind.{Kind}
use Rattle.ido_ints.specs.Kinds.{least_of, greatest_of}
use Rattle.c_tree.specs.Ranges.{Interval, full, lies_in, fitted, lesser, greater, from_zero_up, is_positive_value}

pub int_le-true : (x y : ℤ) → int_le x y ≡ true → x ≤ℤ y
int_le-true x y h = grind (arith, ints)

pub int_le-false : (x y : ℤ) → int_le x y ≡ false → y ≤ℤ x
int_le-false x y h = grind (arith, ints)

-- what holds of both of two numbers holds of the lesser one, and of the greater one
pub lesser_by : (P : ℤ → Type 0) (x y : ℤ) → (x ≤ℤ y → P x) → (y ≤ℤ x → P y) → P (lesser x y)
lesser_by P x y p q =
    let by : (b : Bool) → int_le x y ≡ b → P (cond b x y) =
    λ b. elim b as (λ b. int_le x y ≡ b → P (cond b x y)) [ true ↦ λ e. p (int_le-true x y e) | false ↦ λ e. q (int_le-false x y e) ] in
    by (int_le x y) refl

pub greater_by : (P : ℤ → Type 0) (x y : ℤ) → (x ≤ℤ y → P y) → (y ≤ℤ x → P x) → P (greater x y)
greater_by P x y p q =
    let by : (b : Bool) → int_le x y ≡ b → P (cond b y x) =
    λ b. elim b as (λ b. int_le x y ≡ b → P (cond b y x)) [ true ↦ λ e. p (int_le-true x y e) | false ↦ λ e. q (int_le-false x y e) ] in
    by (int_le x y) refl

pub lesser_left : (x y : ℤ) → lesser x y ≤ℤ x
lesser_left x y = lesser_by (λ z. z ≤ℤ x) x y (λ h. omega (arith, ints)) (λ h. h)

pub lesser_right : (x y : ℤ) → lesser x y ≤ℤ y
lesser_right x y = lesser_by (λ z. z ≤ℤ y) x y (λ h. h) (λ h. omega (arith, ints))

pub greater_left : (x y : ℤ) → x ≤ℤ greater x y
greater_left x y = greater_by (λ z. x ≤ℤ z) x y (λ h. h) (λ h. omega (arith, ints))

pub greater_right : (x y : ℤ) → y ≤ℤ greater x y
greater_right x y = greater_by (λ z. y ≤ℤ z) x y (λ h. omega (arith, ints)) (λ h. h)

-- ---- What a kind holds

-- all of the interval lies in the range of the kind
pub record Inside (k : Kind) (i : Interval) : Type 0 where
  pub from_least : least_of k ≤ℤ i.lo
  pub to_greatest : i.hi ≤ℤ greatest_of k

pub lies_in-Inside : (k : Kind) (i : Interval) → lies_in i (full k) ≡ true → Inside k i
lies_in-Inside k i h = record { from_least = grind (arith, ints); to_greatest = grind (arith, ints) }

-- what is fitted is the interval itself, where the kind holds it, or the whole range
pub fitted_by : (P : Interval → Type 0) (k : Kind) (i : Interval) → (Inside k i → P i) → P (full k) → P (fitted k i)
fitted_by P k i p q =
    let by : (b : Bool) → lies_in i (full k) ≡ b → P (cond b i (full k)) =
    λ b. elim b as (λ b. lies_in i (full k) ≡ b → P (cond b i (full k))) [ true ↦ λ e. p (lies_in-Inside k i e) | false ↦ λ e. q ] in
    by (lies_in i (full k)) refl

-- ---- What tests on intervals say

pub from_zero_up-true : (i : Interval) → true ≡ from_zero_up i → pos 0 ≤ℤ i.lo
from_zero_up-true i h = int_le-true (pos 0) i.lo (sym h)

pub from_zero_up-false : (i : Interval) → false ≡ from_zero_up i → i.lo <ℤ pos 0
from_zero_up-false i h = grind (arith, ints)

pub record OneAbove (i : Interval) : Type 0 where
  pub one : i.lo ≡ i.hi
  pub positive : pos 0 <ℤ i.lo

pub is_positive_value-true : (i : Interval) → true ≡ is_positive_value i → OneAbove i
is_positive_value-true i h = record { one = grind (arith, ints); positive = grind (arith, ints) }
