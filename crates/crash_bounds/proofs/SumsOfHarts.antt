-- Sums over harts, and of steps that each belong to one of them.
use Rattle.std.proofs.Common.{◌≡◌, inl, inr, refl, ℕ, zero, suc, ◌+◌, ◌*◌, ◌<◌, ◌≤◌, List, [], ◌∷◌, length, ap, ◌∙◌, arith}
use Rattle.std.proofs.lemmas.Bool.{cases_eq}
use Rattle.std.proofs.Math.Nat.{le-max_left, le-max_right, mul-suc}
use Rattle.crash_bounds.specs.Rates.{sum_below, most_below}
use Rattle.crash_bounds.proofs.BegunSteps.{counted_in, counted_own, counted_other}

pub sum_within : (harts : ℕ) (f g k : ℕ → ℕ) → ((h : ℕ) → f h ≤ g h + k h) → sum_below harts f ≤ sum_below harts g + sum_below harts k
sum_within zero f g k within = omega arith
sum_within (suc h) f g k within =
    let below = sum_within h f g k within in
    let here = within h in
    omega (arith, below, here)

pub sum_joins : (harts : ℕ) (f g : ℕ → ℕ) → sum_below harts (λ h. f h + g h) ≡ sum_below harts f + sum_below harts g
sum_joins zero f g = refl
sum_joins (suc h) f g = let below = sum_joins h f g in omega (arith, below)

pub one_below : (harts h : ℕ) (f : ℕ → ℕ) → h < harts → f h ≤ sum_below harts f
one_below zero h f below = absurd (omega (arith, below))
one_below (suc last) h f below = elim (cases_eq h last) [
  | inl is ↦ let same = ap f is in omega (arith, same)
  | inr other ↦ let less = one_below last h f (omega (arith, below, other)) in omega (arith, less)
]

pub most_is : (harts h : ℕ) (f : ℕ → ℕ) → h < harts → f h ≤ most_below harts f
most_is zero h f below = absurd (omega (arith, below))
most_is (suc last) h f below =
    let left = le-max_left (most_below last f) (f last) in
    let right = le-max_right (most_below last f) (f last) in
    elim (cases_eq h last) [
      | inl is ↦ let same = ap f is in omega (arith, same, right)
      | inr other ↦ let less = most_is last h f (omega (arith, below, other)) in omega (arith, less, left)
    ]

-- ---- Steps of harts, each at its hart's price

module _ (price : ℕ → ℕ) where
  abbrev paid : (harts : ℕ) → List ℕ → ℕ
  paid harts xs = sum_below harts (λ h. price h * counted_in h xs)

  one_other : (harts x : ℕ) (xs : List ℕ) → harts ≤ x → paid harts (x ∷ xs) ≡ paid harts xs
  one_other zero x xs above = refl
  one_other (suc h) x xs above =
      let below = one_other h x xs (omega (arith, above)) in
      let same = ap (λ (n : ℕ). price h * n) (counted_other x h xs (λ e. let z : ⊥ = omega (arith, e, above) in z)) in
      omega (arith, below, same)

  one_more : (harts most x : ℕ) (xs : List ℕ) → ((h : ℕ) → h < harts → price h ≤ most) → paid harts (x ∷ xs) ≤ paid harts xs + most
  one_more zero most x xs within = omega arith
  one_more (suc h) most x xs within = elim (cases_eq x h) [
    | inl is ↦
        let below = one_other h x xs (omega (arith, is)) in
        let own : counted_in h (x ∷ xs) ≡ suc (counted_in h xs) = ap (λ (k : ℕ). counted_in h (k ∷ xs)) is ∙ counted_own h xs in
        let here : price h * counted_in h (x ∷ xs) ≡ price h * counted_in h xs + price h =
        ap (λ (n : ℕ). price h * n) own ∙ mul-suc (price h) (counted_in h xs) in
        let dear = within h (omega arith) in
        omega (arith, below, here, dear)
    | inr other ↦
        let below = one_more h most x xs (λ g less. within g (omega (arith, less))) in
        let same = ap (λ (n : ℕ). price h * n) (counted_other x h xs other) in
        omega (arith, below, same)
  ]

  none_paid : (harts : ℕ) → paid harts [] ≡ 0
  none_paid zero = refl
  none_paid (suc h) = let below = none_paid h in omega (arith, below)

  pub all_paid : (harts most : ℕ) (xs : List ℕ) → ((h : ℕ) → h < harts → price h ≤ most) → paid harts xs ≤ most * length xs
  all_paid harts most [] within = let none = none_paid harts in omega (arith, none)
  all_paid harts most (x ∷ xs) within =
      let fewer = all_paid harts most xs within in
      let one = one_more harts most x xs within in
      let product = mul-suc most (length xs) in
      omega (arith, fewer, one, product)
