-- The registers that a hart resumes with.
use Rattle.std.proofs.Common.{◌≡◌, ℕ, zero, suc, ◌+◌, ◌<◌, List, length, map, get_or, set, inl, inr}
use Rattle.std.proofs.Common.{refl, sym, ◌∙◌, ap, subst, arith, get_or-set_same, get_or-set_other}
use Rattle.std.proofs.lemmas.Bool.{cases_eq}
use Rattle.std.proofs.lemmas.List.{ext_get_or}
use Rattle.log_schemes.specs.Schemes.{numbers_from}

-- the n-th of a function of numbers
get-numbers : (f : ℕ → ℕ) (at count n : ℕ) → n < count → get_or (map f (numbers_from at count)) n 0 ≡ f (at + n)
get-numbers f at zero n below = absurd (omega (arith, below))
get-numbers f at (suc count) zero below = let e : at ≡ at + 0 = omega arith in ap f e
get-numbers f at (suc count) (suc n) below = let e : at + 1 + n ≡ at + suc n = omega arith in get-numbers f (at + 1) count n (omega (arith, below)) ∙ ap f e

length-numbers : (f : ℕ → ℕ) (at count : ℕ) → length (map f (numbers_from at count)) ≡ count
length-numbers f at zero = refl
length-numbers f at (suc count) = ap suc (length-numbers f (at + 1) count)

-- one register more
pub set_next : (f : ℕ → ℕ) (registers : List ℕ) (n value : ℕ) → n < length registers → value ≡ f n → ((i : ℕ) → i < n → get_or registers i 0 ≡ f i) → (i : ℕ) →
    i < n + 1 → get_or (set registers n value) i 0 ≡ f i
set_next f registers n value within is before i below = elim (cases_eq i n) [
  | inl same ↦ subst (λ (j : ℕ). get_or (set registers n value) j 0 ≡ f j) (sym same) (get_or-set_same registers n value 0 within ∙ is)
  | inr other ↦ get_or-set_other registers n i value 0 other ∙ before i (omega (arith, other, below))
]

-- all of them
pub all_set : (f : ℕ → ℕ) (registers : List ℕ) (count : ℕ) → length registers ≡ count → ((i : ℕ) → i < count → get_or registers i 0 ≡ f i) →
    registers ≡ map f (numbers_from 0 count)
all_set f registers count size each = ext_get_or 0 registers (map f (numbers_from 0 count)) (size ∙ sym (length-numbers f 0 count)) (λ i below.
    let within : i < count = omega (arith, below, size) in
    let e : 0 + i ≡ i = omega arith in
    each i within ∙ sym (get-numbers f 0 count i within ∙ ap f e))
