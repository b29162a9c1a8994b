-- Locks of masks: a mask is that of its locks, and the least one that is missing is found bit by bit.
use Rattle.std.proofs.Common.{◌≡◌, inl, inr, ℕ, zero, suc, ◌+◌, ◌*◌, ◌/◌, ◌%◌, ◌^◌, ◌<◌, ◌≤◌, ◌≢◌, ◌==◌, ◌&&◌, ◌||◌, List, [], ◌∷◌, length, refl, ap, sym}
use Rattle.std.proofs.Common.{◌∙◌, arith, cond, Bool, true, false, Option, Some, None, pow-suc}
use Rattle.std.specs.Prelude.{slice_get, not}
use Rattle.std.proofs.lemmas.Bool.{cases_Bool, cond-true, cond-false, eqb-true, eqb-false, eq-eqb, ne_eqb, or_left}
use Rattle.std.proofs.lemmas.Nat.Bits.{bit_at_lowest, bit_at-suc}
use Rattle.std.proofs.lemmas.Option.{none-some}
use Rattle.ido_base.specs.Locks.{is_held_by, is_missing, has_lock, lesser, least_missing, locks_from, locks_in, mask_with}

-- ---- There and back

odd_half : (m : ℕ) → m % 2 ≡ 1 → m ≡ 1 + 2 * (m / 2)
odd_half m e = omega (arith, e)

even_half : (m : ℕ) → (m % 2 == 1) ≡ false → m ≡ 2 * (m / 2)
even_half m e = let other = eqb-false (m % 2) 1 e in omega (arith, other)

half_below : (m n : ℕ) → m < 2 ^ suc n → m / 2 < 2 ^ n
half_below m n below = let p : 2 ^ suc n ≡ 2 ^ n * 2 = pow-suc 2 n in omega (arith, below, p)

next_power : (at : ℕ) → 2 ^ (at + 1) ≡ 2 ^ at * 2
next_power at = let s : at + 1 ≡ suc at = omega arith in ap (λ (n : ℕ). 2 ^ n) s ∙ pow-suc 2 at

-- one bit more, by what the others are
mask_with_bit : (at bits m : ℕ) → mask_with (locks_from (at + 1) bits (m / 2)) ≡ m / 2 * 2 ^ (at + 1) →
    mask_with (locks_from at (suc bits) m) ≡ m * 2 ^ at
mask_with_bit at bits m rest =
    let more : mask_with (locks_from (at + 1) bits (m / 2)) ≡ m / 2 * (2 ^ at * 2) = rest ∙ ap (λ (p : ℕ). m / 2 * p) (next_power at) in
    elim (cases_Bool (m % 2 == 1)) [
      | inl odd ↦
          ap mask_with (cond-true (m % 2 == 1) (at ∷ locks_from (at + 1) bits (m / 2)) (locks_from (at + 1) bits (m / 2)) odd)
          ∙ (ap (λ (k : ℕ). 2 ^ at + k) more ∙ ((let e : 2 ^ at + m / 2 * (2 ^ at * 2) ≡ (1 + 2 * (m / 2)) * 2 ^ at = omega arith in e)
          ∙ ap (λ (k : ℕ). k * 2 ^ at) (sym (odd_half m (eqb-true (m % 2) 1 odd)))))
      | inr even ↦
          ap mask_with (cond-false (m % 2 == 1) (at ∷ locks_from (at + 1) bits (m / 2)) (locks_from (at + 1) bits (m / 2)) even)
          ∙ (more ∙ ((let e : m / 2 * (2 ^ at * 2) ≡ 2 * (m / 2) * 2 ^ at = omega arith in e) ∙ ap (λ (k : ℕ). k * 2 ^ at) (sym (even_half m even))))
    ]

mask_from : (at bits m : ℕ) → m < 2 ^ bits → mask_with (locks_from at bits m) ≡ m * 2 ^ at
mask_from at zero m below = let none : m ≡ 0 = omega (arith, below) in (let z : 0 ≡ 0 * 2 ^ at = omega arith in z) ∙ ap (λ (k : ℕ). k * 2 ^ at) (sym none)
mask_from at (suc bits) m below = mask_with_bit at bits m (mask_from (at + 1) bits (m / 2) (half_below m bits below))

-- the mask of a mask's locks is that mask
pub mask_of_locks : (m : ℕ) → m < 2 ^ 64 → mask_with (locks_in m) ≡ m
unfolding locks_in
mask_of_locks m below = mask_from 0 64 m below ∙ (let e : m * 1 ≡ m = omega arith in e)

-- 0 has none
pub no_locks : locks_in 0 ≡ []
unfolding locks_in
no_locks = refl

-- ---- Each lock

one_more : (odd : Bool) (at lock : ℕ) (more : List ℕ) → at ≢ lock → has_lock (cond odd (at ∷ more) more) lock ≡ has_lock more lock
one_more true at lock more other = ap (λ (b : Bool). b || has_lock more lock) (ne_eqb at lock other)
one_more false at lock more other = refl

none_below : (at bits m lock : ℕ) → lock < at → has_lock (locks_from at bits m) lock ≡ false
none_below at zero m lock below = refl
none_below at (suc bits) m lock below =
    one_more (m % 2 == 1) at lock (locks_from (at + 1) bits (m / 2)) (λ e. omega (arith, e, below))
    ∙ none_below (at + 1) bits (m / 2) lock (omega (arith, below))

none_past : (at bits m lock : ℕ) → at + bits ≤ lock → has_lock (locks_from at bits m) lock ≡ false
none_past at zero m lock past = refl
none_past at (suc bits) m lock past =
    one_more (m % 2 == 1) at lock (locks_from (at + 1) bits (m / 2)) (λ e. omega (arith, e, past))
    ∙ none_past (at + 1) bits (m / 2) lock (omega (arith, past))

first_bit : (odd : Bool) (at bits m : ℕ) → has_lock (cond odd (at ∷ locks_from (at + 1) bits m) (locks_from (at + 1) bits m)) (at + 0) ≡ odd
first_bit true at bits m = or_left (at == at + 0) (has_lock (locks_from (at + 1) bits m) (at + 0)) (eq-eqb at (at + 0) (let z : at ≡ at + 0 = omega arith in z))
first_bit false at bits m = none_below (at + 1) bits m (at + 0) (omega arith)

bit_from : (at bits m k : ℕ) → k < bits → has_lock (locks_from at bits m) (at + k) ≡ (m / 2 ^ k % 2 == 1)
bit_from at zero m k below = absurd (let z : ⊥ = omega (arith, below) in z)
bit_from at (suc bits) m zero below = first_bit (m % 2 == 1) at bits (m / 2) ∙ ap (λ (n : ℕ). n == 1) (sym (bit_at_lowest m))
bit_from at (suc bits) m (suc k) below =
    one_more (m % 2 == 1) at (at + suc k) (locks_from (at + 1) bits (m / 2)) (λ e. omega (arith, e))
    ∙ (ap (λ (n : ℕ). has_lock (locks_from (at + 1) bits (m / 2)) n) (let z : at + suc k ≡ at + 1 + k = omega arith in z)
    ∙ (bit_from (at + 1) bits (m / 2) k (omega (arith, below)) ∙ ap (λ (n : ℕ). n == 1) (sym (bit_at-suc m k))))

-- a mask has the locks of its bits, and none past the last
pub has_bit : (m lock : ℕ) → lock < 64 → has_lock (locks_in m) lock ≡ (m / 2 ^ lock % 2 == 1)
unfolding locks_in
has_bit m lock below = ap (λ (n : ℕ). has_lock (locks_from 0 64 m) n) (let z : lock ≡ 0 + lock = omega arith in z) ∙ bit_from 0 64 m lock below

pub none_high : (m lock : ℕ) → 64 ≤ lock → has_lock (locks_in m) lock ≡ false
unfolding locks_in
none_high m lock past = none_past 0 64 m lock past

-- ---- The least one that is missing

-- by the holders of the locks from the number on, and the bits of the mask from there on
abbrev pub missing_from : (at : ℕ) → List (Option ℕ) → (rest hart : ℕ) → Option ℕ
missing_from at [] rest hart = None
missing_from at (holder ∷ holders) rest hart = cond (rest % 2 == 1 && not (is_held_by hart holder)) (Some at) (missing_from (at + 1) holders (rest / 2) hart)

-- with no bit left none is missing
none_left : (at : ℕ) (holders : List (Option ℕ)) (hart : ℕ) → missing_from at holders 0 hart ≡ None
none_left at [] hart = refl
none_left at (holder ∷ holders) hart = none_left (at + 1) holders hart

-- locks that don't exist don't count
none_exists : (holders : List (Option ℕ)) (at bits m hart : ℕ) → length holders ≤ at → least_missing holders (locks_from at bits m) hart ≡ None
none_exists holders at zero m hart past = refl
none_exists holders at (suc bits) m hart past =
    passed_by holders at bits m hart past (none_exists holders (at + 1) bits (m / 2) hart (omega (arith, past)))
  where
    passed_by : (holders : List (Option ℕ)) (at bits m hart : ℕ) → length holders ≤ at → least_missing holders (locks_from (at + 1) bits (m / 2)) hart ≡ None →
        least_missing holders (locks_from at (suc bits) m) hart ≡ None
    passed_by holders at bits m hart past more = elim (cases_Bool (m % 2 == 1)) [
      | inl odd ↦
          ap (λ (ls : List ℕ). least_missing holders ls hart)
          (cond-true (m % 2 == 1) (at ∷ locks_from (at + 1) bits (m / 2)) (locks_from (at + 1) bits (m / 2)) odd)
          ∙ (ap (λ (b : Bool). cond b (Some (lesser at (least_missing holders (locks_from (at + 1) bits (m / 2)) hart)))
          (least_missing holders (locks_from (at + 1) bits (m / 2)) hart)) (absent holders at hart past) ∙ more)
      | inr even ↦
          ap (λ (ls : List ℕ). least_missing holders ls hart)
          (cond-false (m % 2 == 1) (at ∷ locks_from (at + 1) bits (m / 2)) (locks_from (at + 1) bits (m / 2)) even)
          ∙ more
    ]
      where
        absent : (holders : List (Option ℕ)) (at hart : ℕ) → length holders ≤ at → is_missing holders hart at ≡ false
        absent [] at hart past = refl
        absent (o ∷ os) zero hart past = absurd (let z : ⊥ = omega (arith, past) in z)
        absent (o ∷ os) (suc at) hart past = absent os at hart (omega (arith, past))

-- what is found from a number on is no less
found_past : (at from : ℕ) (holders : List (Option ℕ)) (rest hart : ℕ) → at ≤ from → lesser at (missing_from from holders rest hart) ≡ at
found_past at from [] rest hart below = refl
found_past at from (holder ∷ holders) rest hart below =
    by (rest % 2 == 1 && not (is_held_by hart holder)) (found_past at (from + 1) holders (rest / 2) hart (omega (arith, below)))
  where
    by : (missing : Bool) → lesser at (missing_from (from + 1) holders (rest / 2) hart) ≡ at →
        lesser at (cond missing (Some from) (missing_from (from + 1) holders (rest / 2) hart)) ≡ at
    by true more = omega (arith, below)
    by false more = more

-- the least of a mask's locks that is missing is found along the holders
module _ (all : List (Option ℕ)) (hart : ℕ) where
  found_along : (at bits m : ℕ) (holders : List (Option ℕ)) → m < 2 ^ bits → ((k : ℕ) → slice_get all (at + k) ≡ slice_get holders k) →
      least_missing all (locks_from at bits m) hart ≡ missing_from at holders m hart
  found_along at zero m holders below same =
      let none : m ≡ 0 = omega (arith, below) in sym (ap (λ (k : ℕ). missing_from at holders k hart) none ∙ none_left at holders hart)
  found_along at (suc bits) m [] below same = none_exists all at (suc bits) m hart (ends all at (sym_none (same 0)))
    where
      sym_none : slice_get all (at + 0) ≡ None → slice_get all at ≡ None
      sym_none e = (let z : at ≡ at + 0 = omega arith in ap (λ (n : ℕ). slice_get all n) z) ∙ e

      ends : (xs : List (Option ℕ)) (n : ℕ) → slice_get xs n ≡ None → length xs ≤ n
      ends [] n e = omega arith
      ends (x ∷ xs) zero e = absurd (none-some x (sym e))
      ends (x ∷ xs) (suc n) e = let more = ends xs n e in omega (arith, more)
  found_along at (suc bits) m (holder ∷ holders) below same = found_at at bits m holder holders (head (same 0))
      (found_along (at + 1) bits (m / 2) holders (half_below m bits below) (λ k. later k (same (suc k))))
    where
      head : slice_get all (at + 0) ≡ Some holder → slice_get all at ≡ Some holder
      head e = (let z : at ≡ at + 0 = omega arith in ap (λ (n : ℕ). slice_get all n) z) ∙ e

      later : (k : ℕ) → slice_get all (at + suc k) ≡ slice_get holders k → slice_get all (at + 1 + k) ≡ slice_get holders k
      later k e = (let z : at + 1 + k ≡ at + suc k = omega arith in ap (λ (n : ℕ). slice_get all n) z) ∙ e

      found_at : (at bits m : ℕ) (holder : Option ℕ) (holders : List (Option ℕ)) → slice_get all at ≡ Some holder →
          least_missing all (locks_from (at + 1) bits (m / 2)) hart ≡ missing_from (at + 1) holders (m / 2) hart →
          least_missing all (locks_from at (suc bits) m) hart ≡ missing_from at (holder ∷ holders) m hart
      found_at at bits m holder holders there more = by (m % 2 == 1)
        where
          by : (odd : Bool) → least_missing all (cond odd (at ∷ locks_from (at + 1) bits (m / 2)) (locks_from (at + 1) bits (m / 2))) hart
              ≡ cond (odd && not (is_held_by hart holder)) (Some at) (missing_from (at + 1) holders (m / 2) hart)
          by true = ap (λ (x : Option (Option ℕ)). cond (missing_by x) (Some (lesser at (least_missing all (locks_from (at + 1) bits (m / 2)) hart)))
              (least_missing all (locks_from (at + 1) bits (m / 2)) hart)) there
              ∙ (ap (λ (r : Option ℕ). cond (not (is_held_by hart holder)) (Some (lesser at r)) r) more
              ∙ ap (λ (n : ℕ). cond (not (is_held_by hart holder)) (Some n) (missing_from (at + 1) holders (m / 2) hart))
              (found_past at (at + 1) holders (m / 2) hart (omega arith)))
            where
              missing_by : Option (Option ℕ) → Bool
              missing_by (Some o) = not (is_held_by hart o)
              missing_by None = false
          by false = more

  pub least_of_mask : (m : ℕ) → m < 2 ^ 64 → least_missing all (locks_in m) hart ≡ missing_from 0 all m hart
  unfolding locks_in
  least_of_mask m below = found_along 0 64 m all below (λ k. let z : 0 + k ≡ k = omega arith in ap (λ (n : ℕ). slice_get all n) z)
