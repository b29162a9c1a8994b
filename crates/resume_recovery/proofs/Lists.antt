-- What a list in a bank has, slot by slot.
use Rattle.std.proofs.Common.{◌≡◌, ◌⊎◌, inl, inr, ℕ, zero, suc, ◌+◌, ◌-◌, ◌<◌, ◌≤◌, List, [], ◌∷◌}
use Rattle.std.proofs.Common.{map, take, length, Option, Some, None, refl, ap, sym, ◌∙◌, arith, Bool, true, false, if◌then◌else◌}
use Rattle.std.specs.Prelude.{slice_get, min, not}
use Rattle.std.proofs.lemmas.Bool.{cases_lt}
use Rattle.std.proofs.lemmas.Option.{slice_get_within}
use Rattle.ido_base.specs.Locks.{is_held_by, is_missing, lesser, least_missing}
use Rattle.log_schemes.specs.Schemes.{numbers_from}

taken_few : (f : ℕ → ℕ) (at count n : ℕ) → n ≤ count → take n (map f (numbers_from at count)) ≡ map f (numbers_from at n)
taken_few f at count zero few = refl
taken_few f at zero (suc n) few = absurd (omega (arith, few))
taken_few f at (suc count) (suc n) few = ap (λ (xs : List ℕ). f at ∷ xs) (taken_few f (at + 1) count n (omega (arith, few)))

taken_all : (f : ℕ → ℕ) (at count n : ℕ) → count ≤ n → take n (map f (numbers_from at count)) ≡ map f (numbers_from at count)
taken_all f at zero zero all = refl
taken_all f at zero (suc n) all = refl
taken_all f at (suc count) zero all = absurd (omega (arith, all))
taken_all f at (suc count) (suc n) all = ap (λ (xs : List ℕ). f at ∷ xs) (taken_all f (at + 1) count n (omega (arith, all)))

-- as many as are said, 16 at most
pub taken : (f : ℕ → ℕ) (said count : ℕ) → (said < 16 → count ≡ said) → (16 ≤ said → count ≡ 16) →
    map f (numbers_from 0 count) ≡ take said (map f (numbers_from 0 16))
taken f said count few many = elim (cases_lt said 16) [
  | inl less ↦ ap (λ (n : ℕ). map f (numbers_from 0 n)) (few less) ∙ sym (taken_few f 0 16 said (omega (arith, less)))
  | inr no_less ↦ ap (λ (n : ℕ). map f (numbers_from 0 n)) (many (omega (arith, no_less))) ∙ sym (taken_all f 0 16 said (omega (arith, no_less)))
]

-- before the first one
pub begins : (f : ℕ → ℕ) (holders : List (Option ℕ)) (hart said count first : ℕ) → count ≡ min said 16 → said ≡ first →
    least_missing holders (map f (numbers_from 0 (count - 0))) hart ≡ least_missing holders (take first (map f (numbers_from 0 16))) hart
begins f holders hart said count first is at =
    let all : count - 0 ≡ count = omega arith in
    ap (λ (n : ℕ). least_missing holders (map f (numbers_from 0 n)) hart) all
    ∙ (ap (λ (ls : List ℕ). least_missing holders ls hart) (taken f said count (λ few. omega (arith, is, few)) (λ many. omega (arith, is, many)))
    ∙ ap (λ (n : ℕ). least_missing holders (take n (map f (numbers_from 0 16))) hart) at)

left_is : (count index : ℕ) → index < count → numbers_from index (count - index) ≡ index ∷ numbers_from (index + 1) (count - (index + 1))
left_is count index below =
    let more : count - index ≡ suc (count - (index + 1)) = omega (arith, below) in ap (λ (n : ℕ). numbers_from index n) more

-- the least of those before, and of the rest
abbrev pub least_of : Option ℕ → Option ℕ → Option ℕ
least_of None rest = rest
least_of (Some lock) rest = Some (lesser lock rest)

regroup : (lock : ℕ) (before rest : Option ℕ) → least_of (Some (lesser lock before)) rest ≡ least_of before (Some (lesser lock rest))
regroup lock None rest = refl
regroup lock (Some least) None = let same : min lock least ≡ min least lock = omega arith in ap (λ (n : ℕ). Some n) same
regroup lock (Some least) (Some other) =
    let same : min (min lock least) other ≡ min least (min lock other) = omega arith in ap (λ (n : ℕ). Some n) same

module _ (f : ℕ → ℕ) (holders : List (Option ℕ)) (hart count index : ℕ) (before : Option ℕ) where
  -- the next one is among those before, and no more of the rest
  pub next : index < count →
      least_of (if is_missing holders hart (f index) then Some (lesser (f index) before) else before)
      (least_missing holders (map f (numbers_from (index + 1) (count - (index + 1)))) hart)
      ≡ least_of before (least_missing holders (map f (numbers_from index (count - index))) hart)
  next below =
      by (is_missing holders hart (f index)) (least_missing holders (map f (numbers_from (index + 1) (count - (index + 1)))) hart)
      ∙ sym (ap (λ (ns : List ℕ). least_of before (least_missing holders (map f ns) hart)) (left_is count index below))
    where
      by : (missing : Bool) (rest : Option ℕ) → least_of (if missing then Some (lesser (f index) before) else before) rest
          ≡ least_of before (if missing then Some (lesser (f index) rest) else rest)
      by true rest = regroup (f index) before rest
      by false rest = refl

  -- past the last one there is no rest
  pub ends : count ≤ index → before ≡ least_of before (least_missing holders (map f (numbers_from index (count - index))) hart)
  ends past =
      let none : count - index ≡ 0 = omega (arith, past) in
      alone before ∙ sym (ap (λ (n : ℕ). least_of before (least_missing holders (map f (numbers_from index n)) hart)) none)
    where
      alone : (before : Option ℕ) → before ≡ least_of before None
      alone None = refl
      alone (Some least) = refl

-- a lock that is missing exists
pub missing_within : (holders : List (Option ℕ)) (hart lock : ℕ) → is_missing holders hart lock ≡ true → lock < length holders
missing_within holders hart lock missing = by (slice_get holders lock) refl missing
  where
    by : (o : Option (Option ℕ)) → slice_get holders lock ≡ o → (elim o [
      | Some holder ↦ not (is_held_by hart holder)
      | None ↦ false
    ]) ≡ true → lock < length holders
    by None at missing = cc
    by (Some holder) at missing = slice_get_within holders lock holder at
