-- Mutexes that a bank has.
use Rattle.std.proofs.Common.{◌≡◌, ◌⊎◌, inl, inr, refl, ℕ, zero, suc, ◌+◌, ◌-◌, ◌^◌, ◌<◌, ◌≤◌, sym, ap, ◌∙◌, subst, arith, pow_mono, Bool, true, false, Some}
use Rattle.std.proofs.Common.{List, [], ◌∷◌, length, map, take, drop, drop-cons}
use Rattle.std.specs.Prelude.{◌==◌, ◌||◌, ◌↔◌, min, slice_get, slice_index}
use Rattle.std.proofs.lemmas.Bool.{cases_lt, true≢false}
use Rattle.std.proofs.lemmas.List.{drop_all, length-map}
use Rattle.std.proofs.lemmas.Option.{get_or_from_slice_get, slice_get-get_or, slice_get_within}
use Rattle.ido_base.specs.declared.limits.TheConstants.{MOST_LOCKS}
use Rattle.log_schemes.specs.declared.log.Log.{Log}
use Rattle.log_schemes.specs.declared.keeping.Keeping.{Keeping}
use Rattle.log_schemes.specs.declared.keeping.Keeping.TheVariants.{Masked, Listed}
use Rattle.ido_base.specs.Locks.{has_lock, mask_with}
use Rattle.ido_base.proofs.Public.{none_high}
use Rattle.c_tree.specs.Exprs.{LockName}
use Rattle.c_tree.specs.Flats.{Flat}
use Rattle.c_tree.specs.Values.{lock_number}
use Rattle.c_tree.specs.WellFormed.{IsWellFormed}
use Rattle.log_schemes.specs.declared.point.Point.{Point}
use Rattle.log_schemes.specs.Schemes as room
use Rattle.log_schemes.specs.Schemes.{keeping_of, lock_slot, numbers_from, read_as}
use Rattle.flat_compile.specs.declared.resumes.Resume.{Resume}
use Rattle.image_checks.specs.Checks.{IsResumableLog, idle, kinds_of_thread, names_of_thread, resumed}
use Rattle.image_checks.specs.Logs.{AreFrom, AreOnce, HoldsLock, KeepsAs, Lists, Logs, home_in, locals_by, locks_at_point, locks_by, names_at, slot_in}
use Rattle.image_checks.specs.ResumeSlots.{AllHaveKinds, AllHaveRoom, HasRoom, HaveKinds}
use Rattle.image_checks.proofs.BankLocals.{few_named, locks_low}
use Rattle.image_checks.proofs.Points.{found_has}

-- ---- Lists

module _ (f : ℕ → ℕ) where
  pub taken_few : (at count n : ℕ) → n ≤ count → take n (map f (numbers_from at count)) ≡ map f (numbers_from at n)
  taken_few at count zero few = refl
  taken_few at zero (suc n) few = absurd (omega (arith, few))
  taken_few at (suc count) (suc n) few = ap (λ (xs : List ℕ). f at ∷ xs) (taken_few (at + 1) count n (omega (arith, few)))

  pub taken_all : (at count n : ℕ) → count ≤ n → take n (map f (numbers_from at count)) ≡ map f (numbers_from at count)
  taken_all at zero zero all = refl
  taken_all at zero (suc n) all = refl
  taken_all at (suc count) zero all = absurd (omega (arith, all))
  taken_all at (suc count) (suc n) all = ap (λ (xs : List ℕ). f at ∷ xs) (taken_all (at + 1) count n (omega (arith, all)))

  in_slots : (at : ℕ) (locks : List ℕ) → AreFrom f at locks → map f (numbers_from at (length locks)) ≡ locks
  in_slots at [] are = refl
  in_slots at (lock ∷ locks) are = λ i. are.0 i ∷ in_slots (at + 1) locks are.1 i

pub listed : (log : Log) (slot : ℕ → ℕ) (locks : List ℕ) → length locks ≤ 16 → Lists log slot locks → read_as Listed log slot ≡ locks
listed log slot locks few lists =
    let f : ℕ → ℕ = λ index. slot (lock_slot log index) in
    ap (λ (n : ℕ). take n (map f (numbers_from 0 16))) lists.0 ∙ taken_few f 0 16 (length locks) few ∙ in_slots f 0 locks lists.1

-- ---- A list, index by index

module _ (f : ℕ → ℕ) where
  -- as many as are said, 16 at most
  pub taken : (said count : ℕ) → count ≡ min said 16 → take said (map f (numbers_from 0 16)) ≡ map f (numbers_from 0 count)
  taken said count is = elim (cases_lt said 16) [
    | inl less ↦
        let same : said ≡ count = omega (arith, is, less) in
        taken_few f 0 16 said (omega (arith, less)) ∙ ap (λ (n : ℕ). map f (numbers_from 0 n)) same
    | inr more ↦
        let same : 16 ≡ count = omega (arith, is, more) in
        taken_all f 0 16 said (omega (arith, more)) ∙ ap (λ (n : ℕ). map f (numbers_from 0 n)) same
  ]

  left_is : (count index : ℕ) → index < count →
      map f (numbers_from index (count - index)) ≡ f index ∷ map f (numbers_from (index + 1) (count - (index + 1)))
  left_is count index below =
      let more : count - index ≡ suc (count - (index + 1)) = omega (arith, below) in ap (λ (n : ℕ). map f (numbers_from index n)) more

  pub found_next : (count index lock : ℕ) → index < count → (f index == lock) ≡ true →
      has_lock (map f (numbers_from index (count - index))) lock ≡ true
  found_next count index lock below is =
      ap (λ (ls : List ℕ). has_lock ls lock) (left_is count index below)
      ∙ ap (λ (b : Bool). b || has_lock (map f (numbers_from (index + 1) (count - (index + 1)))) lock) is

  pub not_next : (count index lock : ℕ) → index < count → (f index == lock) ≡ false →
      has_lock (map f (numbers_from index (count - index))) lock ≡ has_lock (map f (numbers_from (index + 1) (count - (index + 1)))) lock
  not_next count index lock below is =
      ap (λ (ls : List ℕ). has_lock ls lock) (left_is count index below)
      ∙ ap (λ (b : Bool). b || has_lock (map f (numbers_from (index + 1) (count - (index + 1)))) lock) is

  pub none_left : (count index lock : ℕ) → count ≤ index → has_lock (map f (numbers_from index (count - index))) lock ≡ false
  none_left count index lock past =
      let none : count - index ≡ 0 = omega (arith, past) in ap (λ (n : ℕ). has_lock (map f (numbers_from index n)) lock) none

-- ---- A list in its slots

split_at : (locks : List ℕ) (i : ℕ) → i < length locks → drop i locks ≡ slice_index locks i ∷ drop (i + 1) locks
split_at locks i below =
    let next : suc i ≡ i + 1 = omega arith in
    drop-cons locks i 0 below ∙ ap (λ (n : ℕ). slice_index locks i ∷ drop n locks) next

module _ (f : ℕ → ℕ) (locks : List ℕ) where
  abbrev pub AreLeft : (i : ℕ) → Type 0
  AreLeft i = AreFrom f i (drop i locks)

  here_and_next : (i : ℕ) → i < length locks → AreLeft i → (f i ≡ slice_index locks i) × AreLeft (i + 1)
  here_and_next i below are = subst (AreFrom f i) (split_at locks i below) are

  from_next : (i : ℕ) → i < length locks → f i ≡ slice_index locks i → AreLeft (i + 1) → AreLeft i
  from_next i below here are = subst (AreFrom f i) (sym (split_at locks i below)) (here, are)

  pub one_listed : (i : ℕ) → i < length locks → f i ≡ slice_index locks i → (AreLeft i ↔ AreFrom f 0 locks) → (AreLeft (i + 1) ↔ AreFrom f 0 locks)
  one_listed i below here so_far = (
    λ are. so_far.0 (from_next i below here are),
    λ all. (here_and_next i below (so_far.1 all)).1,
  )

  -- another one stands there
  pub not_listed : (i : ℕ) → i < length locks → ¬ (f i ≡ slice_index locks i) → (AreLeft i ↔ AreFrom f 0 locks) → ¬ (AreFrom f 0 locks)
  not_listed i below wrong so_far all = wrong (here_and_next i below (so_far.1 all)).0

  pub all_listed : (i : ℕ) → length locks ≤ i → (AreLeft i ↔ AreFrom f 0 locks) → AreFrom f 0 locks
  all_listed i past so_far = so_far.0 (subst (AreFrom f i) (sym (drop_all i locks past)) tt)

-- ---- None stands in a list twice

module _ (locks : List ℕ) where
  -- none of the first ones does
  abbrev pub AreOnceBelow : (count : ℕ) → Type 0
  AreOnceBelow count = (i j lock : ℕ) → i < count → j < count → slice_get locks i ≡ Some lock → slice_get locks j ≡ Some lock → i ≡ j

  pub none_once : AreOnceBelow 0
  none_once i j lock less more a b = absurd (omega (arith, less))

  index_is : (i lock : ℕ) → slice_get locks i ≡ Some lock → slice_index locks i ≡ lock
  index_is i lock there = get_or_from_slice_get locks i lock 0 there

  pub one_once : (count : ℕ) → AreOnceBelow count → ((i : ℕ) → i < count → ¬ (slice_index locks i ≡ slice_index locks count)) → AreOnceBelow (count + 1)
  one_once count so_far other i j lock less more a b = by (cases_lt i count) (cases_lt j count)
    where
      by : (i < count) ⊎ (count ≤ i) → (j < count) ⊎ (count ≤ j) → i ≡ j
      by (inl one) (inl two) = so_far i j lock one two a b
      by (inl one) (inr last) =
          let same : j ≡ count = omega (arith, more, last) in
          absurd (other i one (index_is i lock a ∙ (sym (index_is j lock b) ∙ ap (slice_index locks) same)))
      by (inr last) (inl two) =
          let same : i ≡ count = omega (arith, less, last) in
          absurd (other j two (index_is j lock b ∙ (sym (index_is i lock a) ∙ ap (slice_index locks) same)))
      by (inr last) (inr also) = let same : i ≡ j = omega (arith, less, more, last, also) in same

  pub all_once : (count : ℕ) → length locks ≤ count → AreOnceBelow count → AreOnce locks
  all_once count past so_far i j lock a b =
      so_far i j lock (omega (arith, past, slice_get_within locks i lock a)) (omega (arith, past, slice_get_within locks j lock b)) a b

  -- one does
  pub not_once : (i j : ℕ) → i < j → j < length locks → slice_index locks i ≡ slice_index locks j → ¬ (AreOnce locks)
  not_once i j less within same once =
      let one : slice_get locks i ≡ Some (slice_index locks i) = slice_get-get_or locks i 0 (omega (arith, less, within)) in
      let two : slice_get locks j ≡ Some (slice_index locks i) = slice_get-get_or locks j 0 within ∙ ap (λ (n : ℕ). Some n) (sym same) in
      let is : i ≡ j = once i j (slice_index locks i) one two in
      omega (arith, less, is)

-- ---- A mask

-- a mutex of a mask of 64 bits has a bit
pub low_power : (k m : ℕ) → 2 ^ k ≤ m → m < 2 ^ 64 → k < 64
low_power k m at_least below = elim (cases_lt k 64) [
  | inl low ↦ low
  | inr high ↦ absurd (omega (arith, at_least, below, pow_mono {i = 64} {j = k} high))
]

module _ (numbers : List ℕ) where
  pub next_power : (i : ℕ) → i < length numbers → mask_with (drop i numbers) ≡ 2 ^ slice_index numbers i + mask_with (drop (i + 1) numbers)
  next_power i below = ap mask_with (split_at numbers i below)

  pub no_power : (i : ℕ) → length numbers ≤ i → mask_with (drop i numbers) ≡ 0
  no_power i past = ap mask_with (drop_all i numbers past)

  -- what is summed so far leaves room for the next one
  pub next_fits : (i mask : ℕ) → i < length numbers → mask + mask_with (drop i numbers) ≡ mask_with numbers → mask_with numbers < 2 ^ 64 →
      mask + 2 ^ slice_index numbers i < 2 ^ 64
  next_fits i mask below so_far fits = omega (arith, so_far, fits, next_power i below)

  pub next_low : (i mask : ℕ) → i < length numbers → mask + mask_with (drop i numbers) ≡ mask_with numbers → mask_with numbers < 2 ^ 64 →
      slice_index numbers i < 64
  next_low i mask below so_far fits =
      low_power (slice_index numbers i) (mask_with numbers) (omega (arith, so_far, next_power i below)) fits

  pub next_mask : (i mask new bit : ℕ) → i < length numbers → mask + mask_with (drop i numbers) ≡ mask_with numbers → bit ≡ 2 ^ slice_index numbers i →
      new ≡ mask + bit → new + mask_with (drop (i + 1) numbers) ≡ mask_with numbers
  next_mask i mask new bit below so_far bit_is new_is = omega (arith, so_far, bit_is, new_is, next_power i below)

-- ---- The locks that a bank has

-- by a list they are those of its names
pub kept_listed : (log : Log) (slot home : ℕ → ℕ) (names : List LockName) (count : ℕ) (r : Resume) → room.HasRoom Listed r.held.items →
    KeepsAs Listed log slot home names count r → read_as Listed log slot ≡ locks_by home names count r
kept_listed log slot home names count r few keeps =
    let locks : List ℕ = locks_by home names count r in
    let short : length locks ≤ 16 =
    omega (arith, few, length-map (names_at names r.held.items) (lock_number (locals_by home r.live.items count)), few_named names r.held.items) in
    listed log slot locks short keeps.0

module _ (flat : Flat) (formed : IsWellFormed flat) (thread : ℕ) (slot home : ℕ → ℕ) (r : Resume)
    (have : HaveKinds (kinds_of_thread flat thread) r.live.items) where
  low_by : (k : Keeping) (log : Log) (lock : ℕ) → room.HasRoom k r.held.items →
      KeepsAs k log slot home (names_of_thread flat thread) (length (kinds_of_thread flat thread)) r → has_lock (read_as k log slot) lock ≡ true →
      lock < MOST_LOCKS
  low_by Masked log lock room keeps has = elim (cases_lt lock 64) [
    | inl low ↦ omega (arith, low)
    | inr high ↦ absurd (true≢false (sym has ∙ none_high (slot 0) lock high))
  ]
  low_by Listed log lock room keeps has =
      let among = subst (λ (locks : List ℕ). has_lock locks lock ≡ true)
      (kept_listed log slot home (names_of_thread flat thread) (length (kinds_of_thread flat thread)) r room keeps) has in
      let there : lock < length flat.mutexes = locks_low flat formed thread home r.live.items have r.held.items lock among in
      let few : length flat.mutexes ≤ MOST_LOCKS = formed.shared.mutexes in
      omega (arith, there, few)

-- no lock is held that isn't there
pub held_low : (flat : Flat) → IsWellFormed flat → (resumes : List Resume) (logs : Logs) (thread lock : ℕ) → AllHaveRoom logs.log resumes →
    AllHaveKinds (kinds_of_thread flat thread) resumes → IsResumableLog flat resumes logs thread → HoldsLock logs thread lock → lock < MOST_LOCKS
held_low flat formed resumes logs thread lock room kinds (idle point) has =
    absurd (true≢false (sym has ∙ ap (λ (p : Point). has_lock (locks_at_point logs thread p) lock) point))
held_low flat formed resumes logs thread lock room kinds (resumed address bank r point found right) has =
    low_by flat formed thread (λ slot. slot_in logs thread bank slot) (λ colour. home_in logs thread bank colour) r
    (found_has (λ (z : Resume). HaveKinds (kinds_of_thread flat thread) z.live.items) resumes address r kinds found) (keeping_of logs.log) logs.log lock
    (found_has (HasRoom logs.log) resumes address r room found) right.locks
    (sym (ap (λ (p : Point). has_lock (locks_at_point logs thread p) lock) point) ∙ has)
