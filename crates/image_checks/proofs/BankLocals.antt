-- The numbers of locals by the words of their homes, and the locks that names have by them.
use Rattle.std.proofs.Common.{◌≡◌, ◌⊎◌, inl, inr, refl, ℕ, zero, suc, ◌+◌, ◌<◌, ◌≤◌, sym, ap, ◌∙◌, subst, arith, Option, Some, None, true}
use Rattle.std.proofs.Common.{List, [], ◌∷◌, ◌++◌, length, length-append, map, get_or, ℤ}
use Rattle.std.specs.List.{AllByRecursion, AllZip}
use Rattle.std.specs.Option.{option_to_list}
use Rattle.std.specs.Prelude.{All, ◌==◌, find, pos, slice_get, slice_index_or}
use Rattle.std.proofs.lemmas.Bool.{cases_lt, cond_both, eqb-true, true≢false}
use Rattle.std.proofs.lemmas.List.{get_or_append_left, get_or_push, length-map, map-append}
use Rattle.std.proofs.lemmas.Option.{none-some, same_Some, slice_get_within}
use Rattle.ido_base.specs.Locks.{has_lock}
use Rattle.ido_base.proofs.Public.{has_cases}
use Rattle.ido_ints.specs.declared.kinds.Kind.{Kind}
use Rattle.ido_ints.specs.Kinds.{Holds}
use Rattle.ido_ints.proofs.Public.{Holds-reduced, Holds-zero}
use Rattle.c_tree.specs.Exprs.{LockName}
use Rattle.c_tree.specs.Flats.{Flat, Thread, flat_of, thread_of}
use Rattle.c_tree.specs.declared.flat.Flat as flat
use Rattle.c_tree.specs.declared.flat.Thread as text
use Rattle.c_tree.specs.LockDiscipline.{numbers_below}
use Rattle.c_tree.specs.LockNames.{lock_names}
use Rattle.c_tree.specs.Values.{lock_number}
use Rattle.c_tree.specs.WellFormed.{AreFlatStatements, IsFlatLockName, IsWellFormed}
use Rattle.c_ranges.proofs.Public.{lock_below}
use Rattle.flow_graph.proofs.Public.{all_at}
use Rattle.flat_compile.specs.declared.resumes.LiveLocal.{LiveLocal}
use Rattle.image_checks.specs.Checks.{kinds_of_thread, names_of_thread}
use Rattle.image_checks.specs.Logs.{local_by, locals_by, names_at}
use Rattle.image_checks.specs.ResumeSlots.{HaveKinds}
use Rattle.image_checks.proofs.HeldNumbers.{names_formed}

-- ---- Numbers below one

length_numbers : (n : ℕ) → length (numbers_below n) ≡ n
length_numbers zero = refl
length_numbers (suc n) = let h : length (numbers_below n) ≡ n = length_numbers n in omega (arith, h, length-append (numbers_below n) (n ∷ []))

module _ (g : ℕ → ℤ) where
  pub one_more : (n : ℕ) → map g (numbers_below (n + 1)) ≡ map g (numbers_below n) ++ g n ∷ []
  one_more n = let next : n + 1 ≡ suc n = omega arith in ap (λ (k : ℕ). map g (numbers_below k)) next ∙ map-append g (numbers_below n) (n ∷ [])

  length_mapped : (n : ℕ) → length (map g (numbers_below n)) ≡ n
  length_mapped n = length-map (numbers_below n) g ∙ length_numbers n

  mapped_at : (n i : ℕ) → i < n → get_or (map g (numbers_below n)) i (pos 0) ≡ g i
  mapped_at zero i below = absurd (omega (arith, below))
  mapped_at (suc n) i below = ap (λ (xs : List ℤ). get_or xs i (pos 0)) (map-append g (numbers_below n) (n ∷ [])) ∙ by (cases_lt i n) (mapped_at n i)
    where
      by : (i < n) ⊎ (n ≤ i) → (i < n → get_or (map g (numbers_below n)) i (pos 0) ≡ g i) →
          get_or (map g (numbers_below n) ++ g n ∷ []) i (pos 0) ≡ g i
      by (inl less) earlier =
          get_or_append_left (map g (numbers_below n)) (g n ∷ []) (pos 0) i (omega (arith, less, length_mapped n)) ∙ earlier less
      by (inr more) earlier =
          let same : n ≡ i = omega (arith, below, more) in
          get_or_push (map g (numbers_below n)) (g n) (pos 0) i (length_mapped n ∙ same) ∙ ap g same

-- ---- Live locals

-- what holds of all of them holds of the one that is found, which has the number
pub found_local : (P : LiveLocal → Type 0) (live : List LiveLocal) (local : ℕ) (l : LiveLocal) → All P live →
    find (λ (z : LiveLocal). z.local == local) live ≡ Some l → P l × (l.local ≡ local)
found_local P [] local l all found = absurd (none-some l found)
found_local P (x ∷ live) local l all found =
    cond_both (x.local == local) (Some x) (find (λ (z : LiveLocal). z.local == local) live) (λ o. o ≡ Some l → P l × (l.local ≡ local))
    (λ yes is. let same : x ≡ l = same_Some x l is in (
      subst P same (all 0 x (omega arith)),
      ap (λ (z : LiveLocal). z.local) (sym same) ∙ eqb-true x.local local yes,
    ))
    (λ _ is. found_local P live local l (λ k d below. all (suc k) d (omega (arith, below))) is)
    found

module _ (home : ℕ → ℕ) (live : List LiveLocal) where
  -- the one of that number, if it is live
  abbrev pub live_at : (local : ℕ) → Option LiveLocal
  live_at local = find (λ (l : LiveLocal). l.local == local) live

  pub length-locals_by : (count : ℕ) → length (locals_by home live count) ≡ count
  length-locals_by count = length_mapped (λ (local : ℕ). local_by home (live_at local)) count

  pub local_at : (count local : ℕ) → local < count → slice_index_or (locals_by home live count) local (pos 0) ≡ local_by home (live_at local)
  local_at count local below = mapped_at (λ (local : ℕ). local_by home (live_at local)) count local below

  held_by : (kinds : List Kind) (local : ℕ) (k : Kind) (o : Option LiveLocal) → live_at local ≡ o → HaveKinds kinds live →
      slice_get kinds local ≡ Some k → Holds k (local_by home o)
  held_by kinds local k None is have there = Holds-zero k
  held_by kinds local k (Some l) is have there =
      let own = found_local (λ (z : LiveLocal). slice_get kinds z.local ≡ Some z.kind) live local l have is in
      let same : l.kind ≡ k = same_Some l.kind k (sym own.0 ∙ (ap (slice_get kinds) own.1 ∙ there)) in
      subst (λ (j : Kind). Holds j (local_by home (Some l))) same (Holds-reduced l.kind (pos (home l.colour)))

-- numbers of these kinds, one by one
zipped : (kinds : List Kind) (numbers : List ℤ) → length kinds ≡ length numbers →
    ((local : ℕ) (k : Kind) → slice_get kinds local ≡ Some k → Holds k (slice_index_or numbers local (pos 0))) → AllZip Holds kinds numbers
zipped [] [] long each = tt
zipped [] (n ∷ numbers) long each = absurd (omega (arith, long))
zipped (k ∷ kinds) [] long each = absurd (omega (arith, long))
zipped (k ∷ kinds) (n ∷ numbers) long each = (each 0 k refl, zipped kinds numbers (omega (arith, long)) (λ local j there. each (suc local) j there))

-- each number is one of its local's kind
pub locals_held : (home : ℕ → ℕ) (live : List LiveLocal) (kinds : List Kind) → HaveKinds kinds live → AllZip Holds kinds (locals_by home live (length kinds))
locals_held home live kinds have = zipped kinds (locals_by home live (length kinds)) (sym (length-locals_by home live (length kinds))) each
  where
    each : (local : ℕ) (k : Kind) → slice_get kinds local ≡ Some k → Holds k (slice_index_or (locals_by home live (length kinds)) local (pos 0))
    each local k there =
        subst (Holds k) (sym (local_at home live (length kinds) local (slice_get_within kinds local k there)))
        (held_by home live kinds local k (live_at home live local) refl have there)

-- ---- Names by their numbers

module _ (P : LockName → Type 0) (names : List LockName) (all : AllByRecursion P names) where
  all_with : (o : Option LockName) (rest : List LockName) → ((x : LockName) → o ≡ Some x → P x) → AllByRecursion P rest →
      AllByRecursion P (option_to_list o ++ rest)
  all_with None rest each more = more
  all_with (Some x) rest each more = (each x refl, more)

  all_named : (held : List ℕ) → AllByRecursion P (names_at names held)
  all_named [] = tt
  all_named (k ∷ held) = all_with (slice_get names k) (names_at names held) (λ x there. all_at P names k x all there) (all_named held)

-- ---- Their locks

formed_from : (x : Flat) (ts : List Thread) (n : ℕ) → AllByRecursion (λ (t : Thread). AreFlatStatements x t.locals t.body) ts →
    AllByRecursion (IsFlatLockName x.mutexes (slice_index_or (map (λ (t : Thread). t.locals) ts) n []))
    (slice_index_or (map (λ (t : Thread). lock_names x t) ts) n [])
formed_from x [] n h = tt
formed_from x (t ∷ ts) zero h = names_formed x t.locals t h.0
formed_from x (t ∷ ts) (suc n) h = formed_from x ts n h.1

low_mapped : (bound : ℕ) (g : LockName → ℕ) (xs : List LockName) (lock : ℕ) → AllByRecursion (λ (x : LockName). g x < bound) xs →
    has_lock (map g xs) lock ≡ true → lock < bound
low_mapped bound g [] lock h has = absurd (true≢false (sym has))
low_mapped bound g (x ∷ xs) lock h has = elim (has_cases lock (g x) (map g xs) has) [
  | inl same ↦ subst (λ (n : ℕ). n < bound) same h.0
  | inr among ↦ low_mapped bound g xs lock h.1 among
]

all_low : (bound : ℕ) (P : LockName → Type 0) (g : LockName → ℕ) → ((x : LockName) → P x → g x < bound) → (xs : List LockName) → AllByRecursion P xs →
    AllByRecursion (λ (x : LockName). g x < bound) xs
all_low bound P g low [] h = tt
all_low bound P g low (x ∷ xs) h = (low x h.0, all_low bound P g low xs h.1)

module _ (x : Flat) (formed : IsWellFormed x) (thread : ℕ) (home : ℕ → ℕ) (live : List LiveLocal) (have : HaveKinds (kinds_of_thread x thread) live) where
  abbrev kinds : List Kind
  kinds = kinds_of_thread x thread

  abbrev numbers : List ℤ
  numbers = locals_by home live (length kinds)

  -- each lock of a name is there
  pub locks_low : (held : List ℕ) (lock : ℕ) → has_lock (map (lock_number numbers) (names_at (names_of_thread x thread) held)) lock ≡ true →
      lock < length x.mutexes
  locks_low held lock has =
      let names : List LockName = names_of_thread x thread in
      low_mapped (length x.mutexes) (lock_number numbers) (names_at names held) lock
      (all_low (length x.mutexes) (IsFlatLockName x.mutexes kinds) (lock_number numbers)
      (λ name h. lock_below x.mutexes kinds numbers name (locals_held home live kinds have) h)
      (names_at names held) (all_named (IsFlatLockName x.mutexes kinds) names (formed_from x x.threads thread formed.threads) held)) has

-- ---- How many there are

length_one : (o : Option LockName) → length (option_to_list o) ≤ 1
length_one None = omega arith
length_one (Some x) = omega arith

pub few_named : (names : List LockName) (held : List ℕ) → length (names_at names held) ≤ length held
few_named names [] = omega arith
few_named names (k ∷ held) =
    omega (arith, length-append (option_to_list (slice_get names k)) (names_at names held), length_one (slice_get names k), few_named names held)

-- ---- A thread of that number

names_at_text : (x : flat.Flat) (ts : List text.Thread) (n : ℕ) (t : text.Thread) → slice_get ts n ≡ Some t →
    slice_index_or (map (λ (u : Thread). lock_names (flat_of x) u) (map thread_of ts)) n [] ≡ lock_names (flat_of x) (thread_of t)
names_at_text x [] n t there = absurd (none-some t there)
names_at_text x (u ∷ ts) zero t there = ap (λ (z : text.Thread). lock_names (flat_of x) (thread_of z)) (same_Some u t there)
names_at_text x (u ∷ ts) (suc n) t there = names_at_text x ts n t there

pub names_there : (x : flat.Flat) (n : ℕ) (t : text.Thread) → slice_get x.threads.items n ≡ Some t →
    names_of_thread (flat_of x) n ≡ lock_names (flat_of x) (thread_of t)
names_there x n t there = names_at_text x x.threads.items n t there

kinds_at_text : (ts : List text.Thread) (n : ℕ) (t : text.Thread) → slice_get ts n ≡ Some t →
    slice_index_or (map (λ (u : Thread). u.locals) (map thread_of ts)) n [] ≡ t.locals.items
kinds_at_text [] n t there = absurd (none-some t there)
kinds_at_text (u ∷ ts) zero t there = ap (λ (z : text.Thread). z.locals.items) (same_Some u t there)
kinds_at_text (u ∷ ts) (suc n) t there = kinds_at_text ts n t there

pub kinds_there : (x : flat.Flat) (n : ℕ) (t : text.Thread) → slice_get x.threads.items n ≡ Some t → kinds_of_thread (flat_of x) n ≡ t.locals.items
kinds_there x n t there = kinds_at_text x.threads.items n t there
