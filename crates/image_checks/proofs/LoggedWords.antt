-- What logs say by their words, where these are a machine's durable ones.
use Rattle.std.proofs.Common.{◌≡◌, ◌≢◌, refl, ℕ, ◌+◌, ◌-◌, ◌*◌, ◌/◌, ◌%◌, ◌<◌, ◌≤◌, List, [], ◌∷◌, length, map, ap, sym, ◌∙◌, subst, arith, inl, inr, Option}
use Rattle.std.specs.Prelude.{◌==◌}
use Rattle.std.specs.List.{Contains}
use Rattle.std.proofs.lemmas.Bool.{cases_Bool, cond-false, cond-true, eqb-false, eqb-true, eq-eqb, ne_eqb}
use Rattle.std.proofs.lemmas.List.Elements.{Contains-append_left, Contains-append_right}
use Rattle.log_schemes.specs.declared.log.Log.{Log}
use Rattle.log_schemes.specs.declared.keeping.Keeping.{Keeping}
use Rattle.log_schemes.specs.declared.keeping.Keeping.TheVariants.{Masked, Listed}
use Rattle.log_schemes.specs.declared.size.LogSize.{LogSize}
use Rattle.log_schemes.specs.declared.size.LogSize.TheVariants.{Lines16, Lines32}
use Rattle.ido_base.specs.Layout.{line_bytes, logs_base}
use Rattle.log_schemes.specs.Layout.{frame_at, log_words, point_at, slot_at}
use Rattle.log_schemes.specs.declared.addresses.TheConstants.{FRAME}
use Rattle.log_schemes.specs.declared.locals.Locals.TheVariants.{Frame}
use Rattle.ido_base.specs.declared.limits.TheConstants.{LOCAL_REGISTERS}
use Rattle.image_checks.specs.declared.limits.TheConstants.{BANK_SLOTS}
use Rattle.ido_base.specs.Locks.{mask_with}
use Rattle.ido_base.specs.Words.{Word}
use Rattle.c_tree.specs.Exprs.{LockName}
use Rattle.boundary_code.specs.Boundaries.{pairs_kept, slots_kept}
use Rattle.log_schemes.specs.Schemes.{bank_distance, bank_slots, keeping_of, kept_as, kept_locks, lines_in_bank, lines_of, listed_from, lock_slot, locks_read}
use Rattle.log_schemes.specs.Schemes.{locals_of, register_slot, size_of}
use Rattle.log_schemes.specs.declared.point.Point.{Point}
use Rattle.log_schemes.specs.declared.point.Point.TheVariants.{At, Idle}
use Rattle.log_schemes.specs.Points.{point_of}
use Rattle.machine_model.specs.Machine.{bank_of, durable_at, durable_point, record_of, recorded}
use Rattle.log_schemes.specs.SchemeFacts.{AreLoggable, HasEach, frame_index}
use Rattle.log_states.proofs.Public.{contains_cases, contains_first, contains_later, contains_none, locks_kept, scheme}
use Rattle.flat_compile.specs.declared.resumes.Resume.{Resume}
use Rattle.image_checks.specs.Logs.{AreFrom, AreOnce, KeepsAs, KeepsLocks, Lists, Logs, locks_at_point, locks_by}
use Rattle.image_checks.specs.Logs.{log_locks, logged, logs_of, point_in, slot_in}

-- ---- Where words of logs stand, by the size of logs

point_as : (size : LogSize) (n : ℕ) → logs_base ≤ logs_base + line_bytes * lines_of size * n
point_as Lines16 n = omega arith
point_as Lines32 n = omega arith

slot_as : (size : LogSize) (n bank slot : ℕ) → logs_base ≤ logs_base + line_bytes * lines_of size * n + 64 + bank_distance size * bank + 8 * slot
slot_as Lines16 n bank slot = omega arith
slot_as Lines32 n bank slot = omega arith

point_in_as : (size : LogSize) (n words : ℕ) → 8 * lines_of size * (n + 1) ≤ words →
    (logs_base + line_bytes * lines_of size * n - logs_base) / 8 < words
point_in_as Lines16 n words fits = let all : 128 * (n + 1) ≤ words = fits in omega (arith, all)
point_in_as Lines32 n words fits = let all : 256 * (n + 1) ≤ words = fits in omega (arith, all)

slot_in_as : (size : LogSize) (n bank slot words : ℕ) → bank < 2 → slot < 8 * lines_in_bank size → 8 * lines_of size * (n + 1) ≤ words →
    (logs_base + line_bytes * lines_of size * n + 64 + bank_distance size * bank + 8 * slot - logs_base) / 8 < words
slot_in_as Lines16 n bank slot words two own fits = let all : 128 * (n + 1) ≤ words = fits in omega (arith, two, own, all)
slot_in_as Lines32 n bank slot words two own fits = let all : 256 * (n + 1) ≤ words = fits in omega (arith, two, own, all)

frame_at_as : (size : LogSize) (n word : ℕ) → logs_base ≤ logs_base + line_bytes * lines_of size * n + FRAME + 8 * word
frame_at_as Lines16 n word = omega arith
frame_at_as Lines32 n word = omega arith

index_in_as : (size : LogSize) (n i words : ℕ) → i < 8 * lines_of size → 8 * lines_of size * (n + 1) ≤ words →
    (logs_base + line_bytes * lines_of size * n + 8 * i - logs_base) / 8 < words
index_in_as Lines16 n i words own fits = let all : 128 * (n + 1) ≤ words = fits in omega (arith, own, all)
index_in_as Lines32 n i words own fits = let all : 256 * (n + 1) ≤ words = fits in omega (arith, own, all)

pub above_point : (log : Log) (n : ℕ) → logs_base ≤ point_at log n
above_point log n = point_as (size_of log) n

pub above_slot : (log : Log) (n bank slot : ℕ) → logs_base ≤ slot_at log n bank slot
above_slot log n bank slot = slot_as (size_of log) n bank slot

pub above_frame : (log : Log) (n word : ℕ) → logs_base ≤ frame_at log n word
above_frame log n word = frame_at_as (size_of log) n word

-- where locals stand in the frame, each word of it is one of the log
pub frame_within : (log : Log) (n word words : ℕ) → locals_of log ≡ Frame → word < LOCAL_REGISTERS → log_words log * (n + 1) ≤ words →
    (frame_at log n word - logs_base) / 8 < words
frame_within log n word words is below fits =
    let stands = (scheme log).frame in
    subst (λ (address : ℕ). (address - logs_base) / 8 < words) (sym (stands.address n word))
    (index_in_as (size_of log) n (frame_index word) words (stands.inside word is below) fits)

-- a bank has the first slots
bank_as : (size : LogSize) (slot : ℕ) → slot < 32 → slot < 8 * lines_in_bank size
bank_as Lines16 slot below = omega (arith, below)
bank_as Lines32 slot below = omega (arith, below)

pub first_slots : (log : Log) (slot : ℕ) → slot < BANK_SLOTS → slot < bank_slots log
first_slots log slot below = bank_as (size_of log) slot below

pub point_within : (log : Log) (n words : ℕ) → log_words log * (n + 1) ≤ words → (point_at log n - logs_base) / 8 < words
point_within log n words fits = point_in_as (size_of log) n words fits

pub slot_within : (log : Log) (n bank slot words : ℕ) → bank < 2 → slot < bank_slots log → log_words log * (n + 1) ≤ words →
    (slot_at log n bank slot - logs_base) / 8 < words
slot_within log n bank slot words two own fits = slot_in_as (size_of log) n bank slot words two own fits

-- ---- The locks of a bank by its slots

pub same_slots : (log : Log) (f g : ℕ → ℕ) → ((slot : ℕ) → f slot ≡ g slot) → locks_read log f ≡ locks_read log g
same_slots log f g same = ap (locks_read log) (λ i slot. same slot i)

some_locks : (log : Log) (words : List Word) (n : ℕ) → durable_point log words n ≢ 0 →
    record_of log words n ≡ locks_read log (λ slot. recorded log words n slot)
some_locks log words n some =
    cond-false (durable_point log words n == 0) [] (locks_read log (λ slot. recorded log words n slot)) (ne_eqb (durable_point log words n) 0 some)

no_record : (log : Log) (words : List Word) (n : ℕ) → durable_point log words n ≡ 0 → record_of log words n ≡ []
no_record log words n none = cond-true (durable_point log words n == 0) [] _ (eq-eqb (durable_point log words n) 0 none)

-- ---- Words that are there

module _ (log : Log) (words : List Word) (ws : List ℕ) (there : (address : ℕ) → logs_base ≤ address → durable_at words address ≡ logged ws address) where
  abbrev logs : Logs
  logs = logs_of log ws

  pub point_is : (n : ℕ) → point_in logs n ≡ point_of (durable_point log words n)
  point_is n = ap point_of (sym (there (point_at log n) (above_point log n)))

  pub slot_there : (n bank slot : ℕ) → durable_at words (slot_at log n bank slot) ≡ slot_in logs n bank slot
  slot_there n bank slot = there (slot_at log n bank slot) (above_slot log n bank slot)

  pub recorded_there : (n slot : ℕ) → recorded log words n slot ≡ slot_in logs n (bank_of (durable_point log words n)) slot
  recorded_there n slot = slot_there n (bank_of (durable_point log words n)) slot

  pub locks_there : (n : ℕ) → record_of log words n ≡ log_locks logs n
  locks_there n =
      let w : ℕ = durable_point log words n in
      let at : Point = At (w - w % 2) (w % 2) in
      elim (cases_Bool (w == 0)) [
        | inl zeroth ↦
            no_record log words n (eqb-true w 0 zeroth)
            ∙ sym (ap (λ (p : Point). locks_at_point logs n p) (point_is n ∙ cond-true (w == 0) Idle at zeroth))
        | inr other_than ↦
            some_locks log words n (eqb-false w 0 other_than)
            ∙ (same_slots log (λ slot. recorded log words n slot) (λ slot. slot_in logs n (bank_of w) slot) (λ slot. recorded_there n slot)
            ∙ sym (ap (λ (p : Point). locks_at_point logs n p) (point_is n ∙ cond-false (w == 0) Idle at other_than)))
      ]

-- ---- What a bank keeps, slot by slot

from_listed : (log : Log) (f : ℕ → ℕ) (index : ℕ) (locks : List ℕ) → HasEach f (listed_from log index locks) →
    AreFrom (λ i. f (lock_slot log i)) index locks
from_listed log f index [] has = tt
from_listed log f index (lock ∷ locks) has =
    let first : ℕ × ℕ = (lock_slot log index, lock) in (
      has first (contains_first first (listed_from log (index + 1) locks)),
      from_listed log f (index + 1) locks (λ one c. has one (contains_later first (listed_from log (index + 1) locks) one c)),
    )

listed_has : (log : Log) (f : ℕ → ℕ) (index : ℕ) (locks : List ℕ) → AreFrom (λ i. f (lock_slot log i)) index locks →
    HasEach f (listed_from log index locks)
listed_has log f index [] are one c = absurd (contains_none one c)
listed_has log f index (lock ∷ locks) are one c = elim (contains_cases (lock_slot log index, lock) (listed_from log (index + 1) locks) one c) [
  | inl is ↦ ap (λ (z : ℕ × ℕ). f z.0) is ∙ are.0 ∙ sym (ap (λ (z : ℕ × ℕ). z.1) is)
  | inr rest ↦ listed_has log f (index + 1) locks are.1 one rest
]

all_from : (log : Log) (f : ℕ → ℕ) (locks : List ℕ) → HasEach f (kept_as Listed log locks) → Lists log f locks
all_from log f locks has = (
  has (0, length locks) (contains_first (0, length locks) (listed_from log 0 locks)),
  from_listed log f 0 locks (λ one c. has one (contains_later (0, length locks) (listed_from log 0 locks) one c)),
)

-- a bank that keeps the locks has those of the held names, which are the locks by its slots, each once; with a mask their numbers are those of mutexes
module _ (f home : ℕ → ℕ) (names : List LockName) (count : ℕ) (r : Resume) (locks : List ℕ) (log : Log) where
  keeps_as : (k : Keeping) → HasEach f (kept_as k log locks) → (k ≡ Masked → r.held.items ≡ locks) → locks_by home names count r ≡ locks → AreOnce locks →
      KeepsAs k log f home names count r
  keeps_as Masked has plain same once = has (0, mask_with locks) (contains_first (0, mask_with locks) []) ∙ ap mask_with (sym (plain refl))
  keeps_as Listed has plain same once = (subst (Lists log f) (sym same) (all_from log f locks has), subst AreOnce (sym same) once)

  each_as : (k : Keeping) → KeepsAs k log f home names count r → (k ≡ Masked → r.held.items ≡ locks) → locks_by home names count r ≡ locks →
      HasEach f (kept_as k log locks)
  each_as Masked keeps plain same one c = elim (contains_cases (0, mask_with locks) [] one c) [
    | inl is ↦ ap (λ (z : ℕ × ℕ). f z.0) is ∙ (keeps ∙ ap mask_with (plain refl)) ∙ sym (ap (λ (z : ℕ × ℕ). z.1) is)
    | inr none ↦ absurd (contains_none one none)
  ]
  each_as Listed keeps plain same one c =
      let lists : Lists log f locks = subst (Lists log f) same keeps.0 in
      elim (contains_cases (0, length locks) (listed_from log 0 locks) one c) [
        | inl is ↦ ap (λ (z : ℕ × ℕ). f z.0) is ∙ lists.0 ∙ sym (ap (λ (z : ℕ × ℕ). z.1) is)
        | inr rest ↦ listed_has log f 0 locks lists.1 one rest
      ]

  pub keeps_locks : HasEach f (kept_locks log locks) → (keeping_of log ≡ Masked → r.held.items ≡ locks) → locks_by home names count r ≡ locks →
      AreOnce locks → KeepsLocks log f home names count r
  keeps_locks has plain same once = keeps_as (keeping_of log) has plain same once

  pub locks_each : KeepsLocks log f home names count r → (keeping_of log ≡ Masked → r.held.items ≡ locks) → locks_by home names count r ≡ locks →
      HasEach f (kept_locks log locks)
  locks_each keeps plain same = each_as (keeping_of log) keeps plain same

pub kept_are_locks : (log : Log) (f : ℕ → ℕ) (locks : List ℕ) → AreLoggable log locks → HasEach f (kept_locks log locks) → locks_read log f ≡ locks
kept_are_locks log f locks are has = (locks_kept log).read locks f are has

-- ---- Slots that a record keeps

contains_mapped : (kept : List (ℕ × ℕ)) (one : ℕ × ℕ) → Contains kept one → Contains (map (λ (k : ℕ × ℕ). k.0) kept) one.0
contains_mapped [] one c = absurd (contains_none one c)
contains_mapped (first ∷ kept) one c = elim (contains_cases first kept one c) [
  | inl is ↦ subst (λ (z : ℕ × ℕ). Contains (first.0 ∷ map (λ (k : ℕ × ℕ). k.0) kept) z.0) (sym is)
      (contains_first first.0 (map (λ (k : ℕ × ℕ). k.0) kept))
  | inr rest ↦ contains_later first.0 (map (λ (k : ℕ × ℕ). k.0) kept) one.0 (contains_mapped kept one rest)
]

pub pair_slot_kept : (log : Log) (locks : List ℕ) (written : Option ℕ) (live : List ℕ) (one : ℕ × ℕ) → Contains (pairs_kept log locks written) one →
    Contains (slots_kept log locks written live) one.0
pair_slot_kept log locks written live one c =
    Contains-append_left (map (λ (k : ℕ × ℕ). k.0) (pairs_kept log locks written)) (map (register_slot log) live) one.0
    (contains_mapped (pairs_kept log locks written) one c)

register_there : (log : Log) (live : List ℕ) (register : ℕ) → Contains live register → Contains (map (register_slot log) live) (register_slot log register)
register_there log [] register c = absurd (contains_none register c)
register_there log (first ∷ live) register c = elim (contains_cases first live register c) [
  | inl is ↦ subst (λ (r : ℕ). Contains (map (register_slot log) (first ∷ live)) (register_slot log r)) (sym is)
      (contains_first (register_slot log first) (map (register_slot log) live))
  | inr more ↦ contains_later (register_slot log first) (map (register_slot log) live) (register_slot log register) (register_there log live register more)
]

pub register_slot_kept : (log : Log) (locks : List ℕ) (written : Option ℕ) (live : List ℕ) (register : ℕ) → Contains live register →
    Contains (slots_kept log locks written live) (register_slot log register)
register_slot_kept log locks written live register c =
    Contains-append_right (map (λ (k : ℕ × ℕ). k.0) (pairs_kept log locks written)) (map (register_slot log) live) (register_slot log register)
    (register_there log live register c)
