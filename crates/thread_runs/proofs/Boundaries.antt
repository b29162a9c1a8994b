-- What a boundary does to memory, it may do, and it is apart from variables and from the thread's frame.
use Rattle.std.proofs.Common.{◌≡◌, ◌≢◌, ◌⊎◌, inl, inr, sym, ℕ, zero, suc, ◌+◌, ◌*◌, ◌/◌, ◌%◌, ◌^◌, ◌<◌, ◌≤◌, List}
use Rattle.std.proofs.Common.{[], ◌∷◌, ◌++◌, length, map, refl, ap, arith, subst, Bool, true}
use Rattle.std.proofs.Common.{false}
use Rattle.std.specs.Prelude.{◌==◌, ◌&&◌, ◌||◌, nat_le, Contains, Option}
use Rattle.std.specs.List.{list_any, filter}
use Rattle.std.proofs.lemmas.Bool.{cases_order, cond_both, le-leb}
use Rattle.std.proofs.lemmas.List.Elements.{Contains-append_cases}
use Rattle.log_schemes.specs.declared.keeping.Keeping.{Keeping}
use Rattle.log_schemes.specs.declared.keeping.Keeping.TheVariants.{Masked, Listed}
use Rattle.log_schemes.specs.declared.size.LogSize.{LogSize}
use Rattle.log_schemes.specs.declared.size.LogSize.TheVariants.{Lines16, Lines32}
use Rattle.ido_base.specs.Locks.{mask_with}
use Rattle.log_schemes.proofs.Public.{contains_cases, contains_first, contains_later, contains_none, is_listed, line_below, register_exists, scheme, size_holds}
use Rattle.log_schemes.specs.declared.log.Log.{Log}
use Rattle.ido_base.specs.Layout.{line_bytes, aligned, logs_base, variables_base}
use Rattle.log_schemes.specs.declared.locals.Locals.{Locals}
use Rattle.log_schemes.specs.declared.locals.Locals.TheVariants.{Registers, Frame}
use Rattle.log_schemes.specs.Layout.{frame_at, log_lines, log_of, in_range, point_at, slot_at}
use Rattle.log_schemes.specs.SchemeFacts.{frame_index, slot_index}
use Rattle.ido_base.specs.declared.limits.TheConstants.{LOCAL_REGISTERS}
use Rattle.log_schemes.specs.Schemes.{HasRoom, HaveRoom, bank_distance, bank_lines, bank_slots, keeping_of, kept_as, kept_locks, lines_in_bank, lines_of}
use Rattle.log_schemes.specs.Schemes.{listed_from, locals_of, register_slot, size_of, told}
use Rattle.rv64_isa.specs.Rows.{Effect, Continues, Loads, Stores, Cleans, Fences, Calls, read}
use Rattle.boundary_code.specs.Boundaries.{Boundary, boundary_effects, bank_effects, commit_effects, lines_in_use, is_empty}
use Rattle.boundary_code.specs.Boundaries.{frame_lines, frame_lines_at, other_side, pairs_kept, slots_kept}
use Rattle.code_runs.specs.CodeTraces.{MarkedEnvironment, seen_effects}
use Rattle.hart_runs.specs.HartsOnRuns.{is_access, MayGo}
use Rattle.thread_runs.specs.CodeFragments.{AreEffectsApart, IsAnswerable, IsOwnWord, ReadsOwn, of_frame, of_variable}

-- ---- Bytes of logs

pub both_true : (a b : Bool) → a ≡ true → b ≡ true → (a && b) ≡ true
both_true true b e f = f
both_true false b e f = e

pub second_true : (a b : Bool) → b ≡ true → (a || b) ≡ true
second_true true b e = refl
second_true false b e = e

-- the bytes are a log's
record AreOfLog (log : Log) (threads address bytes : ℕ) : Type 0 where
  from_base : logs_base ≤ address
  to_end : address + bytes ≤ logs_base + line_bytes * log_lines log * threads

log_in_range : (log : Log) (threads address bytes : ℕ) → AreOfLog log threads address bytes → in_range log threads address bytes ≡ true
log_in_range log threads address bytes l =
    second_true (nat_le variables_base address && nat_le (address + bytes) (variables_base + 65536))
    (nat_le logs_base address && nat_le (address + bytes) (logs_base + line_bytes * log_lines log * threads))
    (both_true (nat_le logs_base address) (nat_le (address + bytes) (logs_base + line_bytes * log_lines log * threads)) (le-leb logs_base address l.from_base)
    (le-leb (address + bytes) (logs_base + line_bytes * log_lines log * threads) l.to_end))

log_access : (log : Log) (threads address : ℕ) → AreOfLog log threads address 8 → address % 8 ≡ 0 → is_access log threads address 8 ≡ true
log_access log threads address l e =
    both_true (in_range log threads address 8) (aligned address 8) (log_in_range log threads address 8 l) (ap (λ (n : ℕ). n == 0) e)

slot_sized : (size : LogSize) (threads thread bank slot bytes : ℕ) → thread < threads → bank < 2 → slot < 8 * lines_in_bank size → bytes ≤ 8 →
    64 * lines_of size * thread + 64 + bank_distance size * bank + 8 * slot + bytes ≤ 64 * lines_of size * threads
slot_sized Lines16 threads thread bank slot bytes t b s c = omega (arith, t, b, s, c)
slot_sized Lines32 threads thread bank slot bytes t b s c = omega (arith, t, b, s, c)

slot_of_log : (log : Log) (threads thread bank slot bytes : ℕ) → thread < threads → bank < 2 → slot < bank_slots log → bytes ≤ 8 →
    AreOfLog log threads (slot_at log thread bank slot) bytes
slot_of_log log threads thread bank slot bytes t b s c =
    let within = slot_sized (size_of log) threads thread bank slot bytes t b s c in record { from_base = omega arith; to_end = omega (arith, within) }

aligned_sized : (size : LogSize) (thread bank slot : ℕ) → (0x2000_0000 + 64 * lines_of size * thread + 64 + bank_distance size * bank + 8 * slot) % 8 ≡ 0
aligned_sized Lines16 thread bank slot = omega arith
aligned_sized Lines32 thread bank slot = omega arith

slot_aligned : (log : Log) (thread bank slot : ℕ) → slot_at log thread bank slot % 8 ≡ 0
slot_aligned log thread bank slot = aligned_sized (size_of log) thread bank slot

point_sized : (size : LogSize) (threads thread bytes : ℕ) → thread < threads → bytes ≤ 8 → 64 * lines_of size * thread + bytes ≤ 64 * lines_of size * threads
point_sized Lines16 threads thread bytes t c = omega (arith, t, c)
point_sized Lines32 threads thread bytes t c = omega (arith, t, c)

point_of_log : (log : Log) (threads thread bytes : ℕ) → thread < threads → bytes ≤ 8 → AreOfLog log threads (point_at log thread) bytes
point_of_log log threads thread bytes t c =
    let within = point_sized (size_of log) threads thread bytes t c in record { from_base = omega arith; to_end = omega (arith, within) }

point_aligned_sized : (size : LogSize) (thread : ℕ) → (0x2000_0000 + 64 * lines_of size * thread) % 8 ≡ 0
point_aligned_sized Lines16 thread = omega arith
point_aligned_sized Lines32 thread = omega arith

point_aligned : (log : Log) (thread : ℕ) → point_at log thread % 8 ≡ 0
point_aligned log thread = point_aligned_sized (size_of log) thread

-- ---- Words of the frame

frame_sized : (size : LogSize) (threads thread word bytes : ℕ) → thread < threads → 64 + word < 8 * lines_of size → bytes ≤ 8 →
    64 * lines_of size * thread + 512 + 8 * word + bytes ≤ 64 * lines_of size * threads
frame_sized Lines16 threads thread word bytes t below c = omega (arith, t, below, c)
frame_sized Lines32 threads thread word bytes t below c = omega (arith, t, below, c)

frame_of_log : (log : Log) (threads thread word bytes : ℕ) → thread < threads → locals_of log ≡ Frame → word < LOCAL_REGISTERS → bytes ≤ 8 →
    AreOfLog log threads (frame_at log thread word) bytes
frame_of_log log threads thread word bytes t framed exists c =
    let inside = (scheme log).frame.inside word framed exists in
    let within = frame_sized (size_of log) threads thread word bytes t inside c in record { from_base = omega arith; to_end = omega (arith, within) }

frame_aligned_sized : (size : LogSize) (thread word : ℕ) → (0x2000_0000 + 64 * lines_of size * thread + 512 + 8 * word) % 8 ≡ 0
frame_aligned_sized Lines16 thread word = omega arith
frame_aligned_sized Lines32 thread word = omega arith

frame_aligned : (log : Log) (thread word : ℕ) → frame_at log thread word % 8 ≡ 0
frame_aligned log thread word = frame_aligned_sized (size_of log) thread word

-- a word of a thread's frame may be accessed
pub word_access : (log : Log) (threads thread address : ℕ) → thread < threads → IsOwnWord log thread address → is_access log threads address 8 ≡ true
word_access log threads thread address t own =
    subst (λ (n : ℕ). is_access log threads n 8 ≡ true) (sym own.is)
    (log_access log threads (frame_at log thread own.word) (frame_of_log log threads thread own.word 8 t own.framed own.exists (omega arith))
    (frame_aligned log thread own.word))

-- the bytes are none of the thread's frame
AreBesideFrame : (log : Log) (thread address bytes : ℕ) → Type 0
AreBesideFrame log thread address bytes = (word : ℕ) → locals_of log ≡ Frame → word < LOCAL_REGISTERS →
    (frame_at log thread word + 8 ≤ address) ⊎ (address + bytes ≤ frame_at log thread word)

-- two words of a log lie apart
words_apart : (base i j : ℕ) → i ≢ j → (base + 8 * i + 8 ≤ base + 8 * j) ⊎ (base + 8 * j + 8 ≤ base + 8 * i)
words_apart base i j other = elim (cases_order i j) [
  | inl same ↦ absurd (other same)
  | inr (inl below) ↦ inl (omega (arith, below))
  | inr (inr above) ↦ inr (omega (arith, above))
]

word_beside : (log : Log) (thread address index : ℕ) → address ≡ log_of log thread + 8 * index →
    ((word : ℕ) → locals_of log ≡ Frame → word < LOCAL_REGISTERS → frame_index word ≢ index) → AreBesideFrame log thread address 8
unfolding AreBesideFrame
word_beside log thread address index is other = λ word framed exists.
    let at = (scheme log).frame.address thread word in
    elim (words_apart (log_of log thread) (frame_index word) index (other word framed exists)) [
      | inl before ↦ inl (omega (arith, is, at, before))
      | inr after ↦ inr (omega (arith, is, at, after))
    ]

slot_beside : (log : Log) (thread bank slot : ℕ) → bank < 2 → slot < bank_slots log → AreBesideFrame log thread (slot_at log thread bank slot) 8
slot_beside log thread bank slot b s = word_beside log thread (slot_at log thread bank slot) (slot_index log bank slot)
    ((scheme log).stands.address thread bank slot) (λ word framed exists. (scheme log).frame.apart word bank slot framed exists b s)

point_beside : (log : Log) (thread : ℕ) → AreBesideFrame log thread (point_at log thread) 8
point_beside log thread = word_beside log thread (point_at log thread) 0 (omega arith) (λ word framed exists same. omega (arith, same))

-- what an environment answers that answers variables and the own frame alone
answers_apart : (log : Log) (thread address bytes at count : ℕ) → logs_base ≤ address → AreBesideFrame log thread address bytes →
    IsAnswerable log thread at count → (at + count ≤ address) ⊎ (address + bytes ≤ at)
unfolding AreBesideFrame
answers_apart log thread address bytes at count from beside (of_variable below) = inl (omega (arith, from, below))
answers_apart log thread address bytes at count from beside (of_frame own eight) =
    let is = own.is in
    elim (beside own.word own.framed own.exists) [
      | inl before ↦ inl (omega (arith, is, eight, before))
      | inr after ↦ inr (omega (arith, is, after))
    ]

-- ---- Effects on the thread's log

OnLog : Log → (threads thread : ℕ) → Effect → Type 0
OnLog log threads thread (Continues registers pc) = Unit {0}
OnLog log threads thread (Loads address bytes signed register) = Unit {0}
OnLog log threads thread (Stores address bytes value) =
    (is_access log threads address bytes ≡ true) × (logs_base ≤ address) × AreBesideFrame log thread address bytes
OnLog log threads thread (Cleans address) = in_range log threads address 1 ≡ true
OnLog log threads thread Fences = Unit {0}
OnLog log threads thread Calls = Unit {0}

AreOnLog : Log → (threads thread : ℕ) → List Effect → Type 0
AreOnLog log threads thread [] = Unit {0}
AreOnLog log threads thread (e ∷ es) = OnLog log threads thread e × AreOnLog log threads thread es

both_on_log : (log : Log) (threads thread : ℕ) (es fs : List Effect) → AreOnLog log threads thread es → AreOnLog log threads thread fs →
    AreOnLog log threads thread (es ++ fs)
unfolding AreOnLog
both_on_log log threads thread [] fs h k = k
both_on_log log threads thread (e ∷ es) fs h k = (h.0, both_on_log log threads thread es fs h.1 k)

log_may : (log : Log) (threads thread : ℕ) (es : List Effect) → AreOnLog log threads thread es → MayGo log threads (seen_effects es)
unfolding AreOnLog OnLog
log_may log threads thread [] h = tt
log_may log threads thread (Continues registers pc ∷ es) h = (refl, log_may log threads thread es h.1)
log_may log threads thread (Loads address bytes signed register ∷ es) h = (refl, log_may log threads thread es h.1)
log_may log threads thread (Stores address bytes value ∷ es) h = (h.0.0, log_may log threads thread es h.1)
log_may log threads thread (Cleans address ∷ es) h = (h.0, log_may log threads thread es h.1)
log_may log threads thread (Fences ∷ es) h = (refl, log_may log threads thread es h.1)
log_may log threads thread (Calls ∷ es) h = (refl, log_may log threads thread es h.1)

log_apart : (log : Log) (threads thread : ℕ) (s : MarkedEnvironment) (es : List Effect) → ReadsOwn log thread s → AreOnLog log threads thread es →
    AreEffectsApart s es
unfolding AreOnLog OnLog
log_apart log threads thread s [] reads h = tt
log_apart log threads thread s (Continues registers pc ∷ es) reads h = (tt, log_apart log threads thread s es reads h.1)
log_apart log threads thread s (Loads address bytes signed register ∷ es) reads h = (tt, log_apart log threads thread s es reads h.1)
log_apart log threads thread s (Stores address bytes value ∷ es) reads h = (
  λ at count v e. answers_apart log thread address bytes at count h.0.1 h.0.2 (reads at count v e),
  log_apart log threads thread s es reads h.1,
)
log_apart log threads thread s (Cleans address ∷ es) reads h = (tt, log_apart log threads thread s es reads h.1)
log_apart log threads thread s (Fences ∷ es) reads h = (tt, log_apart log threads thread s es reads h.1)
log_apart log threads thread s (Calls ∷ es) reads h = (tt, log_apart log threads thread s es reads h.1)

-- ---- Boundaries

module _ (log : Log) (threads thread bank : ℕ) (t : thread < threads) (b : bank < 2) where
  slot_store : (slot value : ℕ) → slot < bank_slots log → OnLog log threads thread (Stores (slot_at log thread bank slot) 8 value)
  unfolding OnLog
  slot_store slot value s =
      let l : AreOfLog log threads (slot_at log thread bank slot) 8 = slot_of_log log threads thread bank slot 8 t b s (omega arith) in
      (log_access log threads (slot_at log thread bank slot) l (slot_aligned log thread bank slot), l.from_base, slot_beside log thread bank slot b s)

  -- stores to slots of the bank
  stores_on_log : {A : Type 0} (slot value : A → ℕ) (xs : List A) → ((x : A) → Contains xs x → slot x < bank_slots log) →
      AreOnLog log threads thread (map (λ x. Stores (slot_at log thread bank (slot x)) 8 (value x)) xs)
  unfolding AreOnLog
  stores_on_log slot value [] h = tt
  stores_on_log slot value (x ∷ xs) h = (
    slot_store (slot x) (value x) (h x (zero, omega arith, refl)),
    stores_on_log slot value xs
        (λ y m. h y (suc m.0, (let l : m.0 < length xs = m.1 in omega (arith, l)), m.2)),
  )

  AreLines : List ℕ → Type 0
  AreLines [] = Unit {0}
  AreLines (line ∷ lines) = (8 * line < bank_slots log) × AreLines lines

  clean_on_log : (line : ℕ) → 8 * line < bank_slots log → OnLog log threads thread (Cleans (slot_at log thread bank (8 * line)))
  unfolding OnLog
  clean_on_log line l = log_in_range log threads (slot_at log thread bank (8 * line)) 1
      (slot_of_log log threads thread bank (8 * line) 1 t b l (omega arith))

  cleans_on_log : (f : ℕ → Bool) (lines : List ℕ) → AreLines lines →
      AreOnLog log threads thread (map (λ line. Cleans (slot_at log thread bank (8 * line))) (filter f lines))
  unfolding AreOnLog AreLines
  cleans_on_log f [] h = tt
  cleans_on_log f (line ∷ lines) h =
      cond_both (f line) (line ∷ filter f lines) (filter f lines)
      (λ (ls : List ℕ). AreOnLog log threads thread (map (λ line. Cleans (slot_at log thread bank (8 * line))) ls))
      (λ _. (clean_on_log line h.0, cleans_on_log f lines h.1)) (λ _. cleans_on_log f lines h.1)

lines_are : (log : Log) (threads thread bank : ℕ) (t : thread < threads) (b : bank < 2) (lines : List ℕ) →
    ((line : ℕ) → Contains lines line → 8 * line < bank_slots log) → AreLines log threads thread bank t b lines
unfolding AreLines
lines_are log threads thread bank t b [] h = tt
lines_are log threads thread bank t b (line ∷ lines) h =
    (h line (contains_first line lines), lines_are log threads thread bank t b lines (λ l c. h l (contains_later line lines l c)))

all_lines : (log : Log) (threads thread bank : ℕ) (t : thread < threads) (b : bank < 2) → AreLines log threads thread bank t b (bank_lines log)
all_lines log threads thread bank t b =
    lines_are log threads thread bank t b (bank_lines log) (λ line c. let below = line_below log line c in omega (arith, below))

-- the slots that keep locks are the bank's
module _ (log : Log) (locks : List ℕ) (kept : ℕ × ℕ) where
  first_slot : kept.0 ≡ 0 → kept.0 < bank_slots log
  first_slot none = let some = (size_holds (size_of log)).some in omega (arith, none, some)

  slots_kept_as : (k : Keeping) → keeping_of log ≡ k → HasRoom k locks → Contains (kept_as k log locks) kept → kept.0 < bank_slots log
  slots_kept_as Masked is room c = elim (contains_cases (0, mask_with locks) [] kept c) [
    | inl e ↦ first_slot (ap (λ (one : ℕ × ℕ). one.0) e)
    | inr none ↦ absurd (contains_none kept none)
  ]
  slots_kept_as Listed is room c = elim (contains_cases (0, length locks) (listed_from log 0 locks) kept c) [
    | inl e ↦ first_slot (ap (λ (one : ℕ × ℕ). one.0) e)
    | inr more ↦
        let one = is_listed log 0 locks kept more in
        let below = one.below in
        subst (λ (n : ℕ). n < bank_slots log) (sym one.slot_is) ((scheme log).apart.lock (0 + one.place) is (omega (arith, below, room))).exists
  ]

locks_have_slots : (log : Log) (locks : List ℕ) → HaveRoom log locks → (kept : ℕ × ℕ) → Contains (kept_locks log locks) kept → kept.0 < bank_slots log
locks_have_slots log locks room kept c = slots_kept_as log locks kept (keeping_of log) refl room c

pairs_have_slots : (log : Log) (locks : List ℕ) (written : Option ℕ) → HaveRoom log locks → (kept : ℕ × ℕ) → Contains (pairs_kept log locks written) kept →
    kept.0 < bank_slots log
pairs_have_slots log locks written room kept c = elim (Contains-append_cases (kept_locks log locks) (told log written) kept c) [
  | inl lock ↦ locks_have_slots log locks room kept lock
  | inr of_write ↦ ((scheme log).told.own written kept of_write).exists
]

-- lines of the frame are the log's
module _ (log : Log) (threads thread : ℕ) (t : thread < threads) where
  frame_line : (line : ℕ) → locals_of log ≡ Frame → 8 * line < LOCAL_REGISTERS → OnLog log threads thread (Cleans (frame_at log thread (8 * line)))
  unfolding OnLog
  frame_line line framed exists = log_in_range log threads (frame_at log thread (8 * line)) 1
      (frame_of_log log threads thread (8 * line) 1 t framed exists (omega arith))

  frame_on_log : (k : Locals) (opens : Bool) → locals_of log ≡ k →
      AreOnLog log threads thread (map (λ line. Cleans (frame_at log thread (8 * line))) (frame_lines_at k opens))
  unfolding AreOnLog
  frame_on_log Registers opens framed = tt
  frame_on_log Frame false framed = tt
  frame_on_log Frame true framed =
      (frame_line 0 framed (omega arith), (frame_line 1 framed (omega arith), (frame_line 2 framed (omega arith), tt)))

commit_on_log : (log : Log) (threads thread point : ℕ) → thread < threads → AreOnLog log threads thread (commit_effects log thread point)
unfolding AreOnLog OnLog
commit_on_log log threads thread point t =
    let l : AreOfLog log threads (point_at log thread) 8 = point_of_log log threads thread 8 t (omega arith) in (
      tt,
      (
        (log_access log threads (point_at log thread) l (point_aligned log thread), l.from_base, point_beside log thread),
        (log_in_range log threads (point_at log thread) 1 (point_of_log log threads thread 1 t (omega arith)), (tt, tt)),
      ),
    )

boundary_on_log : (threads : ℕ) (b : Boundary) (side resume : ℕ) (x : List ℕ) → b.thread < threads → HaveRoom b.log b.locks →
    ((r : ℕ) → Contains b.live r → r < 32) → AreOnLog b.log threads b.thread (boundary_effects b side resume x)
boundary_on_log threads b side resume x t room live =
    cond_both (is_empty b.locks) (commit_effects b.log b.thread 0)
    (bank_effects b (other_side side) x ++ commit_effects b.log b.thread ((resume + other_side side) % 2 ^ 64))
    (λ (es : List Effect). AreOnLog b.log threads b.thread es) (λ _. commit_on_log b.log threads b.thread 0 t)
    (λ _. both_on_log b.log threads b.thread (bank_effects b (other_side side) x) (commit_effects b.log b.thread ((resume + other_side side) % 2 ^ 64))
    (both_on_log b.log threads b.thread ((pairs ++ registers) ++ lines) framing
    (both_on_log b.log threads b.thread (pairs ++ registers) lines
    (both_on_log b.log threads b.thread pairs registers
    (stores_on_log b.log threads b.thread (other_side side) t k (λ (kept : ℕ × ℕ). kept.0) (λ (kept : ℕ × ℕ). kept.1) (pairs_kept b.log b.locks b.written)
    (pairs_have_slots b.log b.locks b.written room))
    (stores_on_log b.log threads b.thread (other_side side) t k (register_slot b.log) (λ (r : ℕ). read x r) b.live
    (λ r c. register_exists b.log r (live r c))))
    (cleans_on_log b.log threads b.thread (other_side side) t k
    (λ line. list_any (λ slot. slot / 8 == line) (slots_kept b.log b.locks b.written b.live)) (bank_lines b.log)
    (all_lines b.log threads b.thread (other_side side) t k)))
    (frame_on_log b.log threads b.thread t (locals_of b.log) b.opens refl))
    (commit_on_log b.log threads b.thread ((resume + other_side side) % 2 ^ 64) t))
  where
    k : other_side side < 2
    k = omega arith

    pairs : List Effect
    pairs = map (λ (kept : ℕ × ℕ). Stores (slot_at b.log b.thread (other_side side) kept.0) 8 kept.1) (pairs_kept b.log b.locks b.written)

    registers : List Effect
    registers = map (λ r. Stores (slot_at b.log b.thread (other_side side) (register_slot b.log r)) 8 (read x r)) b.live

    lines : List Effect
    lines = map (λ line. Cleans (slot_at b.log b.thread (other_side side) (8 * line))) (lines_in_use b.log (slots_kept b.log b.locks b.written b.live))

    framing : List Effect
    framing = map (λ line. Cleans (frame_at b.log b.thread (8 * line))) (frame_lines b.log b.opens)

-- each goes where it may
pub boundary_may : (log : Log) (threads : ℕ) (b : Boundary) (side resume : ℕ) (x : List ℕ) → b.log ≡ log → b.thread < threads → HaveRoom b.log b.locks →
    ((r : ℕ) → Contains b.live r → r < 32) → MayGo log threads (seen_effects (boundary_effects b side resume x))
boundary_may log threads b side resume x is t room live =
    subst (λ (l : Log). MayGo l threads (seen_effects (boundary_effects b side resume x))) is
    (log_may b.log threads b.thread (boundary_effects b side resume x) (boundary_on_log threads b side resume x t room live))

-- each effect of a boundary goes to no variable, and to no word of the frame
pub boundary_apart : (log : Log) (threads : ℕ) (s : MarkedEnvironment) (b : Boundary) (side resume : ℕ) (x : List ℕ) → b.log ≡ log → ReadsOwn log b.thread s →
    b.thread < threads → HaveRoom b.log b.locks → ((r : ℕ) → Contains b.live r → r < 32) → AreEffectsApart s (boundary_effects b side resume x)
boundary_apart log threads s b side resume x is reads t room live =
    log_apart b.log threads b.thread s (boundary_effects b side resume x) (subst (λ (l : Log). ReadsOwn l b.thread s) (sym is) reads)
    (boundary_on_log threads b side resume x t room live)
