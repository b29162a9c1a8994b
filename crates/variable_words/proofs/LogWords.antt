-- Words of logs.
use Rattle.std.proofs.Common.{◌≡◌, refl, ℕ, ◌+◌, ◌-◌, ◌*◌, ◌/◌, ◌%◌, ◌<◌, ◌≤◌, ap, sym, ◌∙◌, arith}
use Rattle.std.specs.Prelude.{nat_lt}
use Rattle.std.proofs.lemmas.Bool.{cond_both, ltb-true, le-leb, and_from, or_right, eq-eqb}
use Rattle.log_schemes.specs.declared.log.Log.{Log}
use Rattle.log_schemes.specs.declared.size.LogSize.{LogSize}
use Rattle.log_schemes.specs.declared.size.LogSize.TheVariants.{Lines16, Lines32}
use Rattle.ido_base.specs.Layout.{line_bytes, logs_base, variables_base, byte_number}
use Rattle.log_schemes.specs.Layout.{bank_bytes, log_lines}
use Rattle.log_schemes.specs.Schemes.{bank_distance, lines_in_bank, lines_of, size_of}
use Rattle.variable_words.specs.Logs.{LogWord, Point, Slot, IsThere, log_address, LogsReach, LogsHoldNone, LogsApart, LinesApart}
use Rattle.variable_words.proofs.ElementsInWords.{at_whole}

-- ---- By the size of logs

-- a slot ends within its log
slot_within : (size : LogSize) (bank slot : ℕ) → bank < 2 → slot < 8 * lines_in_bank size → 64 + bank_distance size * bank + 8 * slot + 8 ≤ 64 * lines_of size
slot_within Lines16 bank slot b s = omega (arith, b, s)
slot_within Lines32 bank slot b s = omega (arith, b, s)

slot_aligned : (size : LogSize) (bank slot : ℕ) → (64 + bank_distance size * bank + 8 * slot) % 8 ≡ 0
slot_aligned Lines16 bank slot = omega arith
slot_aligned Lines32 bank slot = omega arith

-- banks and slots by their offset
same_bank : (size : LogSize) (bank slot other beside : ℕ) → bank < 2 → slot < 8 * lines_in_bank size → other < 2 → beside < 8 * lines_in_bank size →
    64 + bank_distance size * bank + 8 * slot ≡ 64 + bank_distance size * other + 8 * beside → bank ≡ other
same_bank Lines16 bank slot other beside b s o t e = omega (arith, b, s, o, t, e)
same_bank Lines32 bank slot other beside b s o t e = omega (arith, b, s, o, t, e)

log_within : (size : LogSize) (thread threads offset : ℕ) → thread < threads → offset + 8 ≤ 64 * lines_of size →
    64 * lines_of size * thread + offset + 8 ≤ 64 * lines_of size * threads
log_within Lines16 thread threads offset below within = omega (arith, below, within)
log_within Lines32 thread threads offset below within = omega (arith, below, within)

log_aligned : (size : LogSize) (base thread offset : ℕ) → base % 8 ≡ 0 → offset % 8 ≡ 0 → (base + 64 * lines_of size * thread + offset) % 8 ≡ 0
log_aligned Lines16 base thread offset whole aligned = omega (arith, whole, aligned)
log_aligned Lines32 base thread offset whole aligned = omega (arith, whole, aligned)

thread_by_log : (size : LogSize) (thread other m n : ℕ) → m + 8 ≤ 64 * lines_of size → n + 8 ≤ 64 * lines_of size →
    (65536 + 64 * lines_of size * thread + m) / (64 * lines_of size) ≡ (65536 + 64 * lines_of size * other + n) / (64 * lines_of size) → thread ≡ other
thread_by_log Lines16 thread other m n w v e = omega (arith, w, v, e)
thread_by_log Lines32 thread other m n w v e = omega (arith, w, v, e)

log_by_line : (size : LogSize) (x y : ℕ) → x / 64 ≡ y / 64 → x / (64 * lines_of size) ≡ y / (64 * lines_of size)
log_by_line Lines16 x y e = omega (arith, e)
log_by_line Lines32 x y e = omega (arith, e)

-- ---- Of a log

-- how far a word lies after the point
abbrev offset : Log → LogWord → ℕ
offset log Point = 0
offset log (Slot bank slot) = 64 + bank_bytes log * bank + 8 * slot

-- bytes of a thread's log
abbrev log_bytes : Log → ℕ
log_bytes log = line_bytes * log_lines log

address_is : (log : Log) (thread : ℕ) (word : LogWord) → log_address log thread word ≡ logs_base + log_bytes log * thread + offset log word
address_is log thread Point = omega arith
address_is log thread (Slot bank slot) = omega arith

-- a word of a log ends with it
offset_within : (log : Log) (word : LogWord) → IsThere log word → offset log word + 8 ≤ log_bytes log
offset_within log Point h = let within = slot_within (size_of log) 0 0 (omega arith) (some (size_of log)) in omega (arith, within)
  where
    some : (size : LogSize) → 0 < 8 * lines_in_bank size
    some Lines16 = omega arith
    some Lines32 = omega arith
offset_within log (Slot bank slot) h = slot_within (size_of log) bank slot h.0 h.1

offset_aligned : (log : Log) (word : LogWord) → offset log word % 8 ≡ 0
offset_aligned log Point = omega arith
offset_aligned log (Slot bank slot) = slot_aligned (size_of log) bank slot

number_is : (log : Log) (thread : ℕ) (word : LogWord) → byte_number (log_address log thread word) ≡ 65536 + log_bytes log * thread + offset log word
number_is log thread word =
    let a = address_is log thread word in
    cond_both (nat_lt (log_address log thread word) logs_base) (log_address log thread word - variables_base)
    (65536 + (log_address log thread word - logs_base))
    (λ (r : ℕ). r ≡ 65536 + log_bytes log * thread + offset log word)
    (λ yes. absurd (omega (arith, a, ltb-true (log_address log thread word) logs_base yes)))
    (λ _. omega (arith, a))

pub logs_reach : LogsReach
logs_reach log threads thread word l there =
    let a = address_is log thread word in
    let w = log_within (size_of log) thread threads (offset log word) l (offset_within log word there) in
    let m = log_aligned (size_of log) logs_base thread (offset log word) (omega arith) (offset_aligned log word) in
    record {
      inside = or_right _ _
          (and_from _ _ (le-leb logs_base (log_address log thread word) (omega (arith, a)))
          (le-leb (log_address log thread word + 8) _ (omega (arith, a, w))));
      is_aligned = eq-eqb _ 0 (ap (λ (n : ℕ). n % 8) a ∙ m);
    }

pub logs_hold_none : LogsHoldNone
logs_hold_none log vs variable element kind number thread word room at same =
    let w = at_whole vs variable element kind number room at in
    let n = number_is log thread word in
    omega (arith, w.ends, w.in_word, n, same)

same_place : (log : Log) (thread other : ℕ) (word beside : LogWord) → IsThere log word → IsThere log beside →
    byte_number (log_address log thread word) / log_bytes log ≡ byte_number (log_address log other beside) / log_bytes log → thread ≡ other
same_place log thread other word beside h k e =
    let a = number_is log thread word in
    let b = number_is log other beside in
    thread_by_log (size_of log) thread other (offset log word) (offset log beside) (offset_within log word h) (offset_within log beside k)
    (ap (λ (n : ℕ). n / log_bytes log) (sym a) ∙ (e ∙ ap (λ (n : ℕ). n / log_bytes log) b))

-- a slot's offset says which one it is
same_word : (log : Log) (word beside : LogWord) → IsThere log word → IsThere log beside → offset log word ≡ offset log beside → word ≡ beside
same_word log Point Point h k e = refl
same_word log Point (Slot bank slot) h k e = absurd (omega (arith, e))
same_word log (Slot bank slot) Point h k e = absurd (omega (arith, e))
same_word log (Slot bank slot) (Slot bank' slot') h k e =
    let b : bank ≡ bank' = same_bank (size_of log) bank slot bank' slot' h.0 h.1 k.0 k.1 e in
    let far : bank_bytes log * bank ≡ bank_bytes log * bank' = ap (λ (n : ℕ). bank_bytes log * n) b in
    let s : slot ≡ slot' = omega (arith, e, far) in
    λ i. Slot (b i) (s i)

pub logs_apart : LogsApart
logs_apart log thread other word beside h k e =
    let a = number_is log thread word in
    let b = number_is log other beside in
    let m = log_aligned (size_of log) 65536 thread (offset log word) (omega arith) (offset_aligned log word) in
    let n = log_aligned (size_of log) 65536 other (offset log beside) (omega arith) (offset_aligned log beside) in
    let number : byte_number (log_address log thread word) ≡ byte_number (log_address log other beside) = omega (arith, a, b, m, n, e) in
    let threads : thread ≡ other = same_place log thread other word beside h k (ap (λ (i : ℕ). i / log_bytes log) number) in
    let far : log_bytes log * thread ≡ log_bytes log * other = ap (λ (t : ℕ). log_bytes log * t) threads in
    record { same_thread = threads; same_word = same_word log word beside h k (omega (arith, a, b, far, number)) }

pub lines_apart : LinesApart
lines_apart log thread other word beside h k e =
    same_place log thread other word beside h k
    (log_by_line (size_of log) (byte_number (log_address log thread word)) (byte_number (log_address log other beside)) e)
