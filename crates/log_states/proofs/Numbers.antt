-- The numbers of a log's words, bytes and lines.
use Rattle.std.proofs.Common.{◌≡◌, ◌≢◌, inl, inr, ℕ, suc, ◌+◌, ◌-◌, ◌*◌, ◌/◌, ◌%◌, ◌<◌, ◌≤◌, ap, arith, cond, sym, ◌∙◌}
use Rattle.std.specs.List.{Contains}
use Rattle.std.proofs.lemmas.Bool.{cases_lt, le-ltb, lt-ltb}
use Rattle.log_schemes.specs.declared.log.Log.{Log}
use Rattle.ido_base.specs.Layout.{variables_base, logs_base, byte_number, word_number}
use Rattle.log_schemes.specs.Layout.{frame_at, log_lines, log_words, word_count, log_of, point_at, slot_at}
use Rattle.log_schemes.specs.Schemes.{bank_lines}
use Rattle.log_states.specs.Logs.{log_word, bank_word, frame_word, IsFrameWord, IsInBank}
use Rattle.log_schemes.specs.SchemeFacts.{frame_index, slot_index}
use Rattle.log_schemes.proofs.Public.{line_below, scheme}

-- ---- Bytes and words

in_logs : (address : ℕ) → logs_base ≤ address → byte_number address ≡ 65536 + (address - logs_base)
in_logs address above = ap (λ b. cond b (address - variables_base) (65536 + (address - logs_base))) (le-ltb address logs_base above)

byte_of_log : (log : Log) (thread i : ℕ) → byte_number (log_of log thread + 8 * i) ≡ 65536 + 64 * (log_lines log * thread) + 8 * i
byte_of_log log thread i = let e = in_logs (log_of log thread + 8 * i) (omega arith) in omega (arith, e)

byte_of_point : (log : Log) (thread : ℕ) → byte_number (point_at log thread) ≡ 65536 + 64 * (log_lines log * thread)
byte_of_point log thread = let e = in_logs (point_at log thread) (omega arith) in omega (arith, e)

pub word_of_point : (log : Log) (thread : ℕ) → word_number (point_at log thread) ≡ 8192 + log_words log * thread
word_of_point log thread = omega (arith, byte_of_point log thread)

-- a word of a log
pub word_of_log : (log : Log) (thread i : ℕ) → byte_number (log_of log thread + 8 * i) / 8 ≡ log_word log thread i
word_of_log log thread i = omega (arith, byte_of_log log thread i, byte_of_point log thread)

whole_word : (log : Log) (thread i : ℕ) → byte_number (log_of log thread + 8 * i) % 8 ≡ 0
whole_word log thread i = omega (arith, byte_of_log log thread i)

pub whole_point : (log : Log) (thread : ℕ) → byte_number (point_at log thread) % 8 ≡ 0
whole_point log thread = omega (arith, byte_of_point log thread)

-- logs lie after the variables
pub beyond_variables : (log : Log) (thread i : ℕ) → 65536 ≤ byte_number (log_of log thread + 8 * i)
beyond_variables log thread i = let n = byte_of_log log thread i in omega (arith, n)

pub variables_are_apart : (log : Log) (thread address i : ℕ) → address < variables_base + 65536 → byte_number address / 8 ≢ log_word log thread i
variables_are_apart log thread address i below same =
    let e : byte_number address ≡ address - variables_base = ap (λ b. cond b (address - variables_base) (65536 + (address - logs_base)))
    (lt-ltb address logs_base (omega (arith, below))) in
    omega (arith, e, below, same, word_of_point log thread)

-- ---- Logs of all threads

-- a log has words
pub some_words : (log : Log) → 0 < log_words log
some_words log = omega (arith, (scheme log).stands.lines)

-- one of them exists where its log does
pub word_exists : (log : Log) (thread i : ℕ) → i < log_words log → log_word log thread i < word_count log (thread + 1)
word_exists log thread i below = omega (arith, below, word_of_point log thread)

-- rows of one length end where the next begins
rows_end : (n few more : ℕ) → n * few + n ≤ n * (few + 1 + more)
rows_end n few more = omega arith

pub rows_within : (n few many : ℕ) → few < many → n * few + n ≤ n * many
rows_within n few many less =
    let is : few + 1 + (many - suc few) ≡ many = omega (arith, less) in
    let ends = rows_end n few (many - suc few) in
    omega (arith, ends, ap (λ (k : ℕ). n * k) is)

rows_apart : (n few many i j : ℕ) → few < many → i < n → n * few + i ≢ n * many + j
rows_apart n few many i j less below same = omega (arith, rows_within n few many less, below, same)

pub logs_are_apart : (log : Log) (thread other i j : ℕ) → other ≢ thread → i < log_words log → j < log_words log → log_word log other j ≢ log_word log thread i
logs_are_apart log thread other i j ne bi bj same =
    let rows : log_words log * other + j ≡ log_words log * thread + i = omega (arith, same, word_of_point log thread, word_of_point log other) in
    elim (cases_lt other thread) [
      | inl before ↦ rows_apart (log_words log) other thread j i before bj rows
      | inr not_before ↦ elim (cases_lt thread other) [
        | inl after ↦ rows_apart (log_words log) thread other i j after bi (sym rows)
        | inr not_after ↦ ne (omega (arith, not_before, not_after))
      ]
    ]

-- ---- Slots

pub slot_in_log : (log : Log) (thread bank slot : ℕ) → bank_word log thread bank slot ≡ log_word log thread (slot_index log bank slot)
slot_in_log log thread bank slot = ap word_number ((scheme log).stands.address thread bank slot) ∙ word_of_log log thread (slot_index log bank slot)

pub whole_slot : (log : Log) (thread bank slot : ℕ) → byte_number (slot_at log thread bank slot) % 8 ≡ 0
whole_slot log thread bank slot =
    ap (λ (a : ℕ). byte_number a % 8) ((scheme log).stands.address thread bank slot) ∙ whole_word log thread (slot_index log bank slot)

pub same_slot : (log : Log) (thread bank slot other : ℕ) → bank_word log thread bank slot ≡ bank_word log thread bank other → slot ≡ other
same_slot log thread bank slot other e = omega (arith, e, slot_in_log log thread bank slot, slot_in_log log thread bank other)

pub slot_not_point : (log : Log) (thread bank slot : ℕ) → bank_word log thread bank slot ≢ word_number (point_at log thread)
slot_not_point log thread bank slot e = omega (arith, e, slot_in_log log thread bank slot)

-- a word is of one bank
pub same_bank : (log : Log) (thread one other slot beside : ℕ) → one < 2 → other < 2 → IsInBank log slot → IsInBank log beside →
    bank_word log thread one slot ≡ bank_word log thread other beside → one ≡ other
same_bank log thread one other slot beside two also c d same =
    (scheme log).stands.apart one other slot beside two also c d
    (omega (arith, same, slot_in_log log thread one slot, slot_in_log log thread other beside))

-- ---- Lines

-- the number of a bank's line
abbrev pub bank_line : Log → (thread bank line : ℕ) → ℕ
bank_line log thread bank line = byte_number (slot_at log thread bank (8 * line)) / 64

-- the first slot of a line
line_begins : (log : Log) (bank line : ℕ) → slot_index log bank (8 * line) % 8 ≡ 0
line_begins log bank line = omega (arith, (scheme log).stands.begins bank)

line_is : (log : Log) (thread bank line : ℕ) → 8 * bank_line log thread bank line ≡ log_word log thread (slot_index log bank (8 * line))
line_is log thread bank line =
    let i : ℕ = slot_index log bank (8 * line) in
    ap (λ (a : ℕ). 8 * (byte_number a / 64)) ((scheme log).stands.address thread bank (8 * line))
    ∙ omega (arith, byte_of_log log thread i, byte_of_point log thread, line_begins log bank line)

pub slot_in_line : (log : Log) (thread bank slot line : ℕ) → slot / 8 ≡ line → 8 * bank_line log thread bank line + slot % 8 ≡ bank_word log thread bank slot
slot_in_line log thread bank slot line is = omega (arith, is, line_is log thread bank line, slot_in_log log thread bank slot)

-- a line of a bank is that of its first slot
pub line_in_bank : (log : Log) (line : ℕ) → Contains (bank_lines log) line → IsInBank log (8 * line)
line_in_bank log line c = let below = line_below log line c in omega (arith, below)

pub bank_line_exists : (log : Log) (thread bank line : ℕ) → bank < 2 → Contains (bank_lines log) line →
    8 * bank_line log thread bank line + 8 ≤ word_count log (thread + 1)
bank_line_exists log thread bank line two c =
    let inside = (scheme log).stands.inside bank (8 * line) two (line_in_bank log line c) in
    omega (arith, inside, line_begins log bank line, line_is log thread bank line, word_of_point log thread)

pub point_line : (log : Log) (thread : ℕ) → 8 * (byte_number (point_at log thread) / 64) ≡ word_number (point_at log thread)
point_line log thread = omega (arith, byte_of_point log thread)

pub point_line_exists : (log : Log) (thread : ℕ) → 8 * (byte_number (point_at log thread) / 64) + 8 ≤ word_count log (thread + 1)
point_line_exists log thread = omega (arith, byte_of_point log thread, (scheme log).stands.lines)

-- ---- The frame

pub frame_in_log : (log : Log) (thread word : ℕ) → frame_word log thread word ≡ log_word log thread (frame_index word)
frame_in_log log thread word = ap word_number ((scheme log).frame.address thread word) ∙ word_of_log log thread (frame_index word)

pub whole_frame_word : (log : Log) (thread word : ℕ) → byte_number (frame_at log thread word) % 8 ≡ 0
whole_frame_word log thread word =
    ap (λ (a : ℕ). byte_number a % 8) ((scheme log).frame.address thread word) ∙ whole_word log thread (frame_index word)

-- a word of the frame is a word of the log, and neither the point nor a slot
pub frame_inside : (log : Log) (word : ℕ) → IsFrameWord log word → frame_index word < log_words log
frame_inside log word is = (scheme log).frame.inside word is.frame is.exists

pub frame_not_point : (log : Log) (thread word : ℕ) → frame_word log thread word ≢ word_number (point_at log thread)
frame_not_point log thread word e = omega (arith, e, frame_in_log log thread word)

pub frame_not_slot : (log : Log) (thread word bank slot : ℕ) → IsFrameWord log word → bank < 2 → IsInBank log slot →
    frame_word log thread word ≢ bank_word log thread bank slot
frame_not_slot log thread word bank slot is two inside e =
    (scheme log).frame.apart word bank slot is.frame is.exists two inside (omega (arith, e, frame_in_log log thread word, slot_in_log log thread bank slot))

-- the number of a line of the frame
abbrev pub frame_line : Log → (thread line : ℕ) → ℕ
frame_line log thread line = byte_number (frame_at log thread (8 * line)) / 64

frame_line_is : (log : Log) (thread line : ℕ) → 8 * frame_line log thread line ≡ log_word log thread (frame_index (8 * line))
frame_line_is log thread line =
    let i : ℕ = frame_index (8 * line) in
    ap (λ (a : ℕ). 8 * (byte_number a / 64)) ((scheme log).frame.address thread (8 * line))
    ∙ omega (arith, byte_of_log log thread i, byte_of_point log thread)

pub word_in_line : (log : Log) (thread word line : ℕ) → word / 8 ≡ line → 8 * frame_line log thread line + word % 8 ≡ frame_word log thread word
word_in_line log thread word line is = omega (arith, is, frame_line_is log thread line, frame_in_log log thread word)

pub frame_line_exists : (log : Log) (thread line : ℕ) → IsFrameWord log (8 * line) → 8 * frame_line log thread line + 8 ≤ word_count log (thread + 1)
frame_line_exists log thread line is =
    let inside = frame_inside log (8 * line) is in
    omega (arith, inside, frame_line_is log thread line, word_of_point log thread)
