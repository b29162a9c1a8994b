-- What a thread's log has recorded: the point of its last boundary, what the point's bank keeps, and what stands in the words of the frame on which the record
-- counts, but where the point is 0.
use Rattle.std.specs.Prelude.{◌≡◌, ◌≢◌, ◌⊎◌, ℕ, ◌+◌, ◌^◌, ◌<◌, ◌≤◌, List, [], ◌∷◌, ◌++◌, map, length, slice_index, true, ◌==◌, if◌then◌else◌}
use Rattle.std.specs.Prelude.{Option, None}
use Rattle.std.specs.List.{Contains}
use Rattle.log_schemes.specs.declared.log.Log.{Log}
use Rattle.ido_base.specs.Words.{Word, word_at, last_position, live_value}
use Rattle.ido_base.specs.Growth.{IsPersisted}
use Rattle.ido_base.specs.Layout.{word_number}
use Rattle.ido_base.specs.declared.limits.TheConstants.{LOCAL_REGISTERS}
use Rattle.log_schemes.specs.declared.locals.Locals.TheVariants.{Frame}
use Rattle.log_schemes.specs.Layout.{frame_at, log_words, word_count, point_at, slot_at}
use Rattle.rv64_isa.specs.Rows.{read}
use Rattle.machine_model.specs.Machine.{bank_of}
use Rattle.boundary_code.specs.Boundaries.{pairs_kept, slots_kept}
use Rattle.log_schemes.specs.SchemeFacts.{AreLoggable, frame_index}
use Rattle.log_schemes.specs.Schemes.{bank_slots, keeps_register, locals_of, register_slot, told}

-- what a boundary writes
pub record Record : Type 0 where
  -- 0: nothing is recorded; else a resume address plus the number of a bank
  pub point : ℕ
  -- the locks held after the boundary, in the order in which its bank will have them
  pub locks : List ℕ
  -- the registers that it keeps
  pub live : List ℕ
  pub registers : List ℕ
  -- what its bank is told of the write that comes
  pub written : Option ℕ
  -- the words of the frame that it counts on, and what each of them has
  pub framed : List ℕ
  pub frame : (word : ℕ) → ℕ

-- the record between sections
abbrev pub nothing_recorded : Record
nothing_recorded = record { point = 0; locks = []; live = []; registers = []; written = None; framed = []; frame = λ word. 0 }

-- the side of the log that the record's point names
abbrev pub side_of : Record → ℕ
side_of r = bank_of r.point

-- a log on this side is on the record's, where that has a point
abbrev pub IsSideOf : Record → (side : ℕ) → Type 0
IsSideOf r side = r.point ≢ 0 → side_of r ≡ side

-- ---- What a bank keeps

-- the pairs of a slot and a value: those of the locks, what is told of a write, and each live register's
abbrev pub kept_of : Log → Record → List (ℕ × ℕ)
kept_of log r = pairs_kept log r.locks r.written ++ map (λ register. (register_slot log register, read r.registers register)) r.live

-- the slots that a record needs
abbrev pub slots_of : Log → Record → List ℕ
slots_of log r = if r.point == 0 then [] else slots_kept log r.locks r.written r.live

-- the value that a slot has by these pairs
abbrev pub kept_in : (kept : List (ℕ × ℕ)) → (slot : ℕ) → ℕ
kept_in [] slot = 0
kept_in (first ∷ kept) slot = if slot == first.0 then first.1 else kept_in kept slot

abbrev pub value_of : Log → Record → (slot : ℕ) → ℕ
value_of log r slot = kept_in (kept_of log r) slot

-- a slot of a bank: all words of the bank's lines are
abbrev pub IsInBank : Log → (slot : ℕ) → Type 0
IsInBank log slot = slot < bank_slots log

-- ---- The frame

-- where locals stand in the log, it has this word
pub record IsFrameWord (log : Log) (word : ℕ) : Type 0 where
  pub frame : locals_of log ≡ Frame
  pub exists : word < LOCAL_REGISTERS

-- the words of the frame that a record counts on: with no point it counts on none
abbrev pub framed_of : Record → List ℕ
framed_of r = if r.point == 0 then [] else r.framed

-- these are among the words that are named
abbrev pub AreNamed : (named : List ℕ) → Record → Type 0
AreNamed named r = (word : ℕ) → Contains (framed_of r) word → Contains named word

-- ---- Which records a log can hold

-- a bank can keep this register
abbrev pub IsKeepable : Log → (register : ℕ) → Type 0
IsKeepable log register = keeps_register log register ≡ true

-- what a bank is told of a write are values of 64 bits
abbrev pub IsTellable : Log → (written : Option ℕ) → Type 0
IsTellable log written = (pair : ℕ × ℕ) → Contains (told log written) pair → pair.1 < 2 ^ 64

-- where each write has a record, one that says that none comes keeps no register
abbrev pub KeepsForWrite : Log → (written : Option ℕ) → (live : List ℕ) → Type 0
KeepsForWrite log written live = locals_of log ≡ Frame → written ≡ None → live ≡ []

-- values of 64 bits, of locks, registers and words of the frame that the log can hold
pub record IsRecord (log : Log) (r : Record) : Type 0 where
  pub point : r.point < 2 ^ 64
  pub locks : AreLoggable log r.locks
  pub live : (register : ℕ) → Contains r.live register → IsKeepable log register
  pub registers : (register : ℕ) → Contains r.live register → read r.registers register < 2 ^ 64
  pub told : IsTellable log r.written
  pub for_write : KeepsForWrite log r.written r.live
  pub framed : (word : ℕ) → Contains (framed_of r) word → IsFrameWord log word
  pub frame : (word : ℕ) → Contains (framed_of r) word → r.frame word < 2 ^ 64

-- ---- Words of a log

-- the numbers of its words
abbrev pub log_word : (log : Log) (thread i : ℕ) → ℕ
log_word log thread i = word_number (point_at log thread) + i

abbrev pub bank_word : (log : Log) (thread bank slot : ℕ) → ℕ
bank_word log thread bank slot = word_number (slot_at log thread bank slot)

abbrev pub frame_word : (log : Log) (thread word : ℕ) → ℕ
frame_word log thread word = word_number (frame_at log thread word)

-- the word of the point
abbrev pub point_in : Log → List Word → (thread : ℕ) → Word
point_in log words thread = word_at words (word_number (point_at log thread))

-- the word of a slot of this record's bank
abbrev pub slot_in : Log → List Word → (thread : ℕ) → Record → (slot : ℕ) → Word
slot_in log words thread r slot = word_at words (bank_word log thread (bank_of r.point) slot)

abbrev pub frame_in : Log → List Word → (thread word : ℕ) → Word
frame_in log words thread word = word_at words (frame_word log thread word)

-- values of 64 bits, and a durable position that is there
pub record IsWord (w : Word) : Type 0 where
  pub durable : w.durable ≤ last_position w
  pub values : (p : ℕ) → slice_index w.values p < 2 ^ 64

-- memory has the thread's log, of such words
pub record HasLog (log : Log) (thread : ℕ) (words : List Word) : Type 0 where
  pub exists : word_count log (thread + 1) ≤ length words
  pub each : (i : ℕ) → i < log_words log → IsWord (word_at words (log_word log thread i))

-- the log's word of this index is one of its frame, and isn't named
pub record IsUnnamed (log : Log) (named : List ℕ) (i : ℕ) : Type 0 where
  pub word : ℕ
  pub is : i ≡ frame_index word
  pub in_frame : IsFrameWord log word
  pub unnamed : Contains named word → ⊥

-- no store is made to the thread's log but to words of its frame that aren't named, which keep values of 64 bits
abbrev pub IsUnstored : (log : Log) (thread : ℕ) (named : List ℕ) → (old new : List Word) → Type 0
IsUnstored log thread named old new =
    (i : ℕ) → i < log_words log →
    IsPersisted (word_at old (log_word log thread i)) (word_at new (log_word log thread i))
    ⊎ (IsUnnamed log named i × (IsWord (word_at old (log_word log thread i)) → IsWord (word_at new (log_word log thread i))))

-- ---- What is recorded

-- the word's last value is this, and is durable: no crash changes it
pub record IsDurable (w : Word) (value : ℕ) : Type 0 where
  pub durable : w.durable ≡ last_position w
  pub live : live_value w ≡ value

-- the record's bank has its slots
abbrev pub HasBank : (log : Log) (thread : ℕ) → Record → List Word → Type 0
HasBank log thread r words = (slot : ℕ) → Contains (slots_of log r) slot → IsDurable (slot_in log words thread r slot) (value_of log r slot)

-- the words of the frame that the record counts on have their values
abbrev pub HasFrame : (log : Log) (thread : ℕ) → Record → List Word → Type 0
HasFrame log thread r words = (word : ℕ) → Contains (framed_of r) word → IsDurable (frame_in log words thread word) (r.frame word)

-- the log has this record, and no other
pub record IsRecorded (log : Log) (thread : ℕ) (r : Record) (words : List Word) : Type 0 where
  pub point : IsDurable (point_in log words thread) r.point
  pub bank : HasBank log thread r words
  pub frame : HasFrame log thread r words
