-- What each scheme owes: where the slots of its banks stand, that no two parts of what a bank keeps have one slot, and that the locks which it keeps are read
-- back. All else that is said of logs follows from this, whatever the scheme.
use Rattle.std.specs.Prelude.{◌≡◌, ◌≢◌, ℕ, ◌+◌, ◌*◌, ◌/◌, ◌%◌, ◌^◌, ◌<◌, ◌≤◌, List, [], length, Option, Some, true}
use Rattle.std.specs.List.{Contains}
use Rattle.ido_base.specs.declared.limits.TheConstants.{LOCAL_REGISTERS}
use Rattle.memory_layout.specs.Roles.{bank_offset}
use Rattle.log_schemes.specs.declared.keeping.Keeping.{Keeping}
use Rattle.log_schemes.specs.declared.keeping.Keeping.TheVariants.{Masked, Listed}
use Rattle.log_schemes.specs.declared.locals.Locals.TheVariants.{Frame}
use Rattle.log_schemes.specs.declared.log.Log.{Log}
use Rattle.log_schemes.specs.declared.log.TheConstants.{MOST_LISTED}
use Rattle.log_schemes.specs.declared.size.LogSize.{LogSize}
use Rattle.log_schemes.specs.Layout.{bank_bytes, frame_at, log_lines, log_of, log_words, slot_at}
use Rattle.log_schemes.specs.Schemes.{AreOfMask, HaveRoom, bank_distance, bank_slots, distance_bits, keeping_of, keeps_register, kept_locks}
use Rattle.log_schemes.specs.Schemes.{lines_in_bank, lines_of, locals_of, lock_slot, locks_read, may_keep, register_slot, told}

-- ---- Sizes

-- how many words a slot lies after the point
abbrev pub slot_index : Log → (bank slot : ℕ) → ℕ
slot_index log bank slot = 8 + bank_bytes log / 8 * bank + slot

-- a log has few lines, and so has a bank; two banks lie behind the point's line, one after the other
pub record IsSize (size : LogSize) : Type 0 where
  pub lines : 0 < lines_of size
  pub few : lines_of size ≤ 32
  pub few_in_bank : lines_in_bank size ≤ 6
  pub some : 4 ≤ lines_in_bank size
  pub whole : bank_distance size % 64 ≡ 0
  pub before : 64 * lines_in_bank size ≤ bank_distance size
  pub room : 64 + bank_distance size + 64 * lines_in_bank size ≤ 64 * lines_of size
  pub near : bank_distance size ≤ 1024
  pub bits : 2 ^ distance_bits size ≡ bank_distance size

abbrev pub SizesHold : Type 0
SizesHold = (size : LogSize) → IsSize size

-- each slot of a bank is a word of the log after its point, and of no other bank
pub record BanksStand (log : Log) : Type 0 where
  -- a log has a line, the point's
  pub lines : 0 < log_lines log
  pub address : (thread bank slot : ℕ) → slot_at log thread bank slot ≡ log_of log thread + 8 * slot_index log bank slot
  -- a bank begins with a line
  pub begins : (bank : ℕ) → slot_index log bank 0 % 8 ≡ 0
  pub inside : (bank slot : ℕ) → bank < 2 → slot < bank_slots log → slot_index log bank slot < log_words log
  pub apart : (one other slot beside : ℕ) → one < 2 → other < 2 → slot < bank_slots log → beside < bank_slots log →
      slot_index log one slot ≡ slot_index log other beside → one ≡ other

-- ---- The frame

-- how many words a word of the frame lies after the point
abbrev pub frame_index : (word : ℕ) → ℕ
frame_index word = 64 + word

-- where locals stand in the log, there is a word for the locals of each colour; it is no word of a bank
pub record FrameStands (log : Log) : Type 0 where
  pub address : (thread word : ℕ) → frame_at log thread word ≡ log_of log thread + 8 * frame_index word
  pub inside : (word : ℕ) → locals_of log ≡ Frame → word < LOCAL_REGISTERS → frame_index word < log_words log
  pub apart : (word bank slot : ℕ) → locals_of log ≡ Frame → word < LOCAL_REGISTERS → bank < 2 → slot < bank_slots log →
      frame_index word ≢ slot_index log bank slot

-- ---- Slots

-- a slot of a bank, but slot 0
pub record IsOwnSlot (log : Log) (slot : ℕ) : Type 0 where
  pub some : 0 < slot
  pub exists : slot < bank_slots log

-- registers and listed locks have slots of their own
pub record SlotsAreApart (log : Log) : Type 0 where
  -- a register that a bank keeps is one of 32, but not x0 nor the bank offset's, which the point gives
  pub registers : (register : ℕ) → keeps_register log register ≡ true → (0 < register) × (register < 32) × (register ≢ bank_offset)
  -- each register that a boundary may keep
  pub kept : (register : ℕ) → may_keep log register ≡ true → keeps_register log register ≡ true
  pub register : (register : ℕ) → keeps_register log register ≡ true → IsOwnSlot log (register_slot log register)
  pub register_apart : (one other : ℕ) → keeps_register log one ≡ true → keeps_register log other ≡ true →
      register_slot log one ≡ register_slot log other → one ≡ other
  pub lock : (index : ℕ) → keeping_of log ≡ Listed → index < MOST_LISTED → IsOwnSlot log (lock_slot log index)
  pub lock_apart : (one other : ℕ) → keeping_of log ≡ Listed → one < MOST_LISTED → other < MOST_LISTED → lock_slot log one ≡ lock_slot log other → one ≡ other
  pub lock_register : (index register : ℕ) → keeping_of log ≡ Listed → index < MOST_LISTED → keeps_register log register ≡ true →
      lock_slot log index ≢ register_slot log register

-- what a bank is told of a write has slots of its own, beside those of locks, and where a write comes beside those of its registers too
pub record ToldIsApart (log : Log) : Type 0 where
  pub own : (written : Option ℕ) (pair : ℕ × ℕ) → Contains (told log written) pair → IsOwnSlot log pair.0
  pub alone : (written : Option ℕ) (one other : ℕ × ℕ) → Contains (told log written) one → Contains (told log written) other → one.0 ≡ other.0 → one.1 ≡ other.1
  pub lock : (written : Option ℕ) (pair : ℕ × ℕ) (index : ℕ) → Contains (told log written) pair → keeping_of log ≡ Listed → index < MOST_LISTED →
      pair.0 ≢ lock_slot log index
  pub register : (bytes register : ℕ) (pair : ℕ × ℕ) → Contains (told log (Some bytes)) pair → keeps_register log register ≡ true →
      pair.0 ≢ register_slot log register

-- what each log owes
pub record SchemeFacts (log : Log) : Type 0 where
  pub stands : BanksStand log
  pub frame : FrameStands log
  pub apart : SlotsAreApart log
  pub told : ToldIsApart log

abbrev pub SchemesOwe : Type 0
SchemesOwe = (log : Log) → SchemeFacts log

-- ---- What follows, whatever the scheme

-- the locks are few numbers of 64 bits
pub record AreListed (locks : List ℕ) : Type 0 where
  pub few : length locks ≤ MOST_LISTED
  pub fit : (lock : ℕ) → Contains locks lock → lock < 2 ^ 64

-- a bank can keep these locks
abbrev pub CanKeep : Keeping → (locks : List ℕ) → Type 0
CanKeep Masked locks = AreOfMask locks
CanKeep Listed locks = AreListed locks

abbrev pub AreLoggable : Log → (locks : List ℕ) → Type 0
AreLoggable log locks = CanKeep (keeping_of log) locks

-- a pair of those that a bank keeps of these locks: a slot with a value of 64 bits, and no register's
pub record IsKept (log : Log) (kept : ℕ × ℕ) : Type 0 where
  pub slot : kept.0 < bank_slots log
  pub value : kept.1 < 2 ^ 64
  pub apart : (register : ℕ) → keeps_register log register ≡ true → kept.0 ≢ register_slot log register

-- the slots have these values, where the pairs are true
abbrev pub HasEach : (slots : ℕ → ℕ) → List (ℕ × ℕ) → Type 0
HasEach slots pairs = (kept : ℕ × ℕ) → Contains pairs kept → slots kept.0 ≡ kept.1

pub record LocksAreKept (log : Log) : Type 0 where
  pub none : AreLoggable log []
  -- any locks with numbers of 64 bits for which a bank has room
  pub room : (locks : List ℕ) → HaveRoom log locks → ((lock : ℕ) → Contains locks lock → lock < 2 ^ 64) → AreLoggable log locks
  pub each : (locks : List ℕ) (kept : ℕ × ℕ) → AreLoggable log locks → Contains (kept_locks log locks) kept → IsKept log kept
  -- a slot has one value
  pub alone : (locks : List ℕ) (one other : ℕ × ℕ) → AreLoggable log locks → Contains (kept_locks log locks) one → Contains (kept_locks log locks) other →
      one.0 ≡ other.0 → one.1 ≡ other.1
  -- and what is kept is read back
  pub read : (locks : List ℕ) (slots : ℕ → ℕ) → AreLoggable log locks → HasEach slots (kept_locks log locks) → locks_read log slots ≡ locks

abbrev pub AllLocksAreKept : Type 0
AllLocksAreKept = (log : Log) → LocksAreKept log
