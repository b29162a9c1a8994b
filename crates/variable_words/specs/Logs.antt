-- The words of threads' logs: no element lies in one, and no two logs have one in common.
use Rattle.std.specs.Prelude.{◌≡◌, ◌≢◌, ℕ, ◌*◌, ◌/◌, ◌<◌, List, true, map}
use Rattle.log_schemes.specs.declared.log.Log.{Log}
use Rattle.ido_base.specs.Layout.{aligned, byte_number, word_number, line_bytes}
use Rattle.log_schemes.specs.Layout.{point_at, slot_at, in_range}
use Rattle.log_schemes.specs.Schemes.{bank_slots}
use Rattle.ido_ints.specs.declared.kinds.Kind.{Kind}
use Rattle.c_tree.specs.Programs.{Variable}
use Rattle.c_tree.specs.WellFormed.{shape_of}
use Rattle.memory_layout.specs.Variables.{HaveRoom}
use Rattle.recovery_semantics.specs.VariableSpots.{IsAtSpot}
use Rattle.variable_words.specs.VariablesInWords.{spots_of}

-- a word of a log
pub data LogWord : Type 0 where
  Point : LogWord
  Slot : (bank slot : ℕ) → LogWord

-- a log has two banks
abbrev pub IsThere : Log → LogWord → Type 0
IsThere log Point = Unit {0}
IsThere log (Slot bank slot) = (bank < 2) × (slot < bank_slots log)

abbrev pub log_address : Log → (thread : ℕ) → LogWord → ℕ
log_address log thread Point = point_at log thread
log_address log thread (Slot bank slot) = slot_at log thread bank slot

-- ---- Laws

-- each of a thread's log can be accessed
pub record IsLogAccess (log : Log) (threads address : ℕ) : Type 0 where
  pub inside : in_range log threads address 8 ≡ true
  pub is_aligned : aligned address 8 ≡ true

abbrev pub LogsReach : Type 0
LogsReach = (log : Log) (threads thread : ℕ) (word : LogWord) → thread < threads → IsThere log word → IsLogAccess log threads (log_address log thread word)

-- no element is in a word of a log
abbrev pub LogsHoldNone : Type 0
LogsHoldNone = (log : Log) (vs : List Variable) (variable element : ℕ) (kind : Kind) (number thread : ℕ) (word : LogWord) → HaveRoom (map shape_of vs) →
    IsAtSpot (spots_of vs) variable element kind number → number / 8 ≢ word_number (log_address log thread word)

-- two words of logs are one: the same place of the same thread's log
pub record IsSamePlace (thread other : ℕ) (word beside : LogWord) : Type 0 where
  pub same_thread : thread ≡ other
  pub same_word : word ≡ beside

abbrev pub LogsApart : Type 0
LogsApart = (log : Log) (thread other : ℕ) (word beside : LogWord) → IsThere log word → IsThere log beside →
    word_number (log_address log thread word) ≡ word_number (log_address log other beside) → IsSamePlace thread other word beside

-- a line of a log is one thread's
abbrev pub LinesApart : Type 0
LinesApart = (log : Log) (thread other : ℕ) (word beside : LogWord) → IsThere log word → IsThere log beside →
    byte_number (log_address log thread word) / line_bytes ≡ byte_number (log_address log other beside) / line_bytes → thread ≡ other
