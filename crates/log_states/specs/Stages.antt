-- How far a boundary has come, seen from its log: a state machine over the effects that it has still to make.
use Rattle.std.specs.Prelude.{◌≡◌, ◌≢◌, ℕ, ◌+◌, ◌*◌, ◌/◌, ◌<◌, ◌≤◌, List, [], ◌∷◌, ◌++◌, map, slice_index, Bool, true, false, not, ◌==◌, ◌&&◌, if◌then◌else◌}
use Rattle.std.specs.List.{Contains, list_any}
use Rattle.log_schemes.specs.declared.log.Log.{Log}
use Rattle.ido_base.specs.Words.{Word, Entry, last_position, live_value, stored, entry_of, drained}
use Rattle.ido_base.specs.Growth.{AreChanged, AreEntries, PersistsThrough}
use Rattle.ido_base.specs.Layout.{line_bytes, byte_number, word_number}
use Rattle.log_schemes.specs.Layout.{frame_at, point_at, slot_at}
use Rattle.rv64_isa.specs.Rows.{Effect, Continues, Loads, Stores, Cleans, Fences, Calls}
use Rattle.machine_model.specs.Machine.{bank_of}
use Rattle.boundary_code.specs.Boundaries.{commit_effects}
use Rattle.log_schemes.specs.Schemes.{bank_lines}
use Rattle.log_states.specs.Logs.{Record, slots_of, value_of, bank_word, point_in, slot_in, IsRecord, HasLog, IsUnstored, HasBank, IsRecorded}
use Rattle.log_states.specs.Logs.{IsFrameWord, framed_of, frame_word, frame_in, HasFrame}

-- memory, what the thread's hart has queued, and what its boundary has still to do: nothing between boundaries
pub record LogConfig : Type 0 where
  pub words : List Word
  pub queue : List Entry
  pub rest : List Effect

-- ---- What can happen

-- these words of the frame are named: nobody stores to them
pub data Moves (log : Log) (thread : ℕ) (named : List ℕ) (m n : LogConfig) : Type 0 where
  -- the boundary stores, cleans, or passes a fence, with an empty queue
  Stored : (address value : ℕ) → m.rest ≡ Stores address 8 value ∷ n.rest → n.words ≡ stored m.words (byte_number address) 8 value →
      n.queue ≡ m.queue → Moves log thread named m n
  Cleaned : (address : ℕ) → m.rest ≡ Cleans address ∷ n.rest → n.words ≡ m.words →
      n.queue ≡ m.queue ++ entry_of m.words (byte_number address / line_bytes) ∷ [] → Moves log thread named m n
  Fenced : m.rest ≡ Fences ∷ n.rest → n.words ≡ m.words → m.queue ≡ [] → n.queue ≡ [] → Moves log thread named m n
  -- the oldest entry of the queue is written back
  Drained : (entry : Entry) → n.rest ≡ m.rest → n.words ≡ drained m.words entry → m.queue ≡ entry ∷ n.queue → Moves log thread named m n
  -- anybody else steps, a line is evicted, or the hart itself stores elsewhere, to words of the frame that aren't named, or cleans more lines
  Elsewhere : (more : List Entry) → n.rest ≡ m.rest → AreChanged m.words n.words → IsUnstored log thread named m.words n.words → n.queue ≡ m.queue ++ more →
      AreEntries n.words more → Moves log thread named m n

-- any number of such moves
pub data LogSteps (log : Log) (thread : ℕ) (named : List ℕ) (m : LogConfig) : LogConfig → Type 0 where
  Here : LogSteps log thread named m m
  Then : (by n : LogConfig) → LogSteps log thread named m by → Moves log thread named by n → LogSteps log thread named m n

-- how many fences a boundary has still to pass
abbrev pub fences_ahead : List Effect → ℕ
fences_ahead [] = 0
fences_ahead (e ∷ es) = fence_in e + fences_ahead es
  where
    fence_in : Effect → ℕ
    fence_in (Continues registers pc) = 0
    fence_in (Loads address bytes signed register) = 0
    fence_in (Stores address bytes value) = 0
    fence_in (Cleans address) = 0
    fence_in Fences = 1
    fence_in Calls = 0

-- ---- Where a boundary stands

abbrev pub stores_of : (log : Log) (thread : ℕ) → Record → (slots : List ℕ) → List Effect
stores_of log thread r slots = map (λ slot. Stores (slot_at log thread (bank_of r.point) slot) 8 (value_of log r slot)) slots

abbrev pub cleans_of : (log : Log) (thread : ℕ) → Record → (lines : List ℕ) → List Effect
cleans_of log thread r lines = map (λ line. Cleans (slot_at log thread (bank_of r.point) (8 * line))) lines

abbrev pub frame_cleans : (log : Log) (thread : ℕ) → (lines : List ℕ) → List Effect
frame_cleans log thread lines = map (λ line. Cleans (frame_at log thread (8 * line))) lines

-- a slot of the new bank, where these slots have still to be stored, and these lines of the bank cleaned
pub data IsComing (log : Log) (thread : ℕ) (new : Record) (slots lines : List ℕ) (m : LogConfig) (slot : ℕ) : Type 0 where
  ToStore : Contains slots slot → IsComing log thread new slots lines m slot
  ToClean : live_value (slot_in log m.words thread new slot) ≡ value_of log new slot → Contains lines (slot / 8) → IsComing log thread new slots lines m slot
  Queued : live_value (slot_in log m.words thread new slot) ≡ value_of log new slot →
      PersistsThrough m.words m.queue (bank_word log thread (bank_of new.point) slot) (last_position (slot_in log m.words thread new slot)) →
      IsComing log thread new slots lines m slot

-- a word of the frame on which the new record counts, where these lines of the frame have still to be cleaned. It has its value; where that is durable the
-- queue reaches it, too
pub data IsFlushing (log : Log) (thread : ℕ) (new : Record) (framing : List ℕ) (m : LogConfig) (word : ℕ) : Type 0 where
  FrameToClean : live_value (frame_in log m.words thread word) ≡ new.frame word → Contains framing (word / 8) → IsFlushing log thread new framing m word
  FrameQueued : live_value (frame_in log m.words thread word) ≡ new.frame word →
      PersistsThrough m.words m.queue (frame_word log thread word) (last_position (frame_in log m.words thread word)) →
      IsFlushing log thread new framing m word

-- the new bank is being written, and then lines of the frame cleaned
pub record IsWriting (log : Log) (thread : ℕ) (new : Record) (slots lines framing : List ℕ) (m : LogConfig) : Type 0 where
  pub rest : m.rest ≡ stores_of log thread new slots ++ cleans_of log thread new lines ++ frame_cleans log thread framing ++ commit_effects log thread new.point
  pub own : (slot : ℕ) → Contains slots slot → Contains (slots_of log new) slot
  -- the clean of a slot's line comes after its store
  pub after : (slot : ℕ) → Contains slots slot → Contains lines (slot / 8)
  pub exist : (line : ℕ) → Contains lines line → Contains (bank_lines log) line
  pub each : (slot : ℕ) → Contains (slots_of log new) slot → IsComing log thread new slots lines m slot
  -- a line of the frame begins with a word of it
  pub frame_lines_exist : (line : ℕ) → Contains framing line → IsFrameWord log (8 * line)
  pub framed : (word : ℕ) → Contains (framed_of new) word → IsFlushing log thread new framing m word

-- the point has been stored: after the old one, wherever that is still durable
pub record IsPointed (log : Log) (thread : ℕ) (old new : Record) (words : List Word) : Type 0 where
  pub before : (p : ℕ) → (point_in log words thread).durable ≤ p → p < last_position (point_in log words thread) →
      slice_index (point_in log words thread).values p ≡ old.point
  pub last : live_value (point_in log words thread) ≡ new.point
  -- the banks of both records are there, and what they count on in the frame
  pub old_bank : HasBank log thread old words
  pub new_bank : HasBank log thread new words
  pub old_frame : HasFrame log thread old words
  pub new_frame : HasFrame log thread new words

-- how far a boundary has come, from before its first effect to after its last
pub data Stage (log : Log) (thread : ℕ) (old new : Record) (m : LogConfig) : Type 0 where
  Writing : (slots lines framing : List ℕ) → IsWriting log thread new slots lines framing m → IsRecorded log thread old m.words → Stage log thread old new m
  -- the first fence is passed
  Written : m.rest ≡ Stores (point_at log thread) 8 new.point ∷ Cleans (point_at log thread) ∷ Fences ∷ [] → IsRecorded log thread old m.words →
      HasBank log thread new m.words → HasFrame log thread new m.words → Stage log thread old new m
  Pointed : m.rest ≡ Cleans (point_at log thread) ∷ Fences ∷ [] → IsPointed log thread old new m.words → Stage log thread old new m
  PointQueued : m.rest ≡ Fences ∷ [] → IsPointed log thread old new m.words →
      PersistsThrough m.words m.queue (word_number (point_at log thread)) (last_position (point_in log m.words thread)) → Stage log thread old new m
  -- the second fence is passed
  Over : m.rest ≡ [] → IsRecorded log thread new m.words → Stage log thread old new m

-- the one record may be written over the other: in the other bank, where both have one
pub record MayOverwrite (log : Log) (old new : Record) : Type 0 where
  pub old_is : IsRecord log old
  pub new_is : IsRecord log new
  pub apart : old.point ≢ 0 → new.point ≢ 0 → bank_of old.point ≢ bank_of new.point

-- a log on its way from the one record to the other
pub record LogIs (how : Log) (thread : ℕ) (old new : Record) (m : LogConfig) : Type 0 where
  pub follows : MayOverwrite how old new
  pub log : HasLog how thread m.words
  pub queue : AreEntries m.words m.queue
  pub stage : Stage how thread old new m

-- ---- Commitment

abbrev pub is_store : Effect → Bool
is_store (Continues registers pc) = false
is_store (Loads address bytes signed register) = false
is_store (Stores address bytes value) = true
is_store (Cleans address) = false
is_store Fences = false
is_store Calls = false

-- the boundary has stored its point, and that is durable
abbrev pub is_committed : (log : Log) (thread : ℕ) → LogConfig → Bool
is_committed log thread m = not (list_any is_store m.rest) && (point_in log m.words thread).durable == last_position (point_in log m.words thread)

-- what a crash leaves, where the boundary was on its way from the one record to the other
abbrev pub left_by_crash : (log : Log) (thread : ℕ) → (old new : Record) → LogConfig → Record
left_by_crash log thread old new m = if is_committed log thread m then new else old
