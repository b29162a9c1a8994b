-- How words change between crashes: a store appends to a history, a write-back or an eviction persists more of it.
use Rattle.std.specs.Prelude.{◌≡◌, ◌⊎◌, ℕ, ◌+◌, ◌-◌, ◌*◌, ◌<◌, ◌≤◌, List, [], ◌∷◌, ◌++◌, length, slice_index}
use Rattle.ido_base.specs.Words.{Word, Entry, word_at, last_position, with_value, part, drained, stored, evicted, entry_of}

-- the word has the same history, of which more may have persisted: its durable position is no lower
pub record IsPersisted (old new : Word) : Type 0 where
  pub values : new.values ≡ old.values
  pub no_lower : old.durable ≤ new.durable
  pub no_higher : old.durable ≤ last_position old → new.durable ≤ last_position old

-- each word has the same history, of which more may have persisted
pub record ArePersisted (old new : List Word) : Type 0 where
  pub size : length new ≡ length old
  pub each : (j : ℕ) → IsPersisted (word_at old j) (word_at new j)

-- persisted, or with one value more at the end
abbrev pub IsChanged : (old new : Word) → Type 0
IsChanged old new = IsPersisted old new ⊎ ((value : ℕ) × (new ≡ with_value old value))

-- each word has the same history, of which more may have persisted, or one value more at the end
pub record AreChanged (old new : List Word) : Type 0 where
  pub size : length new ≡ length old
  pub each : (j : ℕ) → IsChanged (word_at old j) (word_at new j)

-- the bytes of the word have one value from the durable position to the last, whatever a crash leaves
abbrev pub Stable : Word → (byte count value : ℕ) → Type 0
Stable word byte count value = (p : ℕ) → word.durable ≤ p → p < length word.values → part (slice_index word.values p) byte count ≡ value

-- the words once the queue is written back whole
abbrev pub drained_all : List Word → List Entry → List Word
drained_all words [] = words
drained_all words (e ∷ es) = drained_all (drained words e) es

-- once the queue is written back whole, the word is durable as of this position or later
abbrev pub PersistsThrough : List Word → List Entry → (word position : ℕ) → Type 0
PersistsThrough words queue j position = position ≤ (word_at (drained_all words queue) j).durable

-- an entry of a line that exists, at eight positions that its words have
pub record IsEntry (words : List Word) (e : Entry) : Type 0 where
  pub eight : length e.positions ≡ 8
  pub line : 8 * e.line + 8 ≤ length words
  pub within : (k : ℕ) → k < 8 → slice_index e.positions k ≤ last_position (word_at words (8 * e.line + k))

abbrev pub AreEntries : List Word → List Entry → Type 0
AreEntries words [] = Unit {0}
AreEntries words (e ∷ es) = IsEntry words e × AreEntries words es

-- ---- Laws

-- an eviction persists words, and so does the write-back of an entry
abbrev pub EvictionsRaise : Type 0
EvictionsRaise = (words : List Word) (line mask : ℕ) → ArePersisted words (evicted words line mask)

abbrev pub WriteBacksRaise : Type 0
WriteBacksRaise = (words : List Word) (e : Entry) → IsEntry words e → ArePersisted words (drained words e)

-- a store changes words: it appends to one, and leaves all others
abbrev pub StoresChange : Type 0
StoresChange = (words : List Word) (number count value : ℕ) → AreChanged words (stored words number count value)

-- what is stable in a word stays so where it is persisted
abbrev pub StableStays : Type 0
StableStays = (old new : Word) (byte count value : ℕ) → IsPersisted old new → Stable old byte count value → Stable new byte count value

-- what an entry represents stays where words change
abbrev pub EntriesStay : Type 0
EntriesStay = (old new : List Word) (queue : List Entry) → AreChanged old new → AreEntries old queue → AreEntries new queue

-- how far a queue reaches stays where words change, whoever changes them, and where more is queued after it
abbrev pub ReachStays : Type 0
ReachStays =
    (old new : List Word) (queue more : List Entry) (j position : ℕ) → AreChanged old new → PersistsThrough old queue j position →
    PersistsThrough new (queue ++ more) j position

-- a clean queues an entry, by which each word of its line reaches its last position
abbrev pub CleansReach : Type 0
CleansReach = (words : List Word) (queue : List Entry) (line k : ℕ) → 8 * line + 8 ≤ length words → k < 8 → AreEntries words queue →
    IsEntry words (entry_of words line)
    × PersistsThrough words (queue ++ entry_of words line ∷ []) (8 * line + k) (last_position (word_at words (8 * line + k)))
