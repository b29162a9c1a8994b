-- Elements of variables with a history: what durable memory may still lose, and what it can't.
use Rattle.std.specs.Prelude.{◌≡◌, ◌⊎◌, ℕ, ◌-◌, ◌<◌, ◌≤◌, List, [], ◌∷◌, ◌++◌, length, map, slice_index_or, ℤ, pos}
use Rattle.c_tree.specs.Source.{State}

-- ---- Elements

-- an element of a variable: the numbers that it has had since the start or the last crash, the oldest first, and which of them is the durable one
pub record History : Type 0 where
  pub values : List ℤ
  pub durable : ℕ

-- a history that has this number, durably, and no other past
abbrev pub history_of : ℤ → History
history_of n = record { values = n ∷ []; durable = 0 }

-- what a load reads
abbrev pub live_number : History → ℤ
live_number h = slice_index_or h.values (length h.values - 1) (pos 0)

-- what a crash leaves
abbrev pub durable_number : History → ℤ
durable_number h = slice_index_or h.values h.durable (pos 0)

-- the durable position is there, and from it to the last each number is this one: whatever a crash leaves
pub record IsStable (h : History) (n : ℤ) : Type 0 where
  pub there : h.durable < length h.values
  pub each : (p : ℕ) → h.durable ≤ p → p < length h.values → slice_index_or h.values p (pos 0) ≡ n

-- from the position on each number is the last one: the element has had it since then
pub record IsSince (h : History) (position : ℕ) : Type 0 where
  pub there : position < length h.values
  pub each : (p : ℕ) → position ≤ p → p < length h.values → slice_index_or h.values p (pos 0) ≡ live_number h

-- a store appends
abbrev pub with_number : History → ℤ → History
with_number h n = record { values = h.values ++ n ∷ []; durable = h.durable }

-- a crash keeps the durable number alone
abbrev pub after_crash : History → History
after_crash h = history_of (durable_number h)

-- more may have persisted: the durable position is no lower than it was, and no higher than the last
pub record IsPersisted (old new : History) : Type 0 where
  pub values : new.values ≡ old.values
  pub no_lower : old.durable ≤ new.durable
  pub within : old.durable < length old.values → new.durable < length old.values

-- ---- Memory

-- of each variable the histories of its elements
abbrev pub Memory : Type 0
Memory = List (List History)

-- the history of an element; one that never was stored to where there is none
abbrev pub history_at : Memory → (variable element : ℕ) → History
history_at memory variable element = slice_index_or (slice_index_or memory variable []) element (history_of (pos 0))

-- the number that an element has in a state
abbrev pub number_at : State → (variable element : ℕ) → ℤ
number_at s variable element = slice_index_or (slice_index_or s.variables variable []) element (pos 0)

-- how many elements each variable has
abbrev pub sizes : Memory → List ℕ
sizes memory = map length memory

-- the state's numbers, durably, with no other past
abbrev pub memory_of : State → Memory
memory_of s = map (map history_of) s.variables

-- memory has each number of the state, and each is stable
pub record AreStable (s : State) (memory : Memory) : Type 0 where
  pub size : sizes memory ≡ map length s.variables
  pub each : (v e : ℕ) → IsStable (history_at memory v e) (number_at s v e)

-- element e of variable v is another one than the given element
abbrev pub IsOther : (variable element v e : ℕ) → Type 0
IsOther variable element v e = v ≡ variable → e ≡ element → ⊥

-- the element has the number appended, and each other one is the same or has its own number appended: elements share the words that a store writes
pub record IsStored (old new : Memory) (variable element : ℕ) (number : ℤ) : Type 0 where
  pub size : sizes new ≡ sizes old
  pub own : history_at new variable element ≡ with_number (history_at old variable element) number
  pub others : (v e : ℕ) → IsOther variable element v e → (history_at new v e ≡ history_at old v e) ⊎
      (history_at new v e ≡ with_number (history_at old v e) (live_number (history_at old v e)))

-- more may have persisted of each history
pub record ArePersisted (old new : Memory) : Type 0 where
  pub size : sizes new ≡ sizes old
  pub each : (v e : ℕ) → IsPersisted (history_at old v e) (history_at new v e)

-- a crash keeps all durable numbers and nothing else
abbrev pub crashed : Memory → Memory
crashed memory = map (map after_crash) memory
