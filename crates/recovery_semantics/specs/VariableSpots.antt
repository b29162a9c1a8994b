-- Variables in words of memory, wherever they stand.
use Rattle.std.specs.Prelude.{pos, ◌≢◌, ◌≡◌, ◌⊎◌, ℕ, zero, suc, ◌+◌, ◌*◌, ◌/◌, ◌%◌, ◌<◌, ◌≤◌, List, [], ◌∷◌, length, map, slice_get, Some, ℤ}
use Rattle.ido_ints.specs.declared.kinds.Kind.{Kind}
use Rattle.ido_ints.specs.Kinds.{bytes_of, Holds}
use Rattle.ido_ints.specs.Reduction.{reduced, register_of}
use Rattle.ido_base.specs.Words as w
use Rattle.ido_base.specs.Words.{Word, word_at}
use Rattle.ido_base.specs.Growth as growth
use Rattle.recovery_semantics.specs.ElementHistories.{live_number, history_at, History, Memory, IsOther, IsStored, ArePersisted, crashed}
use Rattle.recovery_semantics.specs.Elements.{element_in}

-- where a variable stands: the kind of its elements, the number of its first byte, and how many elements it has
pub record Spot : Type 0 where
  pub kind : Kind
  pub start : ℕ
  pub elements : ℕ

-- `count` elements of the kind, from the byte of that number on
abbrev pub elements_in : List Word → Kind → (number count : ℕ) → List History
elements_in words kind number zero = []
elements_in words kind number (suc n) = element_in kind (number % 8) (word_at words (number / 8)) ∷ elements_in words kind (number + bytes_of kind) n

abbrev pub variable_in : List Word → Spot → List History
variable_in words s = elements_in words s.kind s.start s.elements

-- the variables at these spots
abbrev pub memory_in : List Spot → List Word → Memory
memory_in spots words = map (variable_in words) spots

-- an element at its spot, in the words from the number `number` on
pub record IsAtSpot (spots : List Spot) (variable element : ℕ) (kind : Kind) (number : ℕ) : Type 0 where
  pub spot : Spot
  pub there : slice_get spots variable ≡ Some spot
  pub within : element < spot.elements
  pub kind_is : kind ≡ spot.kind
  pub number_is : number ≡ spot.start + bytes_of spot.kind * element

-- each element lies in one of so many words, and no two have a byte in common
pub record AreSpotsApart (spots : List Spot) (words : ℕ) : Type 0 where
  pub whole : (v e : ℕ) (kind : Kind) (number : ℕ) → IsAtSpot spots v e kind number → (number % 8 + bytes_of kind ≤ 8) × (number / 8 < words)
  pub apart : (v e i j : ℕ) (kind other : Kind) (number at : ℕ) → IsAtSpot spots v e kind number → IsAtSpot spots i j other at → IsOther i j v e →
      (at + bytes_of other ≤ number) ⊎ (number + bytes_of kind ≤ at)

-- ---- Laws

-- a store of a number's register form to an element is one to memory
abbrev pub MemoryStored : Type 0
MemoryStored = (spots : List Spot) (words : List Word) (v e : ℕ) (kind : Kind) (number : ℕ) (n : ℤ) → AreSpotsApart spots (length words) →
    IsAtSpot spots v e kind number → Holds kind n →
    IsStored (memory_in spots words) (memory_in spots (w.stored words number (bytes_of kind) (register_of kind n))) v e n

-- a load from an element has its live number
abbrev pub MemoryLoaded : Type 0
MemoryLoaded = (spots : List Spot) (words : List Word) (v e : ℕ) (kind : Kind) (number : ℕ) → IsAtSpot spots v e kind number →
    reduced kind (pos (w.loaded words number (bytes_of kind))) ≡ live_number (history_at (memory_in spots words) v e)

-- a store to a word that has no element leaves memory
abbrev pub MemoryStays : Type 0
MemoryStays = (spots : List Spot) (words : List Word) (number count value : ℕ) →
    ((v e : ℕ) (kind : Kind) (at : ℕ) → IsAtSpot spots v e kind at → at / 8 ≢ number / 8) →
    memory_in spots (w.stored words number count value) ≡ memory_in spots words

-- where words are persisted, so is memory
abbrev pub MemoryPersisted : Type 0
MemoryPersisted = (spots : List Spot) (old new : List Word) → growth.ArePersisted old new → ArePersisted (memory_in spots old) (memory_in spots new)

-- a crash of all words is one of memory
abbrev pub MemoryCrashed : Type 0
MemoryCrashed = (spots : List Spot) (words : List Word) → memory_in spots (w.crashed words) ≡ crashed (memory_in spots words)
