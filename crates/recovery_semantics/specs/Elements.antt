-- Elements in words of memory: the numbers that bytes of a word have had.
use Rattle.std.specs.Prelude.{◌≡◌, ◌⊎◌, ℕ, ◌+◌, ◌≤◌, map, ℤ, pos}
use Rattle.ido_ints.specs.declared.kinds.Kind.{Kind}
use Rattle.ido_ints.specs.Kinds.{bytes_of, Holds}
use Rattle.ido_ints.specs.Reduction.{reduced, register_of}
use Rattle.ido_base.specs.Words as w
use Rattle.ido_base.specs.Words.{Word, part, with_part, live_value, durable_value, with_value}
use Rattle.ido_base.specs.Growth as growth
use Rattle.recovery_semantics.specs.ElementHistories.{History, IsPersisted, live_number, durable_number, with_number, after_crash}

-- the number of the kind that a word's value has in its bytes from the given one on
abbrev pub number_in : Kind → (byte value : ℕ) → ℤ
number_in kind byte value = reduced kind (pos (part value byte (bytes_of kind)))

-- the history of the element of that kind in these bytes of the word
abbrev pub element_in : Kind → (byte : ℕ) → Word → History
element_in kind byte word = record { values = map (number_in kind byte) word.values; durable = word.durable }

-- ---- Laws

-- a load reads the element's number, and a crash leaves its durable one
abbrev pub LiveIn : Type 0
LiveIn = (kind : Kind) (byte : ℕ) (word : Word) → number_in kind byte (live_value word) ≡ live_number (element_in kind byte word)

abbrev pub DurableIn : Type 0
DurableIn = (kind : Kind) (byte : ℕ) (word : Word) → number_in kind byte (durable_value word) ≡ durable_number (element_in kind byte word)

-- where a word is persisted, so is the element
abbrev pub PersistedIn : Type 0
PersistedIn = (kind : Kind) (byte : ℕ) (old new : Word) → growth.IsPersisted old new → IsPersisted (element_in kind byte old) (element_in kind byte new)

-- a crash of the word is one of the element
abbrev pub CrashedIn : Type 0
CrashedIn = (kind : Kind) (byte : ℕ) (word : Word) → element_in kind byte (w.after_crash word) ≡ after_crash (element_in kind byte word)

-- a store of a number's register form to the element's bytes appends the number
abbrev pub StoredIn : Type 0
StoredIn = (kind : Kind) (byte : ℕ) (word : Word) (number : ℤ) → Holds kind number →
    element_in kind byte (with_value word (with_part (live_value word) byte (bytes_of kind) (register_of kind number))) ≡
    with_number (element_in kind byte word) number

-- a store to other bytes of the word appends the element's own number
abbrev pub BesideIn : Type 0
BesideIn = (kind : Kind) (byte : ℕ) (word : Word) (at count value : ℕ) → (at + count ≤ byte) ⊎ (byte + bytes_of kind ≤ at) →
    element_in kind byte (with_value word (with_part (live_value word) at count value)) ≡
    with_number (element_in kind byte word) (live_number (element_in kind byte word))
