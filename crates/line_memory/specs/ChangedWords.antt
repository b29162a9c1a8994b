-- Which words are known to have changed.
use Rattle.std.specs.Prelude.{◌≡◌, ◌⊎◌, ℕ, ◌<◌, List, length, slice_index, true}
use Rattle.line_memory.specs.declared.changes.Changes.{Changes}

-- the number is in the list
pub record IsListed (numbers : List ℕ) (number : ℕ) : Type 0 where
  pub place : ℕ
  pub within : place < length numbers
  pub same : slice_index numbers place ≡ number

-- the word of that number may have changed
abbrev pub HasChanged : Changes → (number : ℕ) → Type 0
HasChanged changes number = (changes.is_all ≡ true) ⊎ IsListed changes.numbers.items number
