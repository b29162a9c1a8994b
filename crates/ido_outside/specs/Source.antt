-- What is taken from a source, where it tells the bytes that are left.
use Rattle.std.specs.Prelude.{◌≡◌, ℕ, ◌+◌, ◌≤◌, List, length, Option}
use Rattle.std.specs.Io.KnownBytes.{Consumes}
use Rattle.ido_outside.specs.declared.faults.InFault.{InFault}
use Rattle.ido_outside.specs.declared.faults.InFault.TheVariants.{Failed, TooLong, Memory}

-- a prefix of what was left was taken, and it has n bytes
abbrev pub TakesExactly : ℕ → Option (List ℕ) → Option (List ℕ) → Type 0
TakesExactly n old new = (taken : List ℕ) × Consumes old new taken × (length taken ≡ n)

-- a prefix of what was left was taken, and it has at most n bytes
abbrev pub TakesAtMost : ℕ → Option (List ℕ) → Option (List ℕ) → Type 0
TakesAtMost n old new = (taken : List ℕ) × Consumes old new taken × (length taken ≤ n)

-- what was taken before each fault: a byte more than the limit where the input is too long, and else no more than the limit
abbrev pub TakenAtFault : ℕ → Option (List ℕ) → Option (List ℕ) → InFault → Type 0
TakenAtFault limit old new TooLong = TakesExactly (limit + 1) old new
TakenAtFault limit old new Failed = TakesAtMost limit old new
TakenAtFault limit old new Memory = TakesAtMost limit old new
