-- What has been gathered from a source.
use Rattle.std.specs.Prelude.{◌≡◌, ℕ, ◌+◌, List, ◌++◌, Option}
use Rattle.std.specs.Io.KnownBytes.{Consumes}

-- a prefix of what was left was taken, and stands now after the bytes
abbrev pub Gathers : Option (List ℕ) → Option (List ℕ) → List ℕ → List ℕ → Type 0
Gathers old new before after = (taken : List ℕ) × Consumes old new taken × (after ≡ before ++ taken)
