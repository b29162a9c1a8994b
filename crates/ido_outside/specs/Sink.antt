-- What is added to a sink, where it tells the bytes that were written.
use Rattle.std.specs.Prelude.{◌≡◌, ℕ, ◌<◌, ⊤, List, [], ◌++◌, length, take, None, Some, Option, Result, IfOk, MatchResult}

-- the bytes were added after those that were told; a sink that has ceased to tell never tells again
abbrev pub Adds : Option (List ℕ) → Option (List ℕ) → List ℕ → Type 0
Adds (Some old) (Some new) bytes = new ≡ old ++ bytes
Adds (Some old) None bytes = ⊤
Adds None (Some new) bytes = ⊥
Adds None None bytes = ⊤

-- `write(piece)` added the n bytes that it took at `Ok(n)`, and nothing at `Err`
abbrev pub WriteAdds : {E : Type 0} → Option (List ℕ) → Option (List ℕ) → Result ℕ E → List ℕ → Type 0
WriteAdds old new result piece = MatchResult result (λ n. Adds old new (take n piece)) (λ _. Adds old new [])

-- `write(piece)` took a byte at least, where there was one
abbrev pub TakesSome : {E : Type 0} → Result ℕ E → List ℕ → Type 0
TakesSome result piece = IfOk result (λ n. 0 < length piece → 0 < n)

-- a prefix of the bytes was added, and not all of them
abbrev pub AddsPrefix : Option (List ℕ) → Option (List ℕ) → List ℕ → Type 0
AddsPrefix old new bytes = (n : ℕ) × (n < length bytes) × Adds old new (take n bytes)
