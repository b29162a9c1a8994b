-- Lists that stand one after another in one list.
use Rattle.std.specs.Prelude.{◌≡◌, ℕ, ◌+◌, List, [], ◌∷◌, ℤ, take, drop, slice_get, Option, Some, None, nat_lt, if◌then◌else◌}
use Rattle.source_machine.specs.declared.variables.Span.{Span}

-- the parts of a list, by their lengths
abbrev pub parts : List Span → List ℤ → List (List ℤ)
parts [] xs = []
parts (s ∷ ss) xs = take s.length xs ∷ parts ss (drop s.length xs)

-- each span begins where the one before it ends, and the last ends at the end
abbrev pub AreConsecutive : (from : ℕ) → List Span → (end : ℕ) → Type 0
AreConsecutive from [] end = from ≡ end
AreConsecutive from (s ∷ ss) end = (s.start ≡ from) × AreConsecutive (from + s.length) ss end

-- where an element of a part stands in the list, if there is one
abbrev pub place_in : List Span → (part element : ℕ) → Option ℕ
place_in spans part element = elim (slice_get spans part) [
  | Some s ↦ if nat_lt element s.length then Some (s.start + element) else None
  | None ↦ None
]
