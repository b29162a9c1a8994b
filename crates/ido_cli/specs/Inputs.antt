-- An input: a source text, a line `%%`, and the rest.
use Rattle.std.specs.Prelude.{ℕ, List, [], ◌∷◌, drop, Option, Some, None, Bool, true, nat_eq, ◌==◌, if◌then◌else◌, codes}
use Rattle.std.specs.Cmp.Lexicographic.{pointwise}
use Rattle.std.specs.List.{starts_with}
use Rattle.ido_base.specs.Places.{line_feed}

-- a line `%%`, as it may stand before more: a CR before its LF is passed over
abbrev pub mark : List ℕ
mark = codes "%%\n"

abbrev pub mark_with_return : List ℕ
mark_with_return = codes "%%\r\n"

-- the line `%%` as it may stand last
abbrev pub last_mark : List ℕ
last_mark = codes "%%"

-- what stands after a line `%%`, where the text begins with one
unfoldable pub after_mark : List ℕ → Option (List ℕ)
after_mark text =
    if starts_with nat_eq text mark then Some (drop 3 text)
    else if starts_with nat_eq text mark_with_return then Some (drop 4 text)
    else if pointwise nat_eq text last_mark then Some []
    else None

-- what stands after a line `%%`, where a line begins here
abbrev pub after_mark_at : (line_begins : Bool) → List ℕ → Option (List ℕ)
after_mark_at begins text = if begins then after_mark text else None

-- what stands before the first line `%%`, and all where there is none
abbrev pub source_from : (line_begins : Bool) → List ℕ → List ℕ
source_from begins [] = []
source_from begins (c ∷ cs) = elim (after_mark_at begins (c ∷ cs)) [
  | Some rest ↦ []
  | None ↦ c ∷ source_from (c == line_feed) cs
]

-- what stands after the first line `%%`, and nothing where there is none
abbrev pub rest_from : (line_begins : Bool) → List ℕ → List ℕ
rest_from begins [] = []
rest_from begins (c ∷ cs) = elim (after_mark_at begins (c ∷ cs)) [
  | Some rest ↦ rest
  | None ↦ rest_from (c == line_feed) cs
]

-- the source text of an input, and the rest
unfoldable pub source_of : List ℕ → List ℕ
source_of input = source_from true input

unfoldable pub rest_of : List ℕ → List ℕ
rest_of input = rest_from true input
