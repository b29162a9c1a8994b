-- Sets of names as masks.
use Rattle.std.specs.Prelude.{ℕ, ◌+◌, ◌*◌, Bool, List, [], ◌∷◌, if◌then◌else◌}

-- a bit for each name, that of name 0 the lowest
abbrev pub mask_of : List Bool → ℕ
mask_of [] = 0
mask_of (b ∷ bs) = (if b then 1 else 0) + 2 * mask_of bs
