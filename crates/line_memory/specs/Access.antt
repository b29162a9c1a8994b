-- Sizes of accesses.
use Rattle.std.specs.Prelude.{ℕ, Bool, ◌==◌, ◌||◌}

-- what a load or a store may take: 1, 2, 4 or 8 bytes
abbrev pub is_width : ℕ → Bool
is_width bytes = bytes == 1 || (bytes == 2 || (bytes == 4 || bytes == 8))
