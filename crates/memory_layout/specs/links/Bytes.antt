-- The bytes that variables begin with, one after another.
use Rattle.std.specs.Prelude.{ℕ, ◌+◌, ◌-◌, ◌*◌, List, [], ◌∷◌, ◌++◌, take, replicate, ℤ}
use Rattle.std.specs.Int.{w64, to_le_bytes}
use Rattle.ido_base.specs.declared.location.Shape.{Shape}
use Rattle.ido_base.specs.Layout.{aligned_up}
use Rattle.memory_layout.specs.Variables.{bits_of}

-- the low `count` bytes of each number
unfoldable pub numbers_bytes : (count : ℕ) → List ℤ → List ℕ
numbers_bytes count [] = []
numbers_bytes count (z ∷ zs) = take count (to_le_bytes w64 (bits_of z)) ++ numbers_bytes count zs

-- the bytes of a variable, where those before it end at n
unfoldable pub variable_bytes : (n : ℕ) → Shape → List ℤ → List ℕ
variable_bytes n s zs = replicate (aligned_up n s.bytes - n) 0 ++ numbers_bytes s.bytes zs

-- where a variable ends, if the one before it ends at n
abbrev pub after : (n : ℕ) → Shape → ℕ
after n s = aligned_up n s.bytes + s.bytes * s.length

-- the bytes of all variables
unfoldable pub bytes_from : (n : ℕ) → List Shape → List (List ℤ) → List ℕ
bytes_from n [] numbers = []
bytes_from n (s ∷ ss) [] = []
bytes_from n (s ∷ ss) (zs ∷ numbers) = variable_bytes n s zs ++ bytes_from (after n s) ss numbers
