-- Signed numbers in the fields of instructions.
use Rattle.std.specs.Prelude.{ℕ, suc, ◌-◌, ◌^◌, ℤ, pos, negsuc}

-- a number in two's complement of so many bits
abbrev pub twos_complement : (bits : ℕ) → ℤ → ℕ
twos_complement bits (pos n) = n
twos_complement bits (negsuc n) = 2 ^ bits - suc n
