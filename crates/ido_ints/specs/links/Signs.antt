-- The low 32 bits, with their sign.
use Rattle.std.specs.Prelude.{ℕ, ◌+◌, ◌-◌, ◌%◌, ◌^◌, nat_lt, if◌then◌else◌}

-- the low 32 bits of n, sign-extended to 64
abbrev pub sign_extended : ℕ → ℕ
sign_extended n = if nat_lt (n % 2 ^ 32) (2 ^ 31) then n % 2 ^ 32 else n % 2 ^ 32 + (2 ^ 64 - 2 ^ 32)
