-- Numbers of four bytes and words of eight, little-endian.
use Rattle.std.specs.Prelude.{ℕ, ◌^◌, ◌<◌, List}
use Rattle.std.specs.Int.{w32, w64, to_le_bytes}

abbrev pub number : ℕ → List ℕ
number n = to_le_bytes w32 n

abbrev pub word : ℕ → List ℕ
word n = to_le_bytes w64 n

abbrev pub IsNumber : ℕ → Type 0
IsNumber n = n < 2 ^ 32

abbrev pub IsWord : ℕ → Type 0
IsWord n = n < 2 ^ 64
