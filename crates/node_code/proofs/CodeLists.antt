-- Lists of codes, and distances.
use Rattle.std.proofs.Common.{◌≡◌, ℕ, ◌≤◌, List, length, ap, ◌∙◌, arith}
use Rattle.std.specs.Prelude.{Vec, ℤ, pos}
use Rattle.std.specs.Int.{cast_signed, cast_unsigned, w32}
use Rattle.std.proofs.lemmas.Int.{to_z-of_z}
use Rattle.std.specs.Global.{Global}
use Rattle.std.proofs.lemmas.List.{length-map}
use Rattle.rv64_isa.specs.declared.instr.Instr.{Instr}
use Rattle.boundary_code.specs.Boundaries.{lists_of}

pub lists_long : (codes : List (Vec Instr Global)) → length (lists_of codes) ≡ length codes
lists_long codes = length-map codes (λ (code : Vec Instr Global). code.items)

-- ---- Where a boundary resumes

-- a small number is read as it was written
pub same_number : (z : ℤ) (n : ℕ) → z ≡ pos n → n ≤ 262144 → cast_signed w32 (cast_unsigned w32 z) ≡ pos n
same_number z n is small = ap (λ (y : ℤ). cast_signed w32 (cast_unsigned w32 y)) is ∙ to_z-of_z w32 (pos n) (omega (arith, small))
