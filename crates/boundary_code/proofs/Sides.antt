-- Registers of a thread whose log is on a side.
use Rattle.std.proofs.Common.{◌≡◌, ℕ, zero, suc, ◌*◌, ◌<◌, ◌^◌, ◌∙◌, List, length, refl, arith, lit<}
use Rattle.std.specs.Prelude.{replicate}
use Rattle.memory_layout.specs.Roles.{bank_offset}
use Rattle.rv64_isa.specs.Rows.{read}
use Rattle.log_schemes.specs.declared.log.Log.{Log}
use Rattle.log_schemes.specs.Schemes.{size_of}
use Rattle.log_schemes.specs.Layout.{bank_bytes}
use Rattle.log_schemes.proofs.Public.{size_holds}
use Rattle.boundary_code.specs.Boundaries.{IsOnSide}

-- a thread begins on the first one
pub fresh_on_side : (log : Log) → IsOnSide log 0 (replicate 32 0)
fresh_on_side log = record { count = refl; zero_is = refl; offset = let none : 0 ≡ bank_bytes log * 0 = omega arith in none; exists = lit< tt }

-- registers that have x3 as it was are on the same side
pub stays_on_side : (log : Log) (side : ℕ) (x y : List ℕ) → IsOnSide log side x → length y ≡ 32 → read y 0 ≡ 0 → read y bank_offset ≡ read x bank_offset →
    IsOnSide log side y
stays_on_side log side x y on count none same = record { count = count; zero_is = none; offset = same ∙ on.offset; exists = on.exists }

-- what x3 has is small
pub on_side_small : (log : Log) (side : ℕ) (x : List ℕ) → IsOnSide log side x → read x bank_offset < 2 ^ 64
on_side_small log zero x on = let offset = on.offset in omega (arith, offset)
on_side_small log (suc zero) x on = let offset = on.offset in let near = (size_holds (size_of log)).near in omega (arith, offset, near)
on_side_small log (suc (suc n)) x on = let exists = on.exists in absurd (omega (arith, exists))
