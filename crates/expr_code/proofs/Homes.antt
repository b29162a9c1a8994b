-- Homes in memory.
use Rattle.std.proofs.Common.{◌≡◌, ℕ, ◌<◌, ◌^◌, arith, true}
use Rattle.std.proofs.lemmas.Bool.Decides.{nat_tests}
use Rattle.expr_code.specs.declared.home.Home.TheVariants.{InFrame}
use Rattle.expr_code.specs.EvaluationCode.{is_home}

-- an instruction's upper part reaches it
pub near_home : (address : ℕ) → is_home (InFrame address) ≡ true → address < 2 ^ 30
near_home address home = grind (arith, nat_tests)
