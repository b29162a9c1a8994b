-- What is reported of a reference.
use Rattle.std.proofs.Common.{◌≡◌, refl, zero, suc, ℤ, ap, arith, Some, None}
use Rattle.std.specs.Prelude.{pos, negsuc, ◌-ℤ◌, ◌<ℤ◌, ◌≤ℤ◌}
use Rattle.std.proofs.lemmas.Int.{ints}
use Rattle.run_scripts.specs.Reports.{referred}

pub leads : (z : ℤ) → pos 0 <ℤ z → Some (z -ℤ pos 1) ≡ referred z
leads (pos zero) some = absurd (omega (arith, ints, some))
leads (pos (suc n)) some = let less : pos (suc n) -ℤ pos 1 ≡ pos n = omega (arith, ints) in ap (λ (z : ℤ). Some z) less
leads (negsuc n) some = absurd (omega (arith, ints, some))

pub leads_nowhere : (z : ℤ) → z ≤ℤ pos 0 → None ≡ referred z
leads_nowhere (pos zero) none = refl
leads_nowhere (pos (suc n)) none = absurd (omega (arith, ints, none))
leads_nowhere (negsuc n) none = refl
