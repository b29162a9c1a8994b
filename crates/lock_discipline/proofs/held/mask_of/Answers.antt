use Rattle.std.proofs.Common.{ℕ, ◌<◌, ◌≤◌, length, subst, sym, arith}
use Rattle.lock_discipline.proofs.Masks.{bit_small, last_small}
use Rattle.lock_discipline.proofs.held.mask_of.Goals as goal

pub overflow_mul-mask : goal.overflow_mul-mask
overflow_mul-mask c =
    let low : c.loop-high.high < length c.args.held.now = omega arith in
    omega (arith, c.loop-high.invariant, last_small c.args.held.now c.loop-high.high low c.requires)

pub overflow_add-mask : goal.overflow_add-mask
overflow_add-mask c =
    let low : c.loop-high.high < length c.args.held.now = omega arith in
    let bit : c.bit.result ≤ 1 = subst (λ (n : ℕ). n ≤ 1) (sym c.bit.ensures) (bit_small _) in
    omega (arith, c.loop-high.invariant, bit, last_small c.args.held.now c.loop-high.high low c.requires)
