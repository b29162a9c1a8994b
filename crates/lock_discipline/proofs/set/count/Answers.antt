use Rattle.std.proofs.Common.{◌<◌, length, arith}
use Rattle.lock_discipline.proofs.Masks.{count_fits}
use Rattle.lock_discipline.proofs.set.count.Goals as goal

pub overflow_add-count : goal.overflow_add-count
overflow_add-count c =
    let low : c.loop-is_held.is_held-index < length c.args.held.now = omega arith in
    omega (
      arith,
      count_fits c.args.held.now c.loop-is_held.count c.loop-is_held.is_held-index _ c.requires low c.if-is_held.true c.loop-is_held.invariant,
    )
