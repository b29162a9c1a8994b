use Rattle.image_checks.proofs.Masks.{next_low}
use Rattle.image_checks.proofs.bank.mask_with.Goals as goal

pub bit-mask-requires : goal.bit-mask-requires
bit-mask-requires c =
    next_low c.args.numbers.now c.loop-number.number-index c.loop-number.mask c.loop-number-test.true c.loop-number.invariant c.requires
