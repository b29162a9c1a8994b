use Rattle.std.proofs.Common.{sym}
use Rattle.ido_base.proofs.Public.{none_high}
use Rattle.image_checks.proofs.logs.mask_has.Goals as goal

pub returns-else-lock-lt-MASK_BITS : goal.returns-else-lock-lt-MASK_BITS
returns-else-lock-lt-MASK_BITS c = sym (none_high c.args.mask c.args.lock c.if-lock-lt-MASK_BITS.false)
