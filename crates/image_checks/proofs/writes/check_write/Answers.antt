use Rattle.std.proofs.Common.{refl}
use Rattle.image_checks.specs.links.BankFaults.{address, value}
use Rattle.image_checks.proofs.writes.check_write.Goals as goal

pub returns-then-not-has_address : goal.returns-then-not-has_address
returns-then-not-has_address c = address (λ h. cc (c.if-not-has_address.ensures.1 h))

pub returns-then-not-has_value : goal.returns-then-not-has_value
returns-then-not-has_value c = value (c.if-not-has_address.ensures.0 refl) (λ h. cc (c.if-not-has_value.ensures.1 h))
