use Rattle.std.proofs.Common.{sym}
use Rattle.ido_base.proofs.Public.{has_bit}
use Rattle.image_checks.proofs.logs.has_lock.Goals as goal

pub returns : goal.returns
returns c = sym (has_bit c.args.mask c.args.lock c.requires)
