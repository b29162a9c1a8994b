use Rattle.std.proofs.lemmas.Nat.{one_shl}
use Rattle.image_checks.proofs.bank.bit.Goals as goal

pub returns : goal.returns
returns c = one_shl c.args.number 64 c.requires
