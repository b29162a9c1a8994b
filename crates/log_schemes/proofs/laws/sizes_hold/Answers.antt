use Rattle.log_schemes.proofs.Facts.{size_holds}
use Rattle.log_schemes.proofs.laws.sizes_hold.Goals as goal

pub returns : goal.returns
returns c = size_holds
