use Rattle.log_schemes.proofs.Facts.{scheme}
use Rattle.log_schemes.proofs.laws.schemes_owe.Goals as goal

pub returns : goal.returns
returns c = scheme
