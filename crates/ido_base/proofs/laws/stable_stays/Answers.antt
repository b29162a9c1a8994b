use Rattle.ido_base.proofs.Growth.{stable_stays as stays}
use Rattle.ido_base.proofs.laws.stable_stays.Goals as goal

pub returns : goal.returns
returns c = stays
