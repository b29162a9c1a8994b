use Rattle.flat_analysis.proofs.LiveKeys.{held_keys_are_live}
use Rattle.flat_analysis.proofs.laws.held_keys_are_live.Goals as goal

pub returns : goal.returns
returns c = held_keys_are_live
