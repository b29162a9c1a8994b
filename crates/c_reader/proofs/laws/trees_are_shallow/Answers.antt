use Rattle.c_reader.proofs.Depths.{shallow}
use Rattle.c_reader.proofs.laws.trees_are_shallow.Goals as goal

pub returns : goal.returns
returns c = shallow
