use Rattle.c_tree.proofs.Public.{of_for}
use Rattle.c_reader.proofs.block.for_of.Goals as goal

pub returns : goal.returns
returns c = of_for c.args.place c.args.head c.args.block
