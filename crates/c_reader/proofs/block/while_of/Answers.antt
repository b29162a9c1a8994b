use Rattle.std.proofs.Common.{arith}
use Rattle.std.proofs.lemmas.Grind.{common_steps}
use Rattle.c_tree.proofs.Public.{tree_rows_of_while as of_while}
use Rattle.c_reader.proofs.block.while_of.Goals as goal

pub returns : goal.returns
returns c =
    let e = of_while c.args.place c.in_ok-condition.condition c.args.block in
    grind (arith, common_steps)
