use Rattle.std.proofs.Common.{arith}
use Rattle.std.proofs.lemmas.Grind.{common_steps}
use Rattle.c_tree.proofs.Public.{tree_rows_of_do as of_do}
use Rattle.c_reader.proofs.block.do_of.Goals as goal

pub returns : goal.returns
returns c =
    let e = of_do c.args.place c.args.block c.in_ok-condition.condition in
    grind (arith, common_steps)
