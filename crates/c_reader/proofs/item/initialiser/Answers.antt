use Rattle.std.proofs.Common.{arith}
use Rattle.std.proofs.lemmas.Grind.{common_steps}
use Rattle.c_reader.proofs.ItemSteps.{initialiser_is}
use Rattle.c_reader.proofs.item.initialiser.Goals as goal

pub returns-in_err-numbers : goal.returns-in_err-numbers
returns-in_err-numbers c =
    let e = initialiser_is c.args.fuel c.args.tokens.now in
    grind (arith, common_steps)
