use Rattle.std.proofs.Common.{sym, ◌∙◌, ap, Option}
use Rattle.std.specs.Option.{option_map}
use Rattle.c_tree.specs.Exprs.{placed_of}
use Rattle.c_tree.specs.Temporaries.{key_exprs}
use Rattle.c_tree.specs.declared.expr.Placed.{Placed}
use Rattle.c_temporaries.specs.links.FirstDeepExpression.{first_deep}
use Rattle.c_temporaries.proofs.temporaries.of_lock.Goals as goal

pub returns-in-None : goal.returns-in-None
unfolding first_deep
returns-in-None c =
    ap (λ (o : Option Placed). first_deep (key_exprs (record { mutex = c.args.lock.now.mutex; key = option_map placed_of o }))) (sym c.in-None.is)

pub returns-in-Some : goal.returns-in-Some
returns-in-Some c =
    c.of_placed.ensures
    ∙ ap (λ (o : Option Placed). first_deep (key_exprs (record { mutex = c.args.lock.now.mutex; key = option_map placed_of o }))) (sym c.in-Some.is)
