use Rattle.std.proofs.Common.{◌∙◌, ap, sym}
use Rattle.c_tree.specs.Exprs.{placed_of, lvalue_of}
use Rattle.c_tree.specs.Temporaries.{assign_exprs}
use Rattle.c_tree.specs.declared.expr.Lvalue.{Lvalue}
use Rattle.c_temporaries.specs.links.FirstDeepExpression.{first_deep}
use Rattle.c_temporaries.proofs.FirstDeepExpressionLaws.{joined}
use Rattle.c_temporaries.proofs.temporaries.of_assigned.Goals as goal

pub returns-in-Element : goal.returns-in-Element
returns-in-Element c =
    joined _ _ _ _ _ c.or.ensures c.of_placed.ensures c.of_placed-in-Element.ensures
    ∙ ap (λ (x : Lvalue). first_deep (assign_exprs (lvalue_of x) (placed_of c.args.value.now))) (sym c.in-Element.is)
