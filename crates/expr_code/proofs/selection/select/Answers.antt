use Rattle.c_tree.specs.Exprs.{expr_of}
use Rattle.expr_code.specs.EvaluationCode.{homes_of}
use Rattle.expr_code.proofs.WholeExpressionCode.{value_code}
use Rattle.expr_code.proofs.selection.select.Goals as goal

pub returns-clause-code : goal.returns-clause-code
returns-clause-code c =
    value_code (homes_of c.args.frame.now) (expr_of c.args.expr.now) c.args.destination c.in_ok-code.code.items c.in_ok-code.ensures.code
