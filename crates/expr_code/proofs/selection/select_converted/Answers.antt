use Rattle.c_tree.specs.Exprs.{expr_of}
use Rattle.expr_code.specs.EvaluationCode.{homes_of}
use Rattle.expr_code.proofs.WholeExpressionCode.{converted_code}
use Rattle.expr_code.proofs.selection.select_converted.Goals as goal

pub returns-clause-code : goal.returns-clause-code
returns-clause-code c =
    converted_code (homes_of c.args.frame.now) (expr_of c.args.expr.now) c.args.kind c.args.destination c.in_ok-code.code.items c.in_ok-code.ensures.code
