use Rattle.c_tree.specs.Exprs.{expr_of}
use Rattle.expr_code.specs.EvaluationCode.{homes_of}
use Rattle.expr_code.proofs.WholeExpressionCode.{test_code}
use Rattle.expr_code.proofs.selection.select_test.Goals as goal

pub returns-clause-code : goal.returns-clause-code
returns-clause-code c =
    test_code (homes_of c.args.frame.now) (expr_of c.args.condition.now) c.in_ok-code.code.test c.in_ok-code.code.code.items c.in_ok-code.ensures.test
