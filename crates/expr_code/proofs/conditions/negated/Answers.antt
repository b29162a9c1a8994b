use Rattle.expr_code.proofs.OperationCode.{not_test}
use Rattle.expr_code.proofs.conditions.negated.Goals as goal

pub returns-clause-test : goal.returns-clause-test
returns-clause-test c = λ h x held g. not_test c.args.inner.test c.negated.result c.args.inner.code.items c.negated.ensures h x held g
