use Rattle.expr_code.proofs.OperationCode.{comparison_test}
use Rattle.expr_code.proofs.conditions.compared.Goals as goal

pub returns-clause-test : goal.returns-clause-test
returns-clause-test c = λ h x y held kx ky both. comparison_test c.args.operation c.args.pair c.unwrap-test.result
    (rw c.unwrap-test.ensures at c.comparison.ensures.test) h x y held kx ky both
