use Rattle.std.proofs.Common.{refl}
use Rattle.c_tree.specs.Elaboration.{kind_of}
use Rattle.expr_code.proofs.OperationCode.{nonzero_test}
use Rattle.expr_code.proofs.conditions.tested.Goals as goal

pub returns-clause-test : goal.returns-clause-test
returns-clause-test c = λ h x held operand. nonzero_test c.nonzero.result (kind_of x) c.args.operand.register c.args.operand.code.items
    (c.nonzero.ensures (kind_of x)) h x held refl operand
