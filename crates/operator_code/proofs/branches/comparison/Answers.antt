use Rattle.std.proofs.Common.{sym, ◌∙◌, ap, subst, Option}
use Rattle.std.specs.Prelude.{IfSome}
use Rattle.ido_ints.specs.declared.kinds.Kind.{Kind}
use Rattle.operator_code.specs.declared.branches.Test.{Test}
use Rattle.operator_code.specs.ComputingCode.{IsComparison}
use Rattle.operator_code.specs.links.OperatorInstructions.{test_of}
use Rattle.operator_code.proofs.Comparisons.{compared}
use Rattle.operator_code.proofs.branches.comparison.Goals as goal

pub returns-clause-test : goal.returns-clause-test
returns-clause-test c =
    subst (λ (o : Option Test). IfSome o (λ t. IsComparison c.args.operation c.args.rs1 c.args.rs2 t))
    (sym (c.order.ensures ∙ ap (λ (k : Kind). test_of c.args.operation.operator k c.args.rs1 c.args.rs2) c.left_kind.ensures))
    (compared c.args.operation.operator c.args.operation.left c.args.operation.right c.args.rs1 c.args.rs2)
