use Rattle.std.proofs.Common.{◌≡◌, sym, ◌∙◌, ap, subst, List, [], ◌∷◌, Option, Some}
use Rattle.std.specs.Prelude.{IfSome}
use Rattle.ido_ints.specs.declared.kinds.Kind.{Kind}
use Rattle.rv64_isa.specs.declared.instr.Instr.{Instr}
use Rattle.rv64_isa.specs.declared.instr.Operation.{Operation}
use Rattle.operator_code.specs.declared.branches.Test.{Test}
use Rattle.operator_code.specs.ComputingCode.{IsBinary, IsFlag, left_kind}
use Rattle.operator_code.specs.Sequences.{listed}
use Rattle.operator_code.specs.links.OperatorInstructions.{test_of, instruction_of}
use Rattle.operator_code.proofs.BinaryOperators.{OperatorGives, given, by_op, flag_performed}
use Rattle.operator_code.proofs.binary_operators.binary.Goals as goal

pub returns-in-Some-clause-code : goal.returns-in-Some-clause-code
returns-in-Some-clause-code c =
    let is : test_of c.args.operation.operator (left_kind c.args.operation) c.args.rs1 c.args.rs2 ≡ Some c.in-Some.test =
    sym (c.order.ensures ∙ ap (λ (k : Kind). test_of c.args.operation.operator k c.args.rs1 c.args.rs2) c.left_kind-kind.ensures) ∙ c.in-Some.is in
    subst (λ (o : Option Test). IfSome o
    (λ t. (code : List Instr) → IsFlag t c.args.rd code → IsBinary c.args.operation c.args.rd c.args.rs1 c.args.rs2 code)) is
    (flag_performed c.args.operation.operator c.args.operation.left c.args.operation.right c.args.rd c.args.rs1 c.args.rs2)
    (listed c.flag.result) c.flag.ensures

pub returns-in-Some-arithmetic-clause-code : goal.returns-in-Some-arithmetic-clause-code
returns-in-Some-arithmetic-clause-code c =
    let is : instruction_of c.args.operation.operator (left_kind c.args.operation) ≡ Some c.in-Some-arithmetic.code =
    sym (c.arithmetic.ensures ∙ ap (λ (k : Kind). instruction_of c.args.operation.operator k) c.left_kind-kind.ensures) ∙ c.in-Some-arithmetic.is in
    let operator = c.args.operation.operator in
    subst (λ (i : Instr). IsBinary c.args.operation c.args.rd c.args.rs1 c.args.rs2 (i ∷ [])) (sym c.op.ensures)
    (by_op c.args.operation c.args.rd c.args.rs1 c.args.rs2 c.in-Some-arithmetic.code c.requires
    (subst (λ (o : Option Operation). IfSome o (λ i. OperatorGives c.args.operation i)) is (given operator c.args.operation.left c.args.operation.right)))
