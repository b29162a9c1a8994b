use Rattle.std.proofs.Common.{◌<◌, sym, subst, List, rules}
use Rattle.rv64_isa.specs.declared.instr.Instr.{Instr}
use Rattle.operator_code.specs.Sequences.{listed}
use Rattle.expr_code.specs.links.OperandCode.{IsEvaluation}
use Rattle.expr_code.proofs.OperationCode.{copy_code}
use Rattle.expr_code.proofs.PureCode.{none_more, copy_none}
use Rattle.expr_code.proofs.operators.copied.Goals as goal

pub returns-clause-code : goal.returns-clause-code
returns-clause-code c =
    let small : c.args.rd < 32 = search rules in
    λ h x held operand.
    subst (λ (code : List Instr). IsEvaluation h x held c.args.rd code) (sym c.in_ok-push_to.ensures.code)
    (copy_code c.args.rd c.args.operand.register c.args.operand.code.items (listed c.copy.result) c.requires small c.copy.ensures h x held operand)

pub returns-clause-pure : goal.returns-clause-pure
returns-clause-pure c =
    none_more c.args.operand.code.items (listed c.copy.result) _ c.in_ok-push_to.ensures.code
    (copy_none c.args.rd c.args.operand.register (listed c.copy.result) c.copy.ensures)
