use Rattle.std.proofs.Common.{◌<◌, sym, subst, List, rules}
use Rattle.rv64_isa.specs.declared.instr.Instr.{Instr}
use Rattle.operator_code.specs.Sequences.{listed}
use Rattle.c_tree.specs.Exprs as e
use Rattle.expr_code.specs.links.OperandCode.{IsEvaluation}
use Rattle.expr_code.proofs.OperationCode.{conversion_code}
use Rattle.expr_code.proofs.PureCode.{none_more, conversion_none}
use Rattle.expr_code.proofs.operators.with_conversion.Goals as goal

pub returns-clause-code : goal.returns-clause-code
returns-clause-code c =
    let small : c.args.rd < 32 = search rules in
    λ h x held kind operand.
    subst (λ (code : List Instr). IsEvaluation h (e.Converted c.args.to x) held c.args.rd code) (sym c.in_ok-push_to.ensures.code)
    (conversion_code c.args.from c.args.to c.args.rd c.args.operand.register c.args.operand.code.items
    (listed c.convert.result) c.requires small c.convert.ensures h x held kind operand)

pub returns-clause-pure : goal.returns-clause-pure
returns-clause-pure c =
    none_more c.args.operand.code.items (listed c.convert.result) _ c.in_ok-push_to.ensures.code
    (conversion_none c.args.from c.args.to c.args.rd c.args.operand.register (listed c.convert.result) c.convert.ensures)
