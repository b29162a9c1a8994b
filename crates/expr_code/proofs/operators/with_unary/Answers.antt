use Rattle.std.proofs.Common.{◌<◌, sym, subst, List, rules}
use Rattle.rv64_isa.specs.declared.instr.Instr.{Instr}
use Rattle.operator_code.specs.Sequences.{listed}
use Rattle.c_tree.specs.Exprs as e
use Rattle.expr_code.specs.links.OperandCode.{IsEvaluation}
use Rattle.expr_code.proofs.OperationCode.{unary_code}
use Rattle.expr_code.proofs.PureCode.{none_more, unary_none}
use Rattle.expr_code.proofs.operators.with_unary.Goals as goal

pub returns-clause-code : goal.returns-clause-code
returns-clause-code c =
    let small : c.args.rd < 32 = search rules in
    λ h x held kind operand.
    subst (λ (code : List Instr). IsEvaluation h (e.Unary c.args.operator x) held c.args.rd code) (sym c.in_ok-push_to.ensures.code)
    (unary_code c.args.operator c.args.kind c.args.rd c.args.operand.register c.args.operand.code.items
    (listed c.unary.result) c.requires small c.unary.ensures h x held kind operand)

pub returns-clause-pure : goal.returns-clause-pure
returns-clause-pure c =
    none_more c.args.operand.code.items (listed c.unary.result) _ c.in_ok-push_to.ensures.code
    (unary_none c.args.operator c.args.kind c.args.rd c.args.operand.register (listed c.unary.result) c.unary.ensures)
