use Rattle.std.proofs.Common.{◌<◌, sym, subst, List, rules}
use Rattle.rv64_isa.specs.declared.instr.Instr.{Instr}
use Rattle.operator_code.specs.Sequences.{listed}
use Rattle.c_tree.specs.Exprs as e
use Rattle.expr_code.specs.links.OperandCode.{IsEvaluation}
use Rattle.expr_code.proofs.OperationCode.{binary_code}
use Rattle.expr_code.proofs.PureCode.{none_more, binary_none}
use Rattle.expr_code.proofs.operators.with_binary.Goals as goal

pub returns-clause-code : goal.returns-clause-code
returns-clause-code c =
    let small : c.args.rd < 32 = search rules in
    λ h x y held kx ky both.
    subst (λ (code : List Instr). IsEvaluation h (e.Binary c.args.operation.operator x y) held c.args.rd code) (sym c.in_ok-push_to.ensures.code)
    (binary_code c.args.operation c.args.rd c.args.pair (listed c.unwrap-last.result) c.requires.some small
    (rw c.unwrap-last.ensures at c.binary.ensures.code) h x y held kx ky both)

pub returns-clause-pure : goal.returns-clause-pure
returns-clause-pure c =
    none_more c.args.pair.code.items (listed c.unwrap-last.result) _ c.in_ok-push_to.ensures.code
    (binary_none c.args.operation c.args.rd c.args.pair.left c.args.pair.right (listed c.unwrap-last.result)
    (rw c.unwrap-last.ensures at c.binary.ensures.code))
