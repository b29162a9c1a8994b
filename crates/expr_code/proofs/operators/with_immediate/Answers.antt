use Rattle.std.proofs.Common.{◌≡◌, ◌<◌, ◌++◌, ◌∷◌, [], sym, subst, List, rules}
use Rattle.rv64_isa.specs.declared.instr.Instr.{Instr}
use Rattle.c_tree.specs.Exprs as e
use Rattle.operator_code.specs.Constants.{instruction_in}
use Rattle.expr_code.specs.links.OperandCode.{IsEvaluation}
use Rattle.expr_code.proofs.OperationCode.{immediate_code}
use Rattle.expr_code.proofs.PureCode.{none_more, immediate_none}
use Rattle.expr_code.proofs.operators.with_immediate.Goals as goal

pub returns-clause-code : goal.returns-clause-code
returns-clause-code c =
    let small : c.args.rd < 32 = search rules in
    λ o h x y held kx ky f operand.
    let seen : c.push.new.self.items ≡ c.args.operand.code.items ++ instruction_in c.args.form c.args.rd c.args.operand.register ∷ [] =
    cc (c.in_ok-push.ensures.items, c.instruction.ensures) in
    subst (λ (code : List Instr). IsEvaluation h (e.Binary o.operator x y) held c.args.rd code) (sym seen)
    (immediate_code c.args.form c.args.rd c.args.operand.register c.args.operand.code.items c.requires small o h x y held kx ky f operand)

pub returns-clause-pure : goal.returns-clause-pure
returns-clause-pure c =
    let seen : c.push.new.self.items ≡ c.args.operand.code.items ++ instruction_in c.args.form c.args.rd c.args.operand.register ∷ [] =
    cc (c.in_ok-push.ensures.items, c.instruction.ensures) in
    none_more c.args.operand.code.items (instruction_in c.args.form c.args.rd c.args.operand.register ∷ []) _ seen
    (immediate_none c.args.form c.args.rd c.args.operand.register)
