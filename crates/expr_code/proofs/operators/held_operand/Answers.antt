use Rattle.std.proofs.Common.{sym, subst, ℕ}
use Rattle.expr_code.specs.links.OperandCode.{IsOperand}
use Rattle.expr_code.proofs.OperationCode.{own_operand}
use Rattle.expr_code.proofs.operators.held_operand.Goals as goal

pub returns-clause-operand : goal.returns-clause-operand
returns-clause-operand c = λ h x g. subst (λ (t : ℕ). IsOperand h x c.args.held t c.args.code.items) (sym c.temporary.ensures.value)
    (own_operand h x c.args.held c.args.code.items c.requires g)
