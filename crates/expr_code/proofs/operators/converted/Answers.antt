use Rattle.std.proofs.Common.{sym, subst, ℕ}
use Rattle.c_tree.specs.Exprs as e
use Rattle.expr_code.specs.links.OperandCode.{IsEvaluation, IsOperand}
use Rattle.expr_code.proofs.OperationCode.{kept_code, own_operand}
use Rattle.expr_code.proofs.operators.converted.Goals as goal

pub returns-then-keeps_form-clause-operand : goal.returns-then-keeps_form-clause-operand
returns-then-keeps_form-clause-operand c = λ h x kind operand.
    kept_code c.args.from c.args.to c.args.operand.register c.args.operand.code.items (c.keeps_form.ensures.0 c.if-keeps_form.true) h x c.args.held kind operand

pub returns-clause-operand : goal.returns-clause-operand
returns-clause-operand c = λ h x kind operand.
    subst (λ (t : ℕ). IsOperand h (e.Converted c.args.to x) c.args.held t c.in_ok-code.code.items) (sym c.temporary-register.ensures.value)
    (own_operand h (e.Converted c.args.to x) c.args.held c.in_ok-code.code.items c.requires
    (subst (λ (t : ℕ). IsEvaluation h (e.Converted c.args.to x) c.args.held t c.in_ok-code.code.items) c.temporary-register.ensures.value
    (c.in_ok-code.ensures.code h x c.args.held kind operand)))
