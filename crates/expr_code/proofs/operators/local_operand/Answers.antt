use Rattle.std.proofs.Common.{◌≡◌, ◌<◌, ◌^◌, ap, sym, subst, ◌∙◌, true, ℕ, List}
use Rattle.rv64_isa.specs.declared.instr.Instr.{Instr}
use Rattle.c_tree.specs.Exprs as e
use Rattle.expr_code.specs.EvaluationCode.{is_home}
use Rattle.expr_code.specs.links.OperandCode.{IsEvaluation}
use Rattle.expr_code.proofs.Homes.{near_home}
use Rattle.expr_code.proofs.operators.local_operand.Goals as goal

pub returns-in_ok-code-in-InFrame-clause-operand : goal.returns-in_ok-code-in-InFrame-clause-operand
returns-in_ok-code-in-InFrame-clause-operand c = λ h local kind is home.
    let code : List Instr = c.in_ok-code-in-InFrame.code.items in
    c.held_operand.ensures.operand h (e.Local local kind)
    (subst (λ (rd : ℕ). IsEvaluation h (e.Local local kind) c.args.held rd code) c.temporary.ensures.value
    (c.in_ok-code-in-InFrame.ensures.code h local kind c.args.held (is ∙ c.in-InFrame.is)
    (near_home c.in-InFrame.address (sym (ap is_home c.in-InFrame.is) ∙ home))))
