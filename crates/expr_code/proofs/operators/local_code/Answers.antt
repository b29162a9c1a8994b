use Rattle.std.proofs.Common.{◌≡◌, ◌<◌, ◌^◌, ap, sym, subst, ◌∙◌, true}
use Rattle.std.proofs.lemmas.Bool.Decides.{nat_tests}
use Rattle.c_tree.specs.Exprs as e
use Rattle.memory_layout.specs.Roles.{is_local}
use Rattle.expr_code.specs.declared.home.Home.TheVariants.{InRegister, InFrame}
use Rattle.expr_code.specs.EvaluationCode.{is_home}
use Rattle.expr_code.proofs.Homes.{near_home}
use Rattle.expr_code.proofs.operators.local_code.Goals as goal

pub returns-in_ok-copied-in-InRegister-clause-code : goal.returns-in_ok-copied-in-InRegister-clause-code
returns-in_ok-copied-in-InRegister-clause-code c = λ h local kind held is home.
    c.in_ok-copied-in-InRegister.ensures.code h (e.Local local kind) held
    (c.standing.ensures.operand h local kind held (is ∙ c.in-InRegister.is) (sym (ap is_home c.in-InRegister.is) ∙ home))

pub returns-in_ok-framed_code-in-InFrame-clause-code : goal.returns-in_ok-framed_code-in-InFrame-clause-code
returns-in_ok-framed_code-in-InFrame-clause-code c = λ h local kind held is home.
    c.in_ok-framed_code-in-InFrame.ensures.code h local kind held (is ∙ c.in-InFrame.is)
    (near_home c.in-InFrame.address (sym (ap is_home c.in-InFrame.is) ∙ home))
