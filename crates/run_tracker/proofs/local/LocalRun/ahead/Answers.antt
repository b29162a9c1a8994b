use Rattle.std.proofs.Common.{◌≡◌, ◌+◌, true, false, Option, Some, IfSome, refl, sym, ap, subst, ◌∙◌, arith}
use Rattle.hart_core.specs.LocalSteps.{local_step}
use Rattle.machine_model.specs.Schedule.{is_running}
use Rattle.ido_machine.specs.declared.signs.Sign.{Sign}
use Rattle.ido_machine.specs.links.SignTables.{placed_in, sign_at}
use Rattle.run_tracker.proofs.LocalInvariants.{goes_on}
use Rattle.run_tracker.proofs.local.LocalRun.ahead.Goals as goal
use Rattle.run_tracker.proofs.local.LocalRun.ahead.Goals.{then-sign, else-sign}

if_found : {X : Type 0} (found : Option X) (P : X → Type 0) (x : X) → IfSome found P → found ≡ Some x → P x
if_found found P x holds is = subst (λ (f : Option _). IfSome f P) is holds

pub invariant_of-self-in-Some : goal.invariant_of-self-in-Some
invariant_of-self-in-Some c =
    let run = c.self.inside in
    let state = c.step.new.state in
    let went : (c.in-Some.sign ≡ sign_at run.table run.state.pc) × (local_step (placed_in run.table) run.state ≡ Some state) =
    if_found c.step.result _ c.in-Some.sign c.step.ensures.some c.in-Some.is in
    let running : is_running run.phase ≡ true = sym c.is_running.ensures ∙ c.if-not-is_running.false in
    let mark = ap (λ (x : Sign). x.mark) went.0 in
    elim c.if-sign.branch [
      | then-sign w ↦ rw w.self-inside-is
          (goes_on run state true (run.passed + 1) c.self.invariant went.1 (sym w.if-sign.true ∙ mark) refl running)
      | else-sign w ↦
          let none : run.passed ≡ run.passed + 0 = omega arith in
          rw w.self-inside-is (goes_on run state false run.passed c.self.invariant went.1 (sym w.if-sign.false ∙ mark) none running)
    ]
