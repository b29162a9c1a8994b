use Rattle.std.proofs.Common.{◌≡◌, ℕ, Some, sym, subst, ap, ◌∙◌, arith, inl, inr}
use Rattle.std.specs.Prelude.{slice_get}
use Rattle.std.proofs.lemmas.Bool.{cases_lt}
use Rattle.std.proofs.lemmas.Option.{slice_get_within}
use Rattle.machine_model.specs.Machine.{has_stopped}
use Rattle.ido_machine.proofs.Public.{get_some}
use Rattle.run_tracker.proofs.StoppedHarts.{all_stopped, one_goes_on}
use Rattle.run_tracker.proofs.life.have_stopped.Goals as goal

pub loop-hart-preserved : goal.loop-hart-preserved
loop-hart-preserved c = λ w stands h hart below there. elim (cases_lt h c.loop-hart.hart) [
  | inl before ↦ c.loop-hart.invariant w stands h hart before there
  | inr last ↦
      let same : h ≡ c.loop-hart.hart = omega (arith, below, last) in
      let here = subst (λ (k : ℕ). slice_get w.harts k ≡ Some hart) same there in
      ap has_stopped (sym (c.phase.ensures w hart stands here)) ∙ (sym c.has_stopped.ensures ∙ c.if-not-has_stopped.false)
]

pub returns-then-not-has_stopped : goal.returns-then-not-has_stopped
returns-then-not-has_stopped c = λ w stands.
    let machine = c.args.machine.now in
    let one = get_some w.harts c.loop-hart.hart
    (omega (arith, stands.standing.count, machine.sized, machine.harts.ok.0, c.harts-hart-end.ensures, c.loop-hart-test.true)) in
    sym (one_goes_on w.harts c.loop-hart.hart one.0 one.1
    (ap has_stopped (sym (c.phase.ensures w one.0 stands one.1)) ∙ (sym c.has_stopped.ensures ∙ c.if-not-has_stopped.true)))

pub returns : goal.returns
returns c = λ w stands.
    let machine = c.args.machine.now in
    sym (all_stopped w.harts (λ h hart there.
    c.loop-hart.invariant w stands h hart (omega (
      arith,
      slice_get_within w.harts h hart there,
      stands.standing.count,
      machine.sized,
      machine.harts.ok.0,
      c.harts-hart-end.ensures,
      c.loop-hart-test.false,
    )) there))
