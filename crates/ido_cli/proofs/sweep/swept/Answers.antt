use Rattle.std.proofs.Common.{◌≡◌, ℕ, ◌+◌, List, sym, subst}
use Rattle.std.proofs.lemmas.Result.{IfOk-weaker}
use Rattle.hart_driver.specs.declared.sweep.Outcome.{Outcome}
use Rattle.hart_driver.specs.Outcomes.{AreOutcomes}
use Rattle.ido_cli.specs.Sweeps.{IsTable, are_settled, reports_of, status_of}
use Rattle.ido_cli.specs.links.CrashPoints.{IsOutcomeAt}
use Rattle.ido_cli.proofs.sweep.swept.Goals as goal

pub returns : goal.returns
returns g c =
    let outcomes = c.in_ok-outcomes.outcomes.items in
    let same = c.deref.ensures.value in
    IfOk-weaker c.say_outcomes.result _ _
    (λ said told. record {
      outcomes = outcomes;
      all = subst (λ (n : ℕ). AreOutcomes (IsOutcomeAt c.args.points.now) 0 (n + 1) outcomes) (sym c.requires.all) c.in_ok-outcomes.ensures;
      status_is = subst (λ (os : List Outcome). said.status ≡ status_of (are_settled os)) same told.0;
      output_is = subst (λ (os : List Outcome). IsTable 0 (reports_of os) said.output.items) same told.1;
    }) c.say_outcomes.ensures
