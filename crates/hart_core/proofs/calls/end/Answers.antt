use Rattle.std.proofs.Common.{sym, ◌∙◌}
use Rattle.hart_core.proofs.LockSteps.{end_step, end_holding}
use Rattle.hart_core.proofs.calls.end.Goals as goal

pub returns-in-Some-clause-step : goal.returns-in-Some-clause-step
returns-in-Some-clause-step c =
    λ memory. rw c.from.ensures
    (end_holding c.args.number c.in-Some.lock (record { phase = c.args.phase.now; hart = c.args.hart.now; memory = memory; locks = c.args.locks.now })
    (sym c.least_held.ensures.value ∙ c.in-Some.is))

pub returns-clause-step : goal.returns-clause-step
returns-clause-step c =
    λ memory. rw c.go_on.ensures
    (end_step c.args.number c.args.phase.now c.args.hart.now memory c.args.locks.now (sym c.least_held.ensures.value ∙ c.in_default.is))
