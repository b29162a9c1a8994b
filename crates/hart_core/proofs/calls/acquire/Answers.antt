use Rattle.std.proofs.Common.{Some, ap, ◌∙◌, arith}
use Rattle.std.proofs.lemmas.Bool.{OnTrue_at}
use Rattle.hart_core.proofs.LockSteps.{acquire_no_lock, acquire_waits, acquire_takes}
use Rattle.hart_core.proofs.calls.acquire.Goals as goal

pub returns-then-lock-from-clause-step : goal.returns-then-lock-from-clause-step
returns-then-lock-from-clause-step c =
    λ phase memory. acquire_no_lock c.args.number c.args.lock (record { phase = phase; hart = c.args.hart.now; memory = memory; locks = c.args.locks.now })
    (omega (arith, c.from.ensures, c.locks.ensures))

pub returns-in-Some-clause-step : goal.returns-in-Some-clause-step
returns-in-Some-clause-step c =
    λ phase memory. acquire_waits c.args.number c.args.lock c.in-Some.holder
    (record { phase = phase; hart = c.args.hart.now; memory = memory; locks = c.args.locks.now }) (c.held_by.ensures ∙ ap Some c.in-Some.is)

pub returns-clause-step : goal.returns-clause-step
returns-clause-step c =
    λ phase memory. rw c.go_on.ensures
    (acquire_takes c.args.number c.args.lock phase c.args.hart.now memory c.args.locks.now c.try_take.new.self (c.held_by.ensures ∙ ap Some c.in_default.is)
    (OnTrue_at (c.try_take.ensures.free.1 (c.held_by.ensures ∙ ap Some c.in_default.is)) c.try_take.ensures.taken))
