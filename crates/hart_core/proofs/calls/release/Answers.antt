use Rattle.std.proofs.Common.{sym, ◌∙◌, arith}
use Rattle.hart_core.proofs.LockSteps.{release_no_lock, release_not_held, release_gives, other_holder, own_holder}
use Rattle.hart_core.proofs.calls.release.Goals as goal

pub returns-then-lock-from-clause-step : goal.returns-then-lock-from-clause-step
returns-then-lock-from-clause-step c =
    λ phase memory. release_no_lock c.args.number c.args.lock (record { phase = phase; hart = c.args.hart.now; memory = memory; locks = c.args.locks.now })
    (omega (arith, c.from.ensures, c.locks.ensures))

pub returns-then-ne-clause-step : goal.returns-then-ne-clause-step
returns-then-ne-clause-step c =
    λ phase memory. release_not_held c.args.number c.args.lock c.held_by.result
    (record { phase = phase; hart = c.args.hart.now; memory = memory; locks = c.args.locks.now }) c.held_by.ensures
    (other_holder c.args.number c.held_by.result (sym c.ne.ensures ∙ c.if-ne.true))

pub returns-clause-step : goal.returns-clause-step
returns-clause-step c =
    λ phase memory. rw c.go_on.ensures
    (release_gives c.args.number c.args.lock c.held_by.result phase c.args.hart.now memory c.args.locks.now c.give.new.self c.held_by.ensures
    (own_holder c.args.number c.held_by.result (sym c.ne.ensures ∙ c.if-ne.false)) c.give.ensures)
