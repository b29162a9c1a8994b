use Rattle.std.proofs.Common.{arith, refl}
use Rattle.hart_core.proofs.LockSteps.{call_step, no_call_step}
use Rattle.hart_core.proofs.calls.call.Goals as goal

pub returns-in-1-clause-step : goal.returns-in-1-clause-step
returns-in-1-clause-step c =
    λ memory. call_step c.args.number 1 (record { phase = c.args.phase.now; hart = c.args.hart.now; memory = memory; locks = c.args.locks.now })
    (record { phase = c.args.phase.now; hart = c.acquire.new.hart; memory = memory; locks = c.acquire.new.locks }) c.acquire.result c.in-1.is
    (c.acquire.ensures.step c.args.phase.now memory)

pub returns-in-2-clause-step : goal.returns-in-2-clause-step
returns-in-2-clause-step c =
    λ memory. call_step c.args.number 2 (record { phase = c.args.phase.now; hart = c.args.hart.now; memory = memory; locks = c.args.locks.now })
    (record { phase = c.args.phase.now; hart = c.release.new.hart; memory = memory; locks = c.release.new.locks }) c.release.result c.in-2.is
    (c.release.ensures.step c.args.phase.now memory)

pub returns-in-3-clause-step : goal.returns-in-3-clause-step
returns-in-3-clause-step c =
    λ memory. call_step c.args.number 3 (record { phase = c.args.phase.now; hart = c.args.hart.now; memory = memory; locks = c.args.locks.now })
    (record { phase = c.end.new.phase; hart = c.end.new.hart; memory = memory; locks = c.args.locks.now }) c.end.result c.in-3.is (c.end.ensures.step memory)

pub returns-in_default-clause-step : goal.returns-in_default-clause-step
returns-in_default-clause-step c =
    λ memory. no_call_step c.args.number _ (record { phase = c.args.phase.now; hart = c.args.hart.now; memory = memory; locks = c.args.locks.now }) refl
    (λ e. absurd (omega arith)) (λ e. absurd (omega arith)) (λ e. absurd (omega arith))
