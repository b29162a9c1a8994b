use Rattle.std.proofs.Common.{◌≡◌, slice_get, Some, None, true, rules, ap, sym, ◌∙◌}
use Rattle.resume_recovery.proofs.RecoveryStepCases.{take_ends, take_waits, take_takes}
use Rattle.resume_recovery.proofs.step.take.Goals as goal

pub returns-in_default-clause-step : goal.returns-in_default-clause-step
returns-in_default-clause-step c =
    λ it. take_ends c.args.hart c.missing_lock.result it c.args.memory.now c.args.locks.now c.missing_lock.ensures.value c.in_default.is

pub returns-in-Some-held_by-clause-step : goal.returns-in-Some-held_by-clause-step
returns-in-Some-held_by-clause-step c =
    λ it. take_waits c.args.hart c.missing_lock.result it c.args.memory.now c.args.locks.now c.missing_lock.ensures.value c.in-Some.lock
    c.in-Some-held_by.holder
    c.in-Some.is (c.held_by.ensures ∙ ap Some c.in-Some-held_by.is)

pub returns-clause-step : goal.returns-clause-step
returns-clause-step c = λ it.
    let free : slice_get c.args.locks.now c.in-Some.lock ≡ Some None = c.held_by.ensures ∙ ap Some c.in_default-held_by.is in
    let given : c.try_take.result ≡ true = search rules in
    take_takes c.args.hart c.missing_lock.result it c.args.memory.now c.args.locks.now c.missing_lock.ensures.value c.in-Some.lock c.try_take.new.self
    c.in-Some.is free (search rules)
