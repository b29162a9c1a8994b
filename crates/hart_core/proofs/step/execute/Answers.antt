use Rattle.std.proofs.Common.{Some, sym, ap, ◌∙◌}
use Rattle.hart_core.specs.Effects.{effect_in}
use Rattle.hart_core.proofs.LockSteps.{no_code_step, illegal_step, row_step}
use Rattle.hart_core.proofs.step.execute.Goals as goal

pub returns-in-None-clause-step : goal.returns-in-None-clause-step
returns-in-None-clause-step c = λ program is.
    no_code_step program c.args.number
    (record { phase = c.args.phase.now; hart = c.args.hart.now; memory = c.args.memory.now; locks = c.args.locks.now }) (sym c.in-None.is ∙ is)

pub returns-in-Some-NoRow-clause-step : goal.returns-in-Some-NoRow-clause-step
returns-in-Some-NoRow-clause-step c = λ program is.
    illegal_step program c.args.number c.in-Some-NoRow.word
    (record { phase = c.args.phase.now; hart = c.args.hart.now; memory = c.args.memory.now; locks = c.args.locks.now })
    (ap Some (sym c.in-Some-NoRow.field-0-is) ∙ sym c.in-Some-NoRow.is ∙ is)

pub returns-in-Some-Row-clause-step : goal.returns-in-Some-Row-clause-step
returns-in-Some-Row-clause-step c = λ program is.
    row_step program c.args.number c.in-Some-Row.instr (effect_in c.effect-effect.result c.args.hart.now.registers)
    (record { phase = c.args.phase.now; hart = c.args.hart.now; memory = c.args.memory.now; locks = c.args.locks.now })
    (record { phase = c.apply.new.phase; hart = c.apply.new.hart; memory = c.apply.new.memory; locks = c.apply.new.locks }) c.apply.result
    (ap Some (sym c.in-Some-Row.field-0-is) ∙ sym c.in-Some-Row.is ∙ is) c.effect-effect.ensures c.apply.ensures.step
