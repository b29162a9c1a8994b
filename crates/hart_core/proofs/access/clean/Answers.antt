use Rattle.std.proofs.Common.{sym, ◌∙◌}
use Rattle.hart_core.proofs.Accesses.{clean_refused, full_step, clean_step}
use Rattle.hart_core.proofs.access.clean.Goals as goal

pub returns-in-Some-clause-step : goal.returns-in-Some-clause-step
returns-in-Some-clause-step c =
    λ number phase locks. clean_refused number c.args.address c.in-Some.cause
    (record { phase = phase; hart = c.args.hart.now; memory = c.args.memory.now; locks = locks }) (sym c.refused.ensures.cause ∙ c.in-Some.is)

pub returns-then-full-clause-step : goal.returns-then-full-clause-step
returns-then-full-clause-step c =
    λ number phase locks. full_step number c.args.address phase c.args.hart.now c.args.memory.now c.drain.new.self c.drain.new.queue locks
    (sym c.refused.ensures.cause ∙ c.in_default.is) (sym c.full.ensures.full ∙ c.if-full.true) c.drain.ensures.stands c.drain.ensures.logs

pub returns-clause-step : goal.returns-clause-step
returns-clause-step c =
    λ number phase locks. rw c.go_on.ensures
    (clean_step number c.args.address c.line_of.result phase c.args.hart.now c.args.memory.now c.clean.new.queue locks
    (sym c.refused.ensures.cause ∙ c.in_default.is) c.full.ensures.within (sym c.full.ensures.full ∙ c.if-full.false) c.line_of.ensures.line
    c.clean.ensures.stands)
