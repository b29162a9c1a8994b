use Rattle.std.proofs.Common.{sym, ◌∙◌}
use Rattle.hart_core.proofs.Accesses.{draining_step}
use Rattle.hart_core.proofs.access.fence.Goals as goal

pub returns-clause-step : goal.returns-clause-step
returns-clause-step c =
    λ number phase locks. draining_step number phase c.args.hart.now c.args.memory.now c.drain.new.self c.drain.new.queue locks
    (sym c.is_empty.ensures ∙ c.if-is_empty.false) c.drain.ensures.stands c.drain.ensures.logs
