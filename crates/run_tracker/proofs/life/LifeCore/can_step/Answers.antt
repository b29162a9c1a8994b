use Rattle.std.proofs.Common.{length, sym, ap, ◌∙◌}
use Rattle.machine_events.specs.Cores.{least_enabled}
use Rattle.run_tracker.specs.ObjectLives.{LifeConfig, living, opening_of}
use Rattle.run_tracker.proofs.Events.{played_is}
use Rattle.run_tracker.proofs.life.LifeCore.can_step.Goals as goal

pub returns : goal.returns
returns c =
    c.can_step.ensures ∙ ap (λ (m : LifeConfig). least_enabled living m (length c.args.self.now.runs.program))
    (sym (played_is (opening_of c.args.self.now) c.args.self.now.journal))
