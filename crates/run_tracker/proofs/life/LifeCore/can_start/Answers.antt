use Rattle.std.proofs.Common.{sym, ap, ◌∙◌}
use Rattle.machine_model.specs.Machine.{can_start}
use Rattle.run_tracker.specs.ObjectLives.{LifeConfig, opening_of}
use Rattle.run_tracker.proofs.Events.{played_is}
use Rattle.run_tracker.proofs.life.LifeCore.can_start.Goals as goal

pub returns : goal.returns
returns c = c.can_start.ensures ∙ ap (λ (m : LifeConfig). can_start m.world) (sym (played_is (opening_of c.args.self.now) c.args.self.now.journal))
