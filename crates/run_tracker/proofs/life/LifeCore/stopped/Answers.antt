use Rattle.std.proofs.Common.{sym, ap, ◌∙◌}
use Rattle.run_tracker.specs.ObjectLives.{LifeConfig, is_stopped, opening_of}
use Rattle.run_tracker.proofs.Events.{played_is}
use Rattle.run_tracker.proofs.life.LifeCore.stopped.Goals as goal

pub returns : goal.returns
returns c = c.stopped.ensures ∙ ap (λ (m : LifeConfig). is_stopped m.world c.args.hart) (sym (played_is (opening_of c.args.self.now) c.args.self.now.journal))
