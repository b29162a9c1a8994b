use Rattle.std.proofs.Common.{Bool, length, sym, ap, subst, ◌∙◌}
use Rattle.machine_events.specs.Cores.{IsValidNow}
use Rattle.machine_model.specs.Machine.{IsEviction, can_start, reply_to}
use Rattle.run_tracker.specs.ObjectLives.{LifeConfig, opening_of}
use Rattle.run_tracker.proofs.Events.{played_is}
use Rattle.run_tracker.proofs.life.LifeCore.event.Goals as goal

pub event-requires-clause-valid : goal.event-requires-clause-valid
event-requires-clause-valid c =
    let life = c.args.self.now in
    subst (λ (may : Bool). IsValidNow (length life.runs.program) (IsEviction life.runs.log (length life.runs.program)) may c.args.event)
    (ap (λ (m : LifeConfig). can_start m.world) (played_is (opening_of life) life.journal)) c.requires.valid

pub returns-clause-reply : goal.returns-clause-reply
returns-clause-reply c =
    c.event.ensures.reply ∙ ap (λ (m : LifeConfig). reply_to m.runs.program m.world c.args.event)
    (sym (played_is (opening_of c.args.self.now) c.args.self.now.journal))
