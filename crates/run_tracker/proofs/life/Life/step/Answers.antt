use Rattle.std.proofs.Common.{List, ap, sym, ◌∙◌, arith}
use Rattle.std.proofs.lemmas.List.{append-nil}
use Rattle.machine_events.specs.declared.event.Event.{Event}
use Rattle.machine_events.specs.declared.event.Event.TheVariants.{Step}
use Rattle.machine_events.specs.Cores.{played}
use Rattle.machine_model.specs.Machine.{reply_to}
use Rattle.run_tracker.specs.ObjectLives.{LifeConfig, living, opening_of}
use Rattle.run_tracker.proofs.Events.{played_is}
use Rattle.run_tracker.proofs.life.Life.step.Goals as goal

pub returns-then-made-eq1-clause-reply : goal.returns-then-made-eq1-clause-reply
returns-then-made-eq1-clause-reply c =
    let life = c.args.self.now in
    let h = c.args.hart in
    let opening = opening_of life in
    let moves = c.run_locally-made.ensures.moves 0 (omega (arith, c.if-made-eq1.true)) in
    sym moves.0 ∙ ap (λ (es : List Event). living.reply (played living opening es) (Step h)) (append-nil life.journal)
    ∙ ap (λ (m : LifeConfig). reply_to m.runs.program m.world (Step h)) (played_is opening life.journal)
