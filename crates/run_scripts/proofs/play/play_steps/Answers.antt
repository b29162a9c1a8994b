use Rattle.std.proofs.Common.{◌≡◌, ◌-◌, ◌++◌, min, ◌∙◌, ap, arith}
use Rattle.machine_events.specs.declared.event.Event.TheVariants.{Step}
use Rattle.run_scripts.proofs.EventsWithinRoom.{take-replicate}
use Rattle.run_scripts.proofs.play.play_steps.Goals as goal

pub returns-clause-history : goal.returns-clause-history
returns-clause-history g c =
    let left = g.C.Core.space c.args.core.now - c.args.floor in
    let made : c.min.result ≡ min c.args.count left = omega (arith, c.min.ensures, c.room.ensures) in
    c.steps.ensures.history ∙ ap (λ es. g.C.Core.history c.args.core.now ++ es) (take-replicate (Step c.args.hart) left c.args.count c.min.result made)
