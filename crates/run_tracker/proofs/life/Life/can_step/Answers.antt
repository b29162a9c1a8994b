use Rattle.std.proofs.Common.{◌≡◌, length, refl, subst}
use Rattle.machine_events.specs.Cores.{least_enabled}
use Rattle.run_tracker.specs.ObjectLives.{Course, living, opening_of, world_of}
use Rattle.run_tracker.specs.links.LifeRepresentation.{course_of}
use Rattle.run_tracker.proofs.life.Life.can_step.Goals as goal

pub returns : goal.returns
returns c =
    let now : Course = course_of c.self.inside in
    subst (λ (x : Course). c.least_enabled.result ≡ least_enabled living (record (opening_of x) { world = world_of x }) (length x.runs.program)) c.self.view_is
    (c.least_enabled.ensures (record (opening_of now) { world = world_of now }) refl c.self.invariant.machine)
