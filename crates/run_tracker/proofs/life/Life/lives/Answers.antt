use Rattle.std.proofs.Common.{◌≡◌, ◌+◌, length, subst, arith}
use Rattle.machine_model.specs.Schedule.{schedules}
use Rattle.run_tracker.specs.ObjectLives.{Course, steps_in}
use Rattle.run_tracker.specs.links.LifeRepresentation.{course_of}
use Rattle.run_tracker.proofs.LivesEnd.{lives_counted}
use Rattle.run_tracker.proofs.life.Life.lives.Goals as goal

pub returns : goal.returns
returns c =
    subst (λ (x : Course). c.len.result + 1 ≡ length (schedules (steps_in x))) c.self.view_is
    (omega (arith, c.len.ensures, lives_counted (steps_in (course_of c.self.inside)) c.self.inside.ends.items c.self.invariant.ends))
