use Rattle.std.proofs.Common.{◌≡◌, ℕ, Some, length, ap, sym, subst, ◌∙◌, arith, length-append, [], ◌∷◌}
use Rattle.std.specs.Prelude.{slice_get}
use Rattle.machine_model.specs.Schedule.{schedules}
use Rattle.run_tracker.specs.ObjectLives.{Course, steps_in}
use Rattle.run_tracker.specs.links.LifeRepresentation.{course_of}
use Rattle.run_tracker.proofs.LivesEnd.{last_there, lives_counted, same_some}
use Rattle.run_tracker.proofs.life.Life.kept.Goals as goal

pub schedule-requires : goal.schedule-requires
schedule-requires c =
    omega (
      arith,
      c.len.ensures,
      lives_counted (steps_in (course_of c.self.inside)) c.self.inside.ends.items c.self.invariant.ends,
      ap (λ (x : Course). length (schedules (steps_in x))) c.self.view_is,
    )

pub returns : goal.returns
returns c =
    let s = steps_in c.args.self.now in
    let number : c.len.result ≡ length s.earlier =
    omega (
      arith,
      c.len.ensures,
      lives_counted (steps_in (course_of c.self.inside)) c.self.inside.ends.items c.self.invariant.ends,
      ap (λ (x : Course). length (schedules (steps_in x))) c.self.view_is,
      length-append s.earlier (s.kept ∷ []),
    ) in
    let found = subst (λ (k : ℕ). slice_get (schedules s) k ≡ Some c.schedule.result.now) number c.schedule.ensures in
    same_some c.schedule.result.now s.kept (sym found ∙ last_there s.earlier s.kept)
