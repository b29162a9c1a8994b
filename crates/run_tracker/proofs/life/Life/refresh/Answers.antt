use Rattle.std.proofs.Common.{◌<◌, length, sym, ap, subst, ◌∙◌, arith}
use Rattle.ido_machine.specs.Machines.{program_in}
use Rattle.ido_machine.proofs.Public.{get_some}
use Rattle.run_tracker.specs.ObjectLives.{Course, world_of}
use Rattle.run_tracker.specs.LocalRuns.{LocalCourse, StandsAtBeginning}
use Rattle.run_tracker.specs.links.LifeRepresentation.{course_of}
use Rattle.run_tracker.proofs.LifeChanges.{hart_count}
use Rattle.run_tracker.proofs.life.Life.refresh.Goals as goal

pub returns-clause-begins : goal.returns-clause-begins
returns-clause-begins c =
    let life = c.self.inside in
    let h = c.args.hart in
    let now : Course = course_of life in
    let exists : h < length (program_in life.machine) = subst (λ (x : Course). h < length x.runs.program) (sym c.self.view_is) c.requires.exists in
    let some = get_some (world_of now).harts h (omega (arith, exists, hart_count life c.self.invariant)) in
    let phase = c.phase.ensures (world_of now) some.0 c.self.invariant.machine some.1 in
    let state = c.local_state.ensures (world_of now) some.0 c.self.invariant.machine some.1 in
    subst (λ (x : Course). StandsAtBeginning x h c.begin.new.self) c.self.view_is (
      some.0,
      some.1,
      (ap (λ (r : LocalCourse). r.phase) c.begin.ensures ∙ phase, ap (λ (r : LocalCourse). r.first) c.begin.ensures ∙ state),
    )
