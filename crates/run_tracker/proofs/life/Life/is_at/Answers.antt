use Rattle.std.proofs.Common.{◌≡◌, ◌<◌, ◌↔◌, length, slice_get, Some, sym, subst, ◌∙◌, arith}
use Rattle.std.specs.Prelude.{IsTrue}
use Rattle.machine_model.specs.Machine.{Hart}
use Rattle.ido_machine.specs.Machines.{program_in}
use Rattle.ido_machine.proofs.Public.{get_some}
use Rattle.run_tracker.specs.ObjectLives.{Course, world_of}
use Rattle.run_tracker.specs.LocalRuns.{IsAtBeginning}
use Rattle.run_tracker.specs.links.LifeRepresentation.{course_of}
use Rattle.run_tracker.proofs.Beginnings.{stands_there}
use Rattle.run_tracker.proofs.LifeChanges.{hart_count}
use Rattle.run_tracker.proofs.life.Life.is_at.Goals as goal

pub returns-then-is_phase : goal.returns-then-is_phase
returns-then-is_phase c =
    let life = c.self.inside in
    let h = c.args.hart in
    let local = c.args.local.now in
    let now : Course = course_of life in
    let exists : h < length (program_in life.machine) = subst (λ (x : Course). h < length x.runs.program) (sym c.self.view_is) c.requires in
    let some = get_some (world_of now).harts h (omega (arith, exists, hart_count life c.self.invariant)) in
    let it : Hart = some.0 in
    let phase = c.phase.ensures (world_of now) it c.self.invariant.machine some.1 in
    let same : local.phase ≡ it.phase = sym c.phase-2.ensures ∙ (c.is_phase.ensures.0 c.if-is_phase.true ∙ phase) in
    let at = c.is_at.ensures (world_of now) it c.self.invariant.machine some.1 in
    let begins : IsTrue c.is_at.result ↔ IsAtBeginning local it = (λ t. (same, sym c.first.ensures ∙ at.0 t), λ b. at.1 (c.first.ensures ∙ b.1)) in
    let found : slice_get (world_of c.args.self.now).harts h ≡ Some it =
    subst (λ (x : Course). slice_get (world_of x).harts h ≡ Some it) c.self.view_is some.1 in
    let stands = stands_there c.args.self.now h it local found in
    (λ t. stands.0 (begins.0 t), λ s. begins.1 (stands.1 s))
