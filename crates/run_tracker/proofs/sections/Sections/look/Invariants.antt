use Rattle.std.proofs.Common.{◌≡◌, ℕ, ◌<◌, ◌≤◌, length}
use Rattle.ido_base.specs.Words.{word_at}
use Rattle.machine_model.specs.Machine.{World, durable_point}
use Rattle.ido_machine.specs.Machines.{RepresentsMachine}
use Rattle.run_tracker.specs.links.AccountRepresentation.{point_word}
use Rattle.run_tracker.specs.links.SectionRepresentation.{section_at, looked_at}
use Rattle.run_tracker.proofs.sections.Sections.look.Given as goal

abbrev pub invariant-loop-hart : goal.invariant-loop-hart
invariant-loop-hart l = record {
  size : length l.self.harts.items ≡ length l.initial.self.harts.items;
  done : (w : World) → RepresentsMachine l.machine w → (h : ℕ) → h < l.hart →
      section_at l.self h ≡ looked_at (word_at w.words (point_word w.log h)).durable (durable_point w.log w.words h) (section_at l.initial.self h);
  ahead : (h : ℕ) → l.hart ≤ h → section_at l.self h ≡ section_at l.initial.self h;
}
