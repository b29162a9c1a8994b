use Rattle.std.proofs.Common.{◌≡◌, ◌<◌, ℕ, true, Some}
use Rattle.std.specs.Prelude.{slice_get}
use Rattle.machine_model.specs.Machine.{Hart, World, has_stopped}
use Rattle.ido_machine.specs.Machines.{RepresentsMachine}
use Rattle.run_tracker.proofs.life.have_stopped.Given as goal

abbrev pub invariant-loop-hart : goal.invariant-loop-hart
invariant-loop-hart l = (w : World) → RepresentsMachine l.machine w → (h : ℕ) (hart : Hart) → h < l.hart → slice_get w.harts h ≡ Some hart →
    has_stopped hart.phase ≡ true
