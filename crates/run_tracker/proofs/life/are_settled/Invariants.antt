use Rattle.std.proofs.Common.{◌≡◌, true}
use Rattle.machine_model.specs.Machine.{World}
use Rattle.machine_model.specs.Machine.{are_settled}
use Rattle.ido_machine.specs.Machines.{RepresentsMachine}
use Rattle.run_tracker.proofs.life.are_settled.Given as goal

abbrev pub invariant-loop-hart : goal.invariant-loop-hart
invariant-loop-hart l = (w : World) → RepresentsMachine l.machine w → are_settled w l.hart ≡ true
