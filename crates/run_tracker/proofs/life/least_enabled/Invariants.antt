use Rattle.std.proofs.Common.{◌≡◌, None}
use Rattle.machine_events.specs.Cores.{least_enabled}
use Rattle.ido_machine.specs.Machines.{RepresentsMachine, program_in}
use Rattle.run_tracker.specs.ObjectLives.{LifeConfig, living}
use Rattle.run_tracker.proofs.life.least_enabled.Given as goal

abbrev pub invariant-loop-hart : goal.invariant-loop-hart
invariant-loop-hart l = (m : LifeConfig) → m.runs.program ≡ program_in l.machine → RepresentsMachine l.machine m.world → least_enabled living m l.hart ≡ None
