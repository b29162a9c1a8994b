use Rattle.std.proofs.Common.{◌≡◌, ◌≤◌, length}
use Rattle.ido_machine.specs.Machines.{program_in, events_of}
use Rattle.benchmarks.proofs.machine.last_number.Given as goal

abbrev pub invariant-loop : goal.invariant-loop
invariant-loop l = (events_of l.machine ≤ l.counter) × (length (program_in l.machine) ≡ 1)
