use Rattle.std.proofs.Common.{◌≡◌, ◌++◌, replicate}
use Rattle.machine_events.specs.declared.event.Event.TheVariants.{Crash}
use Rattle.run_scripts.proofs.draw.push_crashes.Given as goal

abbrev pub invariant-loop : goal.invariant-loop
invariant-loop l = l.events.items ≡ l.initial.events.items ++ replicate l.counter Crash
