use Rattle.std.proofs.Common.{◌≡◌, ◌++◌, replicate}
use Rattle.run_scripts.proofs.runs.push_steps.Given as goal

abbrev pub invariant-loop : goal.invariant-loop
invariant-loop l = l.steps.items ≡ l.initial.steps.items ++ replicate l.counter l.thread
