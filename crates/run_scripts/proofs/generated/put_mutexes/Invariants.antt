use Rattle.std.proofs.Common.{◌≡◌, ◌++◌, drop, flat_map}
use Rattle.run_scripts.specs.GeneratedSources.{four, mutex_item}
use Rattle.run_scripts.proofs.generated.put_mutexes.Given as goal

abbrev pub invariant-loop-mutex : goal.invariant-loop-mutex
invariant-loop-mutex l = l.text.items ++ flat_map mutex_item (drop l.mutex four) ≡ l.initial.text.items ++ flat_map mutex_item four
