use Rattle.std.proofs.Common.{◌≡◌, ◌++◌, drop, flat_map}
use Rattle.run_scripts.specs.GeneratedSources.{four, thread_item}
use Rattle.run_scripts.proofs.generated.put_threads.Given as goal

abbrev pub invariant-loop-thread : goal.invariant-loop-thread
invariant-loop-thread l =
    l.text.items ++ flat_map (thread_item l.rounds l.seed) (drop l.thread four) ≡ l.initial.text.items ++ flat_map (thread_item l.rounds l.seed) four
