use Rattle.std.proofs.Common.{◌≡◌, length}
use Rattle.source_machine.proofs.StartStates.{AreStarted}
use Rattle.source_machine.proofs.state.SourceState.start.Given as goal

abbrev pub invariant-loop-thread : goal.invariant-loop-thread
invariant-loop-thread l = record {
  count : length l.threads.items ≡ l.thread-index;
  started : AreStarted l.threads.items l.flat.threads.items;
}
