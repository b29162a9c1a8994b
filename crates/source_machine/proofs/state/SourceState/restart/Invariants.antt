use Rattle.std.proofs.Common.{◌≡◌, None, length, replicate}
use Rattle.source_machine.proofs.RestartedStates.{KeepCode, Restarted}
use Rattle.source_machine.proofs.state.SourceState.restart.Given as goal

abbrev pub invariant-loop-thread : goal.invariant-loop-thread
invariant-loop-thread l = record {
  variables : l.self.variables ≡ l.fn.self.variables;
  holders : l.self.holders.items ≡ replicate (length l.fn.self.holders.items) None;
  sections : l.self.sections.items ≡ l.fn.self.sections.items;
  code : KeepCode l.fn.self.threads.items l.self.threads.items;
  done : Restarted l.self.threads.items l.thread;
}
