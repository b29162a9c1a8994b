use Rattle.std.proofs.Common.{◌≡◌, ℕ, take}
use Rattle.c_tree.specs.Source.{State}
use Rattle.source_machine.specs.links.States.{KeepsRun, RepresentsState, threads_in}
use Rattle.source_machine.proofs.StateRuns.{Going}
use Rattle.source_machine.proofs.state.SourceState.run.Given as goal

abbrev pub invariant-loop-i : goal.invariant-loop-i
invariant-loop-i l = record {
  going : (s : State) (ended : ℕ → ℕ) → RepresentsState l.fn.self s ended → Going l.self s ended (take l.i l.schedule);
  run : KeepsRun l.fn.self l.self;
  threads : threads_in l.self ≡ threads_in l.fn.self;
}
