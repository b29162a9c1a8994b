use Rattle.std.proofs.Common.{◌≡◌, ◌++◌, ◌-◌, ◌^◌, ℕ, length, map, min}
use Rattle.log_schemes.specs.Schemes.{numbers_from}
use Rattle.c_tree.specs.Source.{State}
use Rattle.source_machine.specs.links.States.{RepresentsState, threads_in}
use Rattle.ido_cli.specs.Runs.{counted}
use Rattle.ido_cli.proofs.source.ended.Given as goal

abbrev pub invariant-loop-thread : goal.invariant-loop-thread
invariant-loop-thread l = record {
  end : l.thread-end ≡ threads_in l.state;
  so_far : (s : State) (ended : ℕ → ℕ) → RepresentsState l.state s ended →
      l.sections.items ++ map (λ t. min (ended t) (2 ^ 64 - 1)) (numbers_from l.thread (length s.threads - l.thread)) ≡ counted ended (length s.threads);
}
