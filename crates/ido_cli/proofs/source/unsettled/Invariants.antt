use Rattle.std.proofs.Common.{◌≡◌, ◌++◌, ◌-◌, ℕ, filter, length, not}
use Rattle.log_schemes.specs.Schemes.{numbers_from}
use Rattle.c_tree.specs.Source.{State, is_between}
use Rattle.source_machine.specs.links.States.{RepresentsState, threads_in}
use Rattle.ido_cli.specs.Runs.{unsettled_threads}
use Rattle.ido_cli.proofs.source.unsettled.Given as goal

abbrev pub invariant-loop-thread : goal.invariant-loop-thread
invariant-loop-thread l = record {
  end : l.thread-end ≡ threads_in l.state;
  so_far : (s : State) (ended : ℕ → ℕ) → RepresentsState l.state s ended →
      l.threads.items ++ filter (λ t. not (is_between s t)) (numbers_from l.thread (length s.threads - l.thread)) ≡ unsettled_threads s;
}
