use Rattle.std.proofs.Common.{◌≡◌, ◌+◌, ℕ, List, length, map, take}
use Rattle.std.specs.Prelude.{sum_by}
use Rattle.c_tree.specs.Flats as f
use Rattle.c_tree.specs.Source as m
use Rattle.source_machine.specs.links.LifeRuns.{HasLived, schedule_of}
use Rattle.source_machine.specs.links.States.{IsRunOf, KeepsRun, threads_in}
use Rattle.source_machine.proofs.LifeRuns.{HasGone}
use Rattle.source_machine.proofs.state.SourceState.run_others.Given as goal

abbrev pub invariant-loop-i : goal.invariant-loop-i
invariant-loop-i l = record {
  gone : (x : f.Flat) (s : m.State) (ended : ℕ → ℕ) (before : List (List ℕ)) (life : List ℕ) → IsRunOf l.fn.self x → HasLived x l.fn.self s ended before life →
      HasGone x l.self s ended before life (map schedule_of (take l.i l.others));
  steps : l.steps ≡ l.done + sum_by length (map schedule_of (take l.i l.others));
  end : l.i-end ≡ length l.others;
  run : KeepsRun l.fn.self l.self;
  threads : threads_in l.self ≡ threads_in l.fn.self;
}
