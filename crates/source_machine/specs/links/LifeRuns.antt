-- What a state in the code stands for between lives.
use Rattle.std.specs.Prelude.{Vec, ◌≡◌, ℕ, ◌+◌, List, true}
use Rattle.std.specs.Global.{Global}
use Rattle.c_tree.specs.Flats as f
use Rattle.c_tree.specs.Source as m
use Rattle.source_machine.specs.declared.state.SourceState.{SourceState}
use Rattle.source_machine.specs.Lives.{begun_after, end_lives, ended_lives}
use Rattle.source_machine.specs.links.States.{RepresentsState}

abbrev pub schedule_of : Vec ℕ Global → List ℕ
schedule_of steps = steps.items

-- the lives before this one have ended, and all of its steps are made
pub record HasLived (x : f.Flat) (now : SourceState) (s : m.State) (ended : ℕ → ℕ) (before : List (List ℕ)) (life : List ℕ) : Type 0 where
  pub ends : end_lives x s before ≡ true
  pub runs : m.runs_from (begun_after x s before) life ≡ true
  pub stands : RepresentsState now (m.after_from (begun_after x s before) life)
      (λ k. ended k + (ended_lives x s before k + m.ended_from (begun_after x s before) life k))
