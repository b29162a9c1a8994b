-- Runs of lives, a schedule for each: where they stop before their end, and what a state in the code comes to.
use Rattle.std.specs.Prelude.{◌≡◌, ℕ, ◌+◌, List, [], ◌∷◌, ◌++◌, length, sum_by, true, false, Result, IfErr}
use Rattle.std.specs.Result.{is_ok}
use Rattle.c_tree.specs.Flats as f
use Rattle.c_tree.specs.Source as m
use Rattle.source_machine.specs.declared.answers.RefusedKind.TheVariants as kind
use Rattle.source_machine.specs.declared.answers.Refused.{Refused}
use Rattle.source_machine.specs.declared.state.SourceState.{SourceState}
use Rattle.source_machine.specs.Lives.{after_lives, are_between, begun_after, end_lives, ended_lives, runs_lives}
use Rattle.source_machine.specs.Runs.{IsRefusedSchedule}
use Rattle.source_machine.specs.links.States.{RepresentsState}

-- A life that begins in a state, after so many steps of the lives before it, stops the lives: one of its steps can't be made, or other lives come after it, and
-- it leaves a thread inside a section, which is told at the step after it. Steps count from 1 over all lives.
pub data IsLifeStop (s : m.State) (done : ℕ) (life : List ℕ) (after : List (List ℕ)) (refused : Refused) : Type 0 where
  at_step : (stop : Refused) → IsRefusedSchedule stop s life → refused.kind ≡ stop.kind → refused.step ≡ done + stop.step →
      IsLifeStop s done life after refused
  inside : (next : List ℕ) (more : List (List ℕ)) → after ≡ next ∷ more → m.runs_from s life ≡ true →
      are_between (m.after_from s life) (length s.threads) ≡ false → refused.kind ≡ kind.Inside → refused.step ≡ done + length life + 1 →
      IsLifeStop s done life after refused

-- the lives before that one end, and that one stops them
pub record IsRefusedLives (x : f.Flat) (refused : Refused) (s : m.State) (lives : List (List ℕ)) : Type 0 where
  pub before : List (List ℕ)
  pub life : List ℕ
  pub after : List (List ℕ)
  pub is : lives ≡ before ++ life ∷ after
  pub ends : end_lives x s before ≡ true
  pub stops : IsLifeStop (begun_after x s before) (sum_by length before) life after refused

-- the state is that after the lives, up to where they stop, and `Ok` comes where they don't
pub record RanLives (x : f.Flat) (after : SourceState) (result : Result (Unit {0}) Refused) (s : m.State) (ended : ℕ → ℕ) (lives : List (List ℕ)) :
    Type 0 where
  pub stands : RepresentsState after (after_lives x s lives) (λ k. ended k + ended_lives x s lives k)
  pub ok : is_ok result ≡ runs_lives x s lives
  pub refused : IfErr result (λ e. IsRefusedLives x e s lives)

-- ---- Laws

-- lives are stopped once, for one reason
abbrev pub OneLifeStop : Type 0
OneLifeStop = (x : f.Flat) (s : m.State) (lives : List (List ℕ)) (r q : Refused) → IsRefusedLives x r s lives → IsRefusedLives x q s lives → r ≡ q

-- lives that are stopped can't be stepped whole
abbrev pub LivesNotWhole : Type 0
LivesNotWhole = (x : f.Flat) (s : m.State) (lives : List (List ℕ)) (r : Refused) → IsRefusedLives x r s lives → runs_lives x s lives ≡ false
