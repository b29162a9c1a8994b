-- What a state in the code represents, and what steps and runs of it do.
use Rattle.std.specs.Prelude.{◌≡◌, ℕ, ◌+◌, List, [], ◌∷◌, ◌++◌, length, slice_get, Some, None, true, Result, IfErr}
use Rattle.std.specs.Result.{is_ok}
use Rattle.c_tree.specs.Source as m
use Rattle.source_machine.specs.declared.answers.Stepped.{Stepped}
use Rattle.source_machine.specs.declared.answers.Stepped.TheVariants.{Ended}
use Rattle.source_machine.specs.declared.answers.RefusedKind.{RefusedKind}
use Rattle.source_machine.specs.declared.answers.RefusedKind.TheVariants as kind
use Rattle.source_machine.specs.declared.answers.Refused.{Refused}
use Rattle.source_machine.specs.declared.state.SourceState.{SourceState}
use Rattle.source_machine.specs.Answers.{answer_of}
use Rattle.source_machine.specs.Mutexes.{lock_ahead}
use Rattle.source_machine.specs.links.States.{RepresentsState}

-- ---- Steps

-- `Did` where the thread has a step; else the mutex at whose lock it stands, or that it has ended
abbrev pub stepped_of : m.State → (thread : ℕ) → Stepped
stepped_of s t = elim (slice_get s.threads t) [
  | Some thread ↦ answer_of thread (m.source_step s t)
  | None ↦ Ended
]

-- the answer is that, and the state that of the step where there is one, else the same
pub record IsAfter (after : SourceState) (answer : Stepped) (s : m.State) (ended : ℕ → ℕ) (thread : ℕ) : Type 0 where
  pub answered : answer ≡ stepped_of s thread
  pub stands : RepresentsState after (m.after_from s (thread ∷ [])) (λ k. ended k + m.ended_from s (thread ∷ []) k)

-- ---- Runs

-- why the thread has no step
abbrev pub refusal_of : m.State → (thread : ℕ) → RefusedKind
refusal_of s t = elim (slice_get s.threads t) [
  | None ↦ kind.UnknownThread
  | Some thread ↦ elim (lock_ahead thread) [
    | Some mutex ↦ kind.Waits
    | None ↦ kind.Ended
  ]
]

-- the steps before that one are made, and that one can't be, for that reason
pub record IsRefusedSchedule (refused : Refused) (s : m.State) (schedule : List ℕ) : Type 0 where
  pub before : List ℕ
  pub thread : ℕ
  pub after : List ℕ
  pub is : schedule ≡ before ++ thread ∷ after
  pub runs : m.runs_from s before ≡ true
  pub none : m.source_step (m.after_from s before) thread ≡ None
  pub step : refused.step ≡ length before + 1
  pub reason : refused.kind ≡ refusal_of (m.after_from s before) thread

-- the state is that after the longest prefix that can be stepped, and `Ok` comes where that is the whole schedule
pub record Ran (after : SourceState) (result : Result (Unit {0}) Refused) (s : m.State) (ended : ℕ → ℕ) (schedule : List ℕ) : Type 0 where
  pub stands : RepresentsState after (m.after_from s schedule) (λ k. ended k + m.ended_from s schedule k)
  pub ok : is_ok result ≡ m.runs_from s schedule
  pub refused : IfErr result (λ e. IsRefusedSchedule e s schedule)
