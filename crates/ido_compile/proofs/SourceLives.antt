-- Values and references in the lives of a source: a life begins with the variables that the life before has left, and its threads anew.
use Rattle.std.proofs.Common.{◌≡◌, ℕ, List, [], ◌∷◌, Bool, true, false, refl, Option, Some, None}
use Rattle.std.specs.Prelude.{if◌then◌else◌}
use Rattle.c_tree.specs.Flats as f
use Rattle.c_tree.specs.Source.{State, after_from, source_step, start}
use Rattle.c_tree.specs.WellFormed.{IsWellFormed}
use Rattle.c_ranges.specs.RunInvariants.{BeginsSo, IsStateOf, StaysSo}
use Rattle.source_machine.specs.Lives.{after_lives, ends_life, restart}

module _ (begins : BeginsSo) (stays : StaysSo) (x : f.Flat) (formed : IsWellFormed x) where
  abbrev after_step : (s : State) → (ts : List ℕ) → Option State → State
  after_step s ts taken = elim taken [
    | None ↦ s
    | Some next ↦ after_from next ts
  ]

  -- a schedule keeps it
  after_so : (schedule : List ℕ) (s : State) → IsStateOf x s → IsStateOf x (after_from s schedule)
  after_so [] s so = so
  after_so (t ∷ ts) s so =
      let by : (taken : Option State) → source_step s t ≡ taken → IsStateOf x (after_step s ts taken) =
      λ taken. elim taken as (λ o. source_step s t ≡ o → IsStateOf x (after_step s ts o)) [
        | None ↦ λ none. so
        | Some next ↦ λ some. after_so ts next (stays x s next t formed so some)
      ] in
      by (source_step s t) refl

  -- threads that begin anew have what they have at the start
  restart_so : (s : State) → IsStateOf x s → IsStateOf x (restart x s)
  restart_so s so =
      let first = begins x formed in
      record {
        variables = so.variables;
        holders = first.holders;
        threads = first.threads;
        references = record { variables = so.references.variables; threads = first.references.threads };
      }

  lives_from : (lives : List (List ℕ)) (s : State) → IsStateOf x s → IsStateOf x (after_lives x s lives)
  lives_from [] s so = so
  lives_from (last ∷ []) s so = after_so last s so
  lives_from (schedule ∷ next ∷ rest) s so =
      let by : (ends : Bool) → IsStateOf x (if ends then after_lives x (restart x (after_from s schedule)) (next ∷ rest) else after_from s schedule) =
      λ ends. elim ends as (λ b. IsStateOf x (if b then after_lives x (restart x (after_from s schedule)) (next ∷ rest) else after_from s schedule)) [
        | true ↦ lives_from (next ∷ rest) (restart x (after_from s schedule)) (restart_so (after_from s schedule) (after_so schedule s so))
        | false ↦ after_so schedule s so
      ] in
      by (ends_life s schedule)

  pub lives_so : (lives : List (List ℕ)) → IsStateOf x (after_lives x (start x) lives)
  lives_so lives = lives_from lives (start x) (begins x formed)
