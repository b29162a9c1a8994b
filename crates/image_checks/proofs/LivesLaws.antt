-- Lives have one first fault at most, and what their runs tell where they have none.
use Rattle.std.proofs.Common.{◌≡◌, refl, ℕ, ◌+◌, ◌≤◌, List, [], ◌∷◌, length, map, ap, sym, ◌∙◌, subst, arith, true, false}
use Rattle.std.specs.Prelude.{sum_by}
use Rattle.std.proofs.lemmas.Bool.{and_parts}
use Rattle.std.proofs.lemmas.List.Sums.{sum_by-cons}
use Rattle.ido_base.specs.declared.limits.TheConstants.{MOST_STEPS}
use Rattle.c_tree.specs.Flats.{Flat}
use Rattle.c_tree.specs.Source as m
use Rattle.run_scripts.specs.Runs.{Run, runs_of, schedule_of}
use Rattle.run_scripts.proofs.Public.{each_step, runs_merged}
use Rattle.source_machine.specs.Lives.{are_between, ends_life, restart, runs_lives}
use Rattle.image_checks.specs.declared.error.ImageError.{ImageError}
use Rattle.image_checks.specs.declared.error.ImageError.TheVariants as e
use Rattle.image_checks.specs.Schedules.{AreSchedules, IsEndedFault, IsLivesFault, IsSchedule, IsStepFault, at_step, inside, later, next_state, own}
use Rattle.image_checks.specs.Schedules.{schedules_of}
use Rattle.image_checks.proofs.ScheduleLaws.{one_fault, schedule_faultless}

-- ---- One fault

module _ (s : m.State) (done : ℕ) (runs : List Run) where
  none_at_step : (a : ImageError) → IsSchedule s done runs (schedule_of runs) → ¬ (IsStepFault s done runs a)
  none_at_step a sound (at_step step f) = schedule_faultless s done runs (schedule_of runs) sound step f.is

  one_at_step : (a b : ImageError) → IsStepFault s done runs a → IsStepFault s done runs b → a ≡ b
  one_at_step a b (at_step step f) (at_step other g) = ap e.Schedule (one_fault s done runs step other f g)

  module _ (number : ℕ) (IsLater : ImageError → Type 0) where
    abbrev IsFault : ImageError → Type 0
    IsFault = IsEndedFault number s done runs IsLater

    one_ended : ((a b : ImageError) → IsLater a → IsLater b → a ≡ b) → (a b : ImageError) → IsFault a → IsFault b → a ≡ b
    one_ended one a b (own c f) (own d g) = one_at_step c d f g
    one_ended one a b (own c f) (inside made not) = absurd (none_at_step c made f)
    one_ended one a b (own c f) (later d made between g) = absurd (none_at_step c made f)
    one_ended one a b (inside made not) (own d g) = absurd (none_at_step d made g)
    one_ended one a b (inside made not) (inside made' not') = refl
    one_ended one a b (inside made not) (later d made' between g) = let wrong : true ≡ false = sym between ∙ not in cc wrong
    one_ended one a b (later c made between f) (own d g) = absurd (none_at_step d made g)
    one_ended one a b (later c made between f) (inside made' not) = let wrong : true ≡ false = sym between ∙ not in cc wrong
    one_ended one a b (later c made between f) (later d made' between' g) = one c d f g

    none_ended : (a : ImageError) → IsSchedule s done runs (schedule_of runs) → are_between (m.after_from s (schedule_of runs)) (length s.threads) ≡ true →
        ((b : ImageError) → ¬ (IsLater b)) → ¬ (IsFault a)
    none_ended a made between none (own c f) = none_at_step c made f
    none_ended a made between none (inside made' not) = let wrong : true ≡ false = sym between ∙ not in cc wrong
    none_ended a made between none (later c made' between' f) = none c f

module _ (x : Flat) where
  pub one_in_lives : (number : ℕ) (s : m.State) (done : ℕ) (lives : List (List Run)) (a b : ImageError) → IsLivesFault x number s done lives a →
      IsLivesFault x number s done lives b → a ≡ b
  one_in_lives number s done [] a b f g = absurd f
  one_in_lives number s done (last ∷ []) a b f g = one_at_step s done last a b f g
  one_in_lives number s done (runs ∷ next ∷ rest) a b f g =
      one_ended s done runs number (IsLivesFault x (number + 1) (next_state x s runs) (done + length (schedule_of runs)) (next ∷ rest))
      (one_in_lives (number + 1) (next_state x s runs) (done + length (schedule_of runs)) (next ∷ rest)) a b f g

  pub none_in_lives : (number : ℕ) (s : m.State) (done : ℕ) (lives : List (List Run)) (a : ImageError) → AreSchedules x s done lives →
      ¬ (IsLivesFault x number s done lives a)
  none_in_lives number s done [] a all f = f
  none_in_lives number s done (last ∷ []) a all f = none_at_step s done last a all f
  none_in_lives number s done (runs ∷ next ∷ rest) a all f =
      none_ended s done runs number (IsLivesFault x (number + 1) (next_state x s runs) (done + length (schedule_of runs)) (next ∷ rest)) a
      all.0 all.1 (λ b. none_in_lives (number + 1) (next_state x s runs) (done + length (schedule_of runs)) (next ∷ rest) b all.2) f

  -- ---- What they tell

  pub lives_few : (s : m.State) (done : ℕ) (lives : List (List Run)) → done ≤ MOST_STEPS → AreSchedules x s done lives →
      done + sum_by length (schedules_of lives) ≤ MOST_STEPS
  lives_few s done [] few all = omega (arith, few)
  lives_few s done (last ∷ []) few all = omega (arith, all.formed.few, sum_by-cons length (schedule_of last) [])
  lives_few s done (runs ∷ next ∷ rest) few all =
      omega (
        arith,
        lives_few (next_state x s runs) (done + length (schedule_of runs)) (next ∷ rest) all.0.formed.few all.2,
        sum_by-cons length (schedule_of runs) (schedules_of (next ∷ rest)),
      )

-- ---- Schedules that are told by merged runs

pub told_again : (schedules : List (List ℕ)) → schedules_of (map runs_of schedules) ≡ schedules
told_again [] = refl
told_again (first ∷ schedules) = λ i. each_step first i ∷ told_again schedules i

module _ (s : m.State) (done : ℕ) (steps : List ℕ) where
  merged_schedule : done + length steps ≤ MOST_STEPS → m.runs_from s steps ≡ true → IsSchedule s done (runs_of steps) (schedule_of (runs_of steps))
  merged_schedule few made = record {
    formed = record {
      is = refl;
      merged = runs_merged steps;
      few = subst (λ (ts : List ℕ). done + length ts ≤ MOST_STEPS) (sym (each_step steps)) few;
    };
    made = subst (λ (ts : List ℕ). m.runs_from s ts ≡ true) (sym (each_step steps)) made;
  }

module _ (x : Flat) where
  pub merged_lives : (s : m.State) (done : ℕ) (schedules : List (List ℕ)) → done + sum_by length schedules ≤ MOST_STEPS → runs_lives x s schedules ≡ true →
      AreSchedules x s done (map runs_of schedules)
  merged_lives s done [] few made = tt
  merged_lives s done (last ∷ []) few made = merged_schedule s done last (omega (arith, few, sum_by-cons length last [])) made
  merged_lives s done (steps ∷ next ∷ rest) few made =
      let parts = and_parts (ends_life s steps) (runs_lives x (restart x (m.after_from s steps)) (next ∷ rest)) made in
      let ends = and_parts (m.runs_from s steps) (are_between (m.after_from s steps) (length s.threads)) parts.0 in
      let same : steps ≡ schedule_of (runs_of steps) = sym (each_step steps) in
      let more = sum_by-cons length steps (next ∷ rest) in (
        merged_schedule s done steps (omega (arith, few, more)) ends.0,
        subst (λ (ts : List ℕ). are_between (m.after_from s ts) (length s.threads) ≡ true) same ends.1,
        subst (λ (ts : List ℕ). AreSchedules x (restart x (m.after_from s ts)) (done + length ts) (map runs_of (next ∷ rest))) same
            (merged_lives (restart x (m.after_from s steps)) (done + length steps) (next ∷ rest) (omega (arith, few, more)) parts.1),
      )
