-- One life more, and which threads stand between sections.
use Rattle.std.proofs.Common.{◌≡◌, refl, inl, inr, ℕ, zero, suc, ◌+◌, [], ◌∷◌, ◌++◌, subst, arith, Bool, true, false, ◌&&◌}
use Rattle.std.specs.Prelude.{if◌then◌else◌}
use Rattle.std.proofs.lemmas.Bool.{and_parts, cases_lt}
use Rattle.c_tree.specs.Source.{State, is_between, after_from, runs_from, ended_from}
use Rattle.source_machine.specs.Lives.{restart, are_between, ends_life, after_lives, runs_lives, ended_lives, end_lives, begun_after}
use Rattle.source_machine.specs.Lives.{BetweenIsEach, AfterLife, RunsLife, EndedLife}

pub between_is_each : BetweenIsEach
between_is_each s zero all thread below = absurd (omega (arith, below))
between_is_each s (suc n) all thread below =
    let parts = and_parts (are_between s n) (is_between s n) all in
    elim (cases_lt thread n) [
      | inl before ↦ between_is_each s n parts.0 thread before
      | inr last ↦
          let same : n ≡ thread = omega (arith, below, last) in
          subst (λ (k : ℕ). is_between s k ≡ true) same parts.1
    ]

-- ---- After a life, by whether it ends

after_one : (b : Bool) (stop on : State) (all : Bool) (last whole : State) → on ≡ (if all then last else whole) →
    (if b then on else stop) ≡ (if b && all then last else (if b then whole else stop))
after_one true stop on all last whole e = e
after_one false stop on all last whole e = refl

pub after_life : AfterLife
after_life x s [] last = refl
after_life x s (one ∷ []) last = by (ends_life s one)
  where
    by : (b : Bool) → (if b then after_from (restart x (after_from s one)) last else after_from s one)
        ≡ (if b && true then after_from (restart x (after_from s one)) last else after_from s one)
    by true = refl
    by false = refl
after_life x s (one ∷ next ∷ rest) last =
    let t : State = restart x (after_from s one) in
    after_one (ends_life s one) (after_from s one) (after_lives x t ((next ∷ rest) ++ last ∷ [])) (end_lives x t (next ∷ rest))
    (after_from (begun_after x t (next ∷ rest)) last) (after_lives x t (next ∷ rest)) (after_life x t (next ∷ rest) last)

runs_one : (b : Bool) (on all last : Bool) → on ≡ (all && last) → (b && on) ≡ ((b && all) && last)
runs_one true on all last e = e
runs_one false on all last e = refl

pub runs_life : RunsLife
runs_life x s [] last = refl
runs_life x s (one ∷ []) last =
    runs_one (ends_life s one) (runs_from (restart x (after_from s one)) last) true (runs_from (restart x (after_from s one)) last) refl
runs_life x s (one ∷ next ∷ rest) last =
    let t : State = restart x (after_from s one) in
    runs_one (ends_life s one) (runs_lives x t ((next ∷ rest) ++ last ∷ [])) (end_lives x t (next ∷ rest))
    (runs_from (begun_after x t (next ∷ rest)) last) (runs_life x t (next ∷ rest) last)

ended_one : (b : Bool) (first on whole : ℕ) (all : Bool) (last : ℕ) → on ≡ whole + (if all then last else 0) →
    first + (if b then on else 0) ≡ (first + (if b then whole else 0)) + (if b && all then last else 0)
ended_one true first on whole all last e = omega (arith, e)
ended_one false first on whole all last e = omega arith

pub ended_life : EndedLife
ended_life x s [] last thread = omega arith
ended_life x s (one ∷ []) last thread = by (ends_life s one)
  where
    by : (b : Bool) → ended_from s one thread + (if b then ended_from (restart x (after_from s one)) last thread else 0)
        ≡ ended_from s one thread + (if b && true then ended_from (restart x (after_from s one)) last thread else 0)
    by true = refl
    by false = refl
ended_life x s (one ∷ next ∷ rest) last thread =
    let t : State = restart x (after_from s one) in
    ended_one (ends_life s one) (ended_from s one thread) (ended_lives x t ((next ∷ rest) ++ last ∷ []) thread) (ended_lives x t (next ∷ rest) thread)
    (end_lives x t (next ∷ rest)) (ended_from (begun_after x t (next ∷ rest)) last thread) (ended_life x t (next ∷ rest) last thread)
