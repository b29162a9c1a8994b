-- The longest runs of a schedule: the first of them, how many there are, and what they tell.
use Rattle.std.proofs.Common.{◌≡◌, ℕ, ◌+◌, List, [], ◌∷◌, ◌++◌, drop, take, length, get_or, ◌-◌, ◌≤◌}
use Rattle.std.proofs.Common.{◌<◌, ◌^◌, suc, Bool, true, false, ◌==◌, refl, ap, sym, ◌∙◌, arith}
use Rattle.std.proofs.lemmas.Grind.{common_steps}
use Rattle.std.specs.Prelude.{replicate}
use Rattle.std.proofs.lemmas.List.Concat.{flat_map-cons}
use Rattle.std.specs.List.{prefix_len, AllByRecursion}
use Rattle.std.proofs.lemmas.Bool.{eqb-true, eq-eqb}
use Rattle.std.proofs.Math.Numerals.{add-one, one-add}
use Rattle.run_scripts.specs.Runs.{Run, with_step, runs_of, schedule_of}

-- a step before a schedule makes one run with the steps of its thread at the front
pub first_of_runs : (t : ℕ) (ts : List ℕ) →
    with_step t (runs_of ts) ≡ record { thread = t; steps = prefix_len (λ u. u == t) ts + 1 } ∷ runs_of (drop (prefix_len (λ u. u == t) ts) ts)
first_of_runs t [] = refl
first_of_runs t (u ∷ us) = by_test (u == t) refl (first_of_runs t us) (first_of_runs u us)
  where
    goes_on : (n : ℕ) (rest : List Run) → with_step t (record { thread = t; steps = n } ∷ rest) ≡ record { thread = t; steps = n + 1 } ∷ rest
    goes_on n rest = rw (eq-eqb t t refl) refl

    begins : (u == t) ≡ false → (n : ℕ) (rest : List Run) →
        with_step t (record { thread = u; steps = n } ∷ rest) ≡ record { thread = t; steps = 1 } ∷ record { thread = u; steps = n } ∷ rest
    begins e n rest = rw e refl

    by_test : (b : Bool) → (u == t) ≡ b
        → with_step t (runs_of us) ≡ record { thread = t; steps = prefix_len (λ v. v == t) us + 1 } ∷ runs_of (drop (prefix_len (λ v. v == t) us) us)
        → with_step u (runs_of us) ≡ record { thread = u; steps = prefix_len (λ v. v == u) us + 1 } ∷ runs_of (drop (prefix_len (λ v. v == u) us) us)
        → with_step t (with_step u (runs_of us))
        ≡ record { thread = t; steps = prefix_len (λ v. v == t) (u ∷ us) + 1 } ∷ runs_of (drop (prefix_len (λ v. v == t) (u ∷ us)) (u ∷ us))
    by_test true e same other =
        let n = prefix_len (λ v. v == t) us in
        let equal : u ≡ t = eqb-true u t e in
        let long : with_step t (with_step u (runs_of us)) ≡ record { thread = t; steps = n + 1 + 1 } ∷ runs_of (drop n us) =
        ap (λ v. with_step t (with_step v (runs_of us))) equal ∙ ap (with_step t) same ∙ goes_on (n + 1) (runs_of (drop n us)) in
        rw e (simp (one-add, add-one) (simp add-one at long))
    by_test false e same other =
        let m = prefix_len (λ v. v == u) us + 1 in
        let rest = runs_of (drop (prefix_len (λ v. v == u) us) us) in
        let long : with_step t (with_step u (runs_of us)) ≡ record { thread = t; steps = 1 } ∷ with_step u (runs_of us) =
        ap (with_step t) other ∙ begins e m rest ∙ ap (λ runs. record { thread = t; steps = 1 } ∷ runs) (sym other) in
        rw e long

-- what stands after n elements, up to the end
up_to_end : {A : Type 0} (xs : List A) (n : ℕ) → take (length xs - n) (drop n xs) ≡ drop n xs
up_to_end xs n = grind (arith, common_steps)

pub runs_from_first : (schedule rest : List ℕ) (n : ℕ) → 1 ≤ length schedule →
    n ≡ prefix_len (λ t. t == get_or schedule 0 0) (take (length schedule - 1) (drop 1 schedule)) →
    rest ≡ drop n (take (length schedule - 1) (drop 1 schedule)) → runs_of schedule ≡ record { thread = get_or schedule 0 0; steps = n + 1 } ∷ runs_of rest
runs_from_first [] rest n some count after = absurd (omega arith)
runs_from_first (t ∷ ts) rest n some count after =
    let all : take (length (t ∷ ts) - 1) (drop 1 (t ∷ ts)) ≡ ts = up_to_end (t ∷ ts) 1 in
    let count' : n ≡ prefix_len (λ u. u == t) ts = count ∙ ap (prefix_len (λ u. u == t)) all in
    let after' : rest ≡ drop n ts = after ∙ ap (drop n) all in
    rw (after', count') (first_of_runs t ts)

-- ---- How many

step_adds : (t : ℕ) (rs : List Run) → length (with_step t rs) ≤ suc (length rs)
step_adds t [] = omega arith
step_adds t (r ∷ rs) = by_test (r.thread == t) refl
  where
    by_test : (b : Bool) → (r.thread == t) ≡ b → length (with_step t (r ∷ rs)) ≤ suc (length (r ∷ rs))
    by_test true e = rw e (omega arith)
    by_test false e = rw e (omega arith)

pub few_runs : (schedule : List ℕ) → length (runs_of schedule) ≤ length schedule
few_runs [] = omega arith
few_runs (t ∷ ts) = omega (arith, step_adds t (runs_of ts), few_runs ts)

-- ---- What they tell

-- at most so many steps
abbrev pub IsRunWithin : (most : ℕ) → Run → Type 0
IsRunWithin most r = (r.thread < 2 ^ 32) × (r.steps ≤ most)

more : (most : ℕ) (rs : List Run) → AllByRecursion (IsRunWithin most) rs → AllByRecursion (IsRunWithin (suc most)) rs
more most [] tell = tt
more most (r ∷ rs) tell = ((tell.0.0, omega (arith, tell.0.1)), more most rs tell.1)

step_tells : (t most : ℕ) (rs : List Run) → t < 2 ^ 32 → AllByRecursion (IsRunWithin most) rs → AllByRecursion (IsRunWithin (suc most)) (with_step t rs)
step_tells t most [] fits tell = ((fits, omega arith), tt)
step_tells t most (r ∷ rs) fits tell = by_test (r.thread == t) refl
  where
    by_test : (b : Bool) → (r.thread == t) ≡ b → AllByRecursion (IsRunWithin (suc most)) (with_step t (r ∷ rs))
    by_test true e = rw e ((fits, omega (arith, tell.0.1)), more most rs tell.1)
    by_test false e = rw e ((fits, omega arith), more most (r ∷ rs) tell)

pub runs_tell : (schedule : List ℕ) → AllByRecursion (λ t. t < 2 ^ 32) schedule → AllByRecursion (IsRunWithin (length schedule)) (runs_of schedule)
runs_tell [] below = tt
runs_tell (t ∷ ts) below = step_tells t (length ts) (runs_of ts) below.0 (runs_tell ts below.1)

-- ---- The steps again

step_first : (t : ℕ) (rs : List Run) → schedule_of (with_step t rs) ≡ t ∷ schedule_of rs
step_first t [] = refl
step_first t (r ∷ rs) = by_test (r.thread == t) refl
  where
    longer : (thread steps : ℕ) (tail : List ℕ) → thread ≡ t → replicate (steps + 1) t ++ tail ≡ t ∷ (replicate steps thread ++ tail)
    longer thread steps tail e = rw (e, add-one steps) refl

    by_test : (b : Bool) → (r.thread == t) ≡ b → schedule_of (with_step t (r ∷ rs)) ≡ t ∷ schedule_of (r ∷ rs)
    by_test true e =
        rw (
          e,
          flat_map-cons (λ (q : Run). replicate q.steps q.thread) (record { thread = t; steps = r.steps + 1 }) rs,
          flat_map-cons (λ (q : Run). replicate q.steps q.thread) r rs,
        ) (longer r.thread r.steps (schedule_of rs) (eqb-true r.thread t e))
    by_test false e = rw (e, flat_map-cons (λ (q : Run). replicate q.steps q.thread) (record { thread = t; steps = 1 }) (r ∷ rs)) refl

pub each_step : (schedule : List ℕ) → schedule_of (runs_of schedule) ≡ schedule
each_step [] = refl
each_step (t ∷ ts) = step_first t (runs_of ts) ∙ ap (λ rest. t ∷ rest) (each_step ts)
