-- Schedules of lives, the last one apart.
use Rattle.std.proofs.Common.{◌≡◌, ℕ, ◌+◌, List, [], ◌∷◌, ◌++◌, length, map, refl, ap, ap₂, ◌∙◌, arith, length-append}
use Rattle.std.specs.Prelude.{Vec, sum_by}
use Rattle.std.specs.Global.{Global}
use Rattle.std.proofs.lemmas.List.{length-map, map-append}
use Rattle.std.proofs.lemmas.List.Concat.{length-flat_map}
use Rattle.std.proofs.lemmas.List.Sums.{sum_by_push}
use Rattle.machine_model.specs.Schedule.{LifeSchedules, all_lives}
use Rattle.run_scripts.specs.links.ReportViews.{steps_of}
use Rattle.run_tracker.specs.links.EarlierLives.{kept_count, lives_in, schedule_in}

-- the last of them is taken away from the vector
pub last_popped : (lives rest : List (Vec ℕ Global)) (last : Vec ℕ Global) → lives ≡ rest ++ last ∷ [] →
    map steps_of lives ≡ all_lives (lives_in rest last.items)
last_popped lives rest last is = ap (map steps_of) is ∙ map-append steps_of rest (last ∷ [])

-- how many steps they have
pub steps_counted : (earlier : List (Vec ℕ Global)) (schedule : List ℕ) → sum_by length (all_lives (lives_in earlier schedule)) ≡ kept_count earlier schedule
steps_counted earlier schedule =
    let before : List (List ℕ) = map schedule_in earlier in
    let sum = sum_by_push length before schedule in
    let flat = length-flat_map (λ (steps : List ℕ). steps) before in
    omega (arith, sum, flat)

-- how many lives there are
pub as_many_lives : (earlier : List (Vec ℕ Global)) (schedule : List ℕ) → length (all_lives (lives_in earlier schedule)) ≡ length earlier + 1
as_many_lives earlier schedule = omega (arith, length-append (map schedule_in earlier) (schedule ∷ []), length-map earlier schedule_in)

-- ---- By all of them

both_same : (xs ys : List (List ℕ)) (x y : List ℕ) → xs ++ x ∷ [] ≡ ys ++ y ∷ [] → (xs ≡ ys) × (x ≡ y)
both_same [] [] x y e = let same : x ≡ y = cc in (refl, same)
both_same [] (z ∷ ys) x y e = absurd (omega (arith, ap length e, length-append ys (y ∷ [])))
both_same (w ∷ xs) [] x y e = absurd (omega (arith, ap length e, length-append xs (x ∷ [])))
both_same (w ∷ xs) (z ∷ ys) x y e =
    let here : w ≡ z = cc in
    let more : xs ++ x ∷ [] ≡ ys ++ y ∷ [] = cc in
    let rest = both_same xs ys x y more in
    (ap₂ (λ (v : List ℕ) (vs : List (List ℕ)). v ∷ vs) here rest.0, rest.1)

-- the same schedules, with the same one last
pub same_lives : (a b : LifeSchedules) → all_lives a ≡ all_lives b → a ≡ b
same_lives a b same =
    let parts = both_same a.earlier b.earlier a.schedule b.schedule same in
    ap₂ (λ (earlier : List (List ℕ)) (schedule : List ℕ). let x : LifeSchedules = record { earlier = earlier; schedule = schedule } in x) parts.0 parts.1
