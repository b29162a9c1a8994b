use Rattle.std.proofs.Common.{◌≡◌, ◌+◌, ◌≤◌, ℕ, zero, suc, List, [], ◌∷◌, ◌++◌, Some, length, map, take, refl, ap, sym, ◌∙◌, arith, rules}
use Rattle.std.specs.Prelude.{slice_get}
use Rattle.std.proofs.lemmas.List.{map-append}
use Rattle.machine_model.specs.Schedule.{schedules}
use Rattle.run_scripts.specs.links.ReportViews.{steps_of}
use Rattle.run_tracker.specs.ObjectLives.{steps_in}
use Rattle.ido_cli.proofs.report.kept_schedules.Goals as goal

-- one more of the first ones
one_more : (xs : List (List ℕ)) (n : ℕ) (x : List ℕ) → slice_get xs n ≡ Some x → take n xs ++ x ∷ [] ≡ take (suc n) xs
one_more [] n x there = cc
one_more (y ∷ ys) zero x there = let same : y ≡ x = cc in ap (λ (z : List ℕ). z ∷ []) (sym same)
one_more (y ∷ ys) (suc n) x there = ap (λ (zs : List (List ℕ)). y ∷ zs) (one_more ys n x there)

take_more : (xs : List (List ℕ)) (n : ℕ) (x : List ℕ) → slice_get xs n ≡ Some x → take n xs ++ x ∷ [] ≡ take (n + 1) xs
take_more xs n x there =
    let next : suc n ≡ n + 1 = omega arith in
    one_more xs n x there ∙ ap (λ (k : ℕ). take k xs) next

take_all : (xs : List (List ℕ)) (n : ℕ) → length xs ≤ n → take n xs ≡ xs
take_all [] zero all = refl
take_all [] (suc n) all = refl
take_all (y ∷ ys) zero all = absurd (omega (arith, all))
take_all (y ∷ ys) (suc n) all = ap (λ (zs : List (List ℕ)). y ∷ zs) (take_all ys n (omega (arith, all)))

pub loop-number-preserved : goal.loop-number-preserved
loop-number-preserved c =
    let all = schedules (steps_in c.args.life.now) in
    let taken : c.in_ok-schedule.schedule.items ≡ c.schedule.result.now = search (rules, c.in_ok-schedule.ensures) in
    let pushed : map steps_of c.push.new.self.items ≡ map steps_of c.loop-number.kept.items ++ c.schedule.result.now ∷ [] =
    ap (map steps_of) c.in_ok-push.ensures.items
    ∙ (map-append steps_of c.loop-number.kept.items (c.in_ok-schedule.schedule ∷ [])
    ∙ ap (λ (xs : List ℕ). map steps_of c.loop-number.kept.items ++ xs ∷ []) taken) in
    pushed ∙ (ap (λ (xs : List (List ℕ)). xs ++ c.schedule.result.now ∷ []) c.loop-number.invariant
    ∙ take_more all c.loop-number.number c.schedule.result.now c.schedule.ensures)

pub returns : goal.returns
returns c =
    c.loop-number.invariant
    ∙ take_all (schedules (steps_in c.args.life.now)) c.loop-number.number (omega (arith, c.loop-number-test.false, c.lives-number-end.ensures))
