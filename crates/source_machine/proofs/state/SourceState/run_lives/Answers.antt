use Rattle.std.proofs.Common.{Vec, ◌≡◌, ◌-◌, ◌≤◌, ◌∷◌, [], ℕ, List, sym, ◌∙◌, ap, subst, arith, length, map, take, drop, get_or, length-drop}
use Rattle.std.specs.Prelude.{Err}
use Rattle.std.specs.Global.{Global}
use Rattle.std.proofs.lemmas.List.{take_all}
use Rattle.source_machine.specs.LifeRuns.{RanLives}
use Rattle.source_machine.specs.links.LifeRuns.{schedule_of}
use Rattle.source_machine.proofs.LifeRuns.{first_lived, first_stopped}
use Rattle.source_machine.proofs.state.SourceState.run_lives.Goals as goal

-- the first life, and the others
first_is : (lives : List (Vec ℕ Global)) (v : Vec ℕ Global) (steps : List ℕ) → 1 ≤ length lives → v ≡ get_or lives 0 v → steps ≡ v.items →
    map schedule_of lives ≡ steps ∷ map schedule_of (drop 1 lives)
first_is [] v steps many is same = absurd (omega (arith, many))
first_is (l ∷ ls) v steps many is same = ap (λ (ts : List ℕ). ts ∷ map schedule_of ls) (ap schedule_of (sym is) ∙ sym same)

others_are : (lives : List (Vec ℕ Global)) → take (length lives - 1) (drop 1 lives) ≡ drop 1 lives
others_are lives = take_all (length lives - 1) (drop 1 lives) (omega (arith, length-drop 1 lives))

pub returns-in-Err-clause-ran : goal.returns-in-Err-clause-ran
returns-in-Err-clause-ran c = λ x s ended run stands.
    let schedules = c.args.schedules.now in
    let all = first_is schedules c.first-item.result c.deref.result.now c.in-len1-up.len_at_least c.first-item.is c.deref.ensures.value in
    subst (λ (ls : List (List ℕ)). RanLives x c.run.new.self (Err c.in-Err.refused) s ended ls) (sym all)
    (first_stopped x s ended c.run.new.self c.deref.result.now (map schedule_of (drop 1 schedules)) c.in-Err.refused (c.in-Err.ensures.ran s ended stands))

pub returns-clause-ran : goal.returns-clause-ran
returns-clause-ran c = λ x s ended run stands.
    let schedules = c.args.schedules.now in
    let all = first_is schedules c.first-item.result c.deref.result.now c.in-len1-up.len_at_least c.first-item.is c.deref.ensures.value in
    let rest = ap (λ (ls : List (Vec ℕ Global)). c.deref.result.now ∷ map schedule_of ls) (others_are schedules) in
    let ran = c.in_default-run.ensures.ran s ended stands in
    subst (λ (ls : List (List ℕ)). RanLives x c.run_others.new.self c.run_others.result s ended ls) (rest ∙ sym all)
    (c.run_others.ensures.ran x s ended [] c.deref.result.now (c.run.ensures.run x run)
    (first_lived x s ended c.run.new.self c.deref.result.now (sym ran.ok) ran.stands)
    (omega (arith, c.len.ensures, ap length c.deref.ensures.value, c.first-item.result.ok.0)))
