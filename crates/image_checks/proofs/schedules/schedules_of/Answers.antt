use Rattle.std.proofs.Common.{◌≡◌, ◌+◌, ◌<◌, [], List, ap, refl, ◌∙◌, sym, subst, arith, length, map, drop}
use Rattle.std.specs.Prelude.{Vec}
use Rattle.std.specs.Global.{Global}
use Rattle.std.proofs.lemmas.Bool.Decides.{nat_tests}
use Rattle.std.proofs.lemmas.List.{drop_all, nil_from_length, take_all}
use Rattle.std.proofs.lemmas.Result.{err_from_is_err_and}
use Rattle.c_tree.specs.Flats.{flat_of}
use Rattle.c_tree.specs.Source.{start}
use Rattle.run_scripts.specs.declared.runs.Run.{Run}
use Rattle.run_scripts.specs.links.ReportViews.{steps_of}
use Rattle.run_scripts.specs.links.RunViews.{run_of}
use Rattle.crash_images.specs.links.Views.{life_of}
use Rattle.image_checks.specs.Schedules.{schedules_of}
use Rattle.image_checks.proofs.CheckedLives.{HaveChecked, all_checked, few_steps, first_checked, first_fault, here_is, next_checked, next_fault, no_lives}
use Rattle.image_checks.proofs.CheckedLives.{told_more}
use Rattle.image_checks.proofs.schedules.schedules_of.Goals as goal

-- ---- No life

pub returns-then-is_empty-clause-lives : goal.returns-then-is_empty-clause-lives
returns-then-is_empty-clause-lives c =
    let none : c.args.lives.now ≡ [] = nil_from_length c.args.lives.now (grind (arith, nat_tests, c.is_empty.ensures, c.if-is_empty.true)) in
    ap (map steps_of) c.new-schedules.ensures.items ∙ ap (λ (lives : List (Vec Run Global)). schedules_of (map life_of lives)) (sym none)

pub returns-then-is_empty-clause-sound : goal.returns-then-is_empty-clause-sound
returns-then-is_empty-clause-sound c =
    let none : c.args.lives.now ≡ [] = nil_from_length c.args.lives.now (grind (arith, nat_tests, c.is_empty.ensures, c.if-is_empty.true)) in
    no_lives (flat_of c.args.flat.now) (map life_of c.args.lives.now) (ap (map life_of) none)

-- ---- The first

pub returns-in_err-steps-clause-fault : goal.returns-in_err-steps-clause-fault
returns-in_err-steps-clause-fault c =
    let p = err_from_is_err_and c.from_residual-in_err-steps.result c.from_residual-in_err-steps.ensures.1 in
    let x = flat_of c.args.flat.now in
    let lives = c.args.lives.now in
    let v = c.index-lives-0.result in
    rw (p.1, p.2)
    (first_fault x (map life_of lives) (map run_of c.deref.result.now) (map life_of (drop 1 lives)) c.in_err-steps.field-0.0
    (here_is lives 0 v c.deref.result.now (grind (arith, nat_tests, c.is_empty.ensures, c.if-is_empty.false)) c.index-lives-0.is c.deref.ensures.value)
    (c.in_err-steps.ensures.fault (start x) (λ k. 0) c.in_ok-state.ensures.stands))

pub loop-i-init : goal.loop-i-init
loop-i-init c =
    let x = flat_of c.args.flat.now in
    let lives = c.args.lives.now in
    let v = c.index-lives-0.result in
    let runs = c.deref.result.now in
    let steps = c.in_ok-steps.steps in
    let within : 0 < length lives = grind (arith, nat_tests, c.is_empty.ensures, c.if-is_empty.false) in
    let here = here_is lives 0 v runs within c.index-lives-0.is c.deref.ensures.value in
    let told = c.in_ok-steps.ensures.told (start x) (λ k. 0) c.in_ok-state.ensures.stands in
    let so_many : length steps.items ≡ c.len-done.result = omega (arith, c.len-done.ensures, steps.ok.0) in
    record {
      checked = subst (λ n. HaveChecked x (map life_of lives) c.life_of.new.state 1 n (map life_of (drop 1 lives))) so_many
          (first_checked x (map life_of lives) c.life_of.new.state (map run_of runs) (map life_of (drop 1 lives)) steps.items here told
          (c.in_ok-steps.ensures.run x c.in_ok-state.ensures.run));
      told = told_more lives 0 v runs within c.index-lives-0.is c.deref.ensures.value c.new-schedules.result.items c.push.new.items.items steps
          (ap (map steps_of) c.new-schedules.ensures.items) c.in_ok-push.ensures told.sound.formed.is;
      end = refl;
    }

-- ---- The next

pub next_life_of-requires : goal.next_life_of-requires
next_life_of-requires c =
    let inv = c.loop-i.invariant in
    few_steps (flat_of c.args.flat.now) (map life_of c.args.lives.now) c.loop-i.state c.loop-i.i c.loop-i.done (map life_of (drop c.loop-i.i c.args.lives.now))
    inv.checked

pub returns-in_err-schedule-clause-fault : goal.returns-in_err-schedule-clause-fault
returns-in_err-schedule-clause-fault c =
    let p = err_from_is_err_and c.from_residual-in_err-schedule.result c.from_residual-in_err-schedule.ensures.1 in
    let x = flat_of c.args.flat.now in
    let lives = c.args.lives.now in
    let i = c.loop-i.i in
    let inv = c.loop-i.invariant in
    let h = inv.checked in
    let runs = c.deref-in-loop-i.result.now in
    rw (p.1, p.2)
    (next_fault x (map life_of lives) c.loop-i.state i c.loop-i.done (map life_of (drop i lives)) h (map run_of runs) (map life_of (drop (i + 1) lives))
    (here_is lives i c.index-lives-i.result runs (omega (arith, c.loop-i-test.true, inv.end)) c.index-lives-i.is c.deref-in-loop-i.ensures.value)
    c.in_err-schedule.field-0.0 (c.in_err-schedule.ensures.fault x _ h.ended h.run h.stands))

pub overflow_add-done : goal.overflow_add-done
overflow_add-done c =
    let h = c.loop-i.invariant.checked in
    let steps = c.in_ok-schedule.schedule in
    let told = c.in_ok-schedule.ensures.told (flat_of c.args.flat.now) _ h.ended h.run h.stands in
    omega (arith, told.1.sound.formed.few, c.len.ensures, steps.ok.0)

pub loop-i-preserved : goal.loop-i-preserved
loop-i-preserved c =
    let x = flat_of c.args.flat.now in
    let lives = c.args.lives.now in
    let i = c.loop-i.i in
    let inv = c.loop-i.invariant in
    let h = inv.checked in
    let v = c.index-lives-i.result in
    let runs = c.deref-in-loop-i.result.now in
    let steps = c.in_ok-schedule.schedule in
    let within : i < length lives = omega (arith, c.loop-i-test.true, inv.end) in
    let here = here_is lives i v runs within c.index-lives-i.is c.deref-in-loop-i.ensures.value in
    let told = c.in_ok-schedule.ensures.told x _ h.ended h.run h.stands in
    let so_many : c.loop-i.done + length steps.items ≡ c.loop-i.done + c.len.result = omega (arith, c.len.ensures, steps.ok.0) in
    record {
      checked = subst (λ n. HaveChecked x (map life_of lives) c.next_life_of.new.state (i + 1) n (map life_of (drop (i + 1) lives))) so_many
          (next_checked x (map life_of lives) c.loop-i.state i c.loop-i.done (map life_of (drop i lives)) h (map run_of runs)
          (map life_of (drop (i + 1) lives)) here c.next_life_of.new.state steps.items told (c.in_ok-schedule.ensures.run x h.run));
      told = told_more lives i v runs within c.index-lives-i.is c.deref-in-loop-i.ensures.value c.loop-i.schedules.items c.push-in-loop-i.new.items.items
          steps inv.told c.in_ok-push-2.ensures told.1.sound.formed.is;
      end = inv.end;
    }

pub returns-clause-lives : goal.returns-clause-lives
returns-clause-lives c =
    let inv = c.loop-i.invariant in
    inv.told ∙ ap (λ (lives : List (Vec Run Global)). schedules_of (map life_of lives))
    (take_all c.loop-i.i c.args.lives.now (omega (arith, c.loop-i-test.false, inv.end)))

pub returns-clause-sound : goal.returns-clause-sound
returns-clause-sound c =
    let inv = c.loop-i.invariant in
    let lives = c.args.lives.now in
    all_checked (flat_of c.args.flat.now) (map life_of lives) c.loop-i.state c.loop-i.i c.loop-i.done (map life_of (drop c.loop-i.i lives)) inv.checked
    (ap (map life_of) (drop_all c.loop-i.i lives (omega (arith, c.loop-i-test.false, inv.end))))
