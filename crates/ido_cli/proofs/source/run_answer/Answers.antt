use Rattle.std.proofs.Common.{◌+◌, ◌<◌, ◌^◌, List, ℕ, length, map, arith, sym, ap, ◌∙◌, subst}
use Rattle.std.specs.Prelude.{sum_by}
use Rattle.std.proofs.lemmas.Result.{IfOk-weaker}
use Rattle.c_tree.specs.Flats.{flat_of}
use Rattle.c_tree.specs.Source as m
use Rattle.run_scripts.specs.links.ReportViews as views
use Rattle.source_machine.specs.LifeRuns.{IsRefusedLives}
use Rattle.source_machine.specs.Lives.{after_lives, ended_lives, runs_lives}
use Rattle.source_machine.specs.links.States.{RepresentsState}
use Rattle.ido_cli.specs.Refusals.{line_at_step}
use Rattle.ido_cli.specs.Runs.{ran, stopped}
use Rattle.ido_cli.proofs.RefusedSchedules.{both_ok}
use Rattle.ido_cli.proofs.source.run_answer.Goals as goal

pub run_lives-requires : goal.run_lives-requires
run_lives-requires c =
    let few : sum_by length (map views.steps_of c.args.lives.items) < 2 ^ 63 = omega (arith, c.requires.steps) in
    record { few = subst (λ ls. sum_by length (map views.steps_of ls) < 2 ^ 63) (sym c.deref.ensures.value) few }

pub say_run-requires-clause-stands : goal.say_run-requires-clause-stands
say_run-requires-clause-stands c =
    let x = flat_of c.args.flat.now in
    let start = m.start x in
    subst (λ (ls : List (List ℕ)). RepresentsState c.run_lives.new.self (after_lives x start ls) (λ thread. 0 + ended_lives x start ls thread))
    (ap (map views.steps_of) c.deref.ensures.value)
    (c.run_lives.ensures.ran x start (λ thread. 0) c.in_ok-state.ensures.run c.in_ok-state.ensures.stands).stands

pub returns-in-Ok : goal.returns-in-Ok
returns-in-Ok c =
    let x = flat_of c.args.flat.now in
    let start = m.start x in
    let was = c.in-Ok.ensures.ran x start (λ thread. 0) c.in_ok-state.ensures.run c.in_ok-state.ensures.stands in
    IfOk-weaker c.say_run.result _ _
    (λ said is. ran (sym (was.ok ∙ ap (λ ls. runs_lives x start (map views.steps_of ls)) c.deref.ensures.value)) is) c.say_run.ensures

pub returns-in-Err : goal.returns-in-Err
returns-in-Err c =
    let x = flat_of c.args.flat.now in
    let start = m.start x in
    let was = c.in-Err.ensures.ran x start (λ thread. 0) c.in_ok-state.ensures.run c.in_ok-state.ensures.stands in
    IfOk-weaker c.refused_at_step.result _ _
    (λ said is.
    stopped c.in-Err.stop
    (subst (λ (ls : List (List ℕ)). IsRefusedLives x c.in-Err.stop start ls) (ap (map views.steps_of) c.deref.ensures.value) was.refused) is.0
    (is.1 ∙ ap (λ (code : List ℕ). line_at_step code c.in-Err.stop.step) c.stop_code.ensures))
    (both_ok c.refused_at_step.result _ _ c.refused_at_step.ensures.status c.refused_at_step.ensures.output)
