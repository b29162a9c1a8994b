use Rattle.std.proofs.Common.{◌≡◌, ◌+◌, List, ℕ, map, true, subst, sym, ap, ◌∙◌}
use Rattle.c_tree.specs.Source.{after_from, ended_from, runs_from}
use Rattle.source_machine.specs.Runs.{IsRefusedSchedule}
use Rattle.source_machine.specs.links.States.{RepresentsState}
use Rattle.image_checks.specs.links.PrefixBeforeFault.{IsPrefix}
use Rattle.run_scripts.specs.links.RunViews.{run_of}
use Rattle.image_checks.proofs.ScheduleLaws.{source_fault, form_fault}
use Rattle.image_checks.proofs.schedules.life_of.Goals as goal

pub returns-in-Err-clause-fault : goal.returns-in-Err-clause-fault
returns-in-Err-clause-fault c = λ s ended stands.
    let ran = c.in-Err.ensures.ran s ended stands in
    let steps = c.in_ok-prefix.prefix.steps.items in
    source_fault s c.args.done (map run_of c.args.runs.now) steps c.in_ok-prefix.prefix.fault c.in-Err.refused c.in_ok-prefix.ensures
    (subst (λ (ts : List ℕ). IsRefusedSchedule c.in-Err.refused s ts) c.deref.ensures.value ran.refused)

pub returns-in-Some-clause-fault : goal.returns-in-Some-clause-fault
returns-in-Some-clause-fault c = λ s ended stands.
    let runs = map run_of c.args.runs.now in
    let steps = c.in_ok-prefix.prefix.steps.items in
    let ran = c.in_default.ensures.ran s ended stands in
    let made : runs_from s steps ≡ true = sym (ran.ok ∙ ap (runs_from s) c.deref.ensures.value) in
    form_fault s c.args.done runs steps c.in-Some.step (subst (IsPrefix c.args.done runs steps) c.in-Some.is c.in_ok-prefix.ensures) made

pub returns-in-None-clause-told : goal.returns-in-None-clause-told
returns-in-None-clause-told c = λ s ended stands.
    let runs = map run_of c.args.runs.now in
    let steps = c.in_ok-prefix.prefix.steps.items in
    let ran = c.in_default.ensures.ran s ended stands in
    let made : runs_from s steps ≡ true = sym (ran.ok ∙ ap (runs_from s) c.deref.ensures.value) in
    record {
      sound = record { formed = subst (IsPrefix c.args.done runs steps) c.in-None.is c.in_ok-prefix.ensures; made = made };
      stands = subst (λ (ts : List ℕ). RepresentsState c.run.new.self (after_from s ts) (λ k. ended k + ended_from s ts k)) c.deref.ensures.value ran.stands;
    }
