use Rattle.std.proofs.Common.{◌<◌, ◌^◌, ℕ, List, ap, sym, length, map, ◌∙◌, subst}
use Rattle.std.specs.Prelude.{sum_by}
use Rattle.std.proofs.lemmas.List.{length-map}
use Rattle.c_tree.specs.Flats.{flat_of, thread_of}
use Rattle.c_tree.specs.Source as m
use Rattle.log_schemes.specs.Schemes.{numbers_from}
use Rattle.machine_model.specs.Schedule.{schedules}
use Rattle.source_machine.specs.Lives.{ended_lives}
use Rattle.run_scripts.specs.links.ReportViews.{steps_of}
use Rattle.run_tracker.specs.ObjectLives.{steps_in}
use Rattle.ido_cli.proofs.report.reported_by_source.Goals as goal

pub ended_by-requires-clause-steps : goal.ended_by-requires-clause-steps
ended_by-requires-clause-steps c =
    subst (λ (lives : List (List ℕ)). sum_by length lives < 2 ^ 63) (sym (ap (map steps_of) c.deref.ensures.value ∙ c.in_ok-kept.ensures)) c.requires.steps

pub gathered-requires-clause-ended : goal.gathered-requires-clause-ended
gathered-requires-clause-ended c =
    let x = flat_of c.args.flat.now in
    let kept : List (List ℕ) = schedules (steps_in c.args.life.now) in
    c.in_ok-ended.ensures
    ∙ (ap (λ (lives : List (List ℕ)). map (ended_lives x (m.start x) lives) (numbers_from 0 (length c.args.flat.now.threads.items)))
    (ap (map steps_of) c.deref.ensures.value ∙ c.in_ok-kept.ensures)
    ∙ ap (λ (n : ℕ). map (ended_lives x (m.start x) kept) (numbers_from 0 n)) (sym (length-map c.args.flat.now.threads.items thread_of)))
