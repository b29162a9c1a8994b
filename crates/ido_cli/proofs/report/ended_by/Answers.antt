use Rattle.std.proofs.Common.{◌+◌, ℕ, arith, ap, map, ◌∙◌}
use Rattle.std.proofs.lemmas.List.{length-map}
use Rattle.std.proofs.lemmas.Result.{IfOk-weaker}
use Rattle.c_tree.specs.Flats.{flat_of, thread_of}
use Rattle.c_tree.specs.Source as m
use Rattle.log_schemes.specs.Schemes.{numbers_from}
use Rattle.run_scripts.specs.links.ReportViews.{steps_of}
use Rattle.source_machine.specs.Lives.{after_lives, ended_lives}
use Rattle.ido_cli.proofs.GatheredReports.{ended_is}
use Rattle.ido_cli.proofs.report.ended_by.Goals as goal

pub run_lives-whole-requires : goal.run_lives-whole-requires
run_lives-whole-requires c = record { few = c.requires.steps }

pub ended-requires : goal.ended-requires
ended-requires c =
    omega (
      arith,
      c.requires.few,
      c.run_lives-whole.ensures.threads,
      c.in_ok-state.ensures.stands.count,
      length-map (flat_of c.args.flat.now).threads m.thread_start,
      length-map c.args.flat.now.threads.items thread_of,
    )

pub returns : goal.returns
returns c =
    let x = flat_of c.args.flat.now in
    let start = m.start x in
    let lives = map steps_of c.args.lives.now in
    let was = c.run_lives-whole.ensures.ran x start (λ thread. 0) c.in_ok-state.ensures.run c.in_ok-state.ensures.stands in
    IfOk-weaker c.ended.result _ _
    (λ sections is.
    is (after_lives x start lives) (λ thread. 0 + ended_lives x start lives thread) was.stands
    ∙ ended_is c.lives_stop_once.ensures.sizes x lives (omega (arith, c.requires.steps))
    ∙ ap (λ (n : ℕ). map (ended_lives x start lives) (numbers_from 0 n)) (length-map c.args.flat.now.threads.items thread_of)) c.ended.ensures
