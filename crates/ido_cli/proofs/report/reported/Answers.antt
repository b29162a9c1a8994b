use Rattle.std.proofs.Common.{ℕ, arith, ap, length, map, ◌∙◌}
use Rattle.c_tree.specs.Flats.{flat_of}
use Rattle.c_tree.specs.Source as m
use Rattle.log_schemes.specs.Schemes.{numbers_from}
use Rattle.machine_model.specs.Schedule.{schedules}
use Rattle.source_machine.specs.Lives.{ended_lives}
use Rattle.run_tracker.specs.ObjectLives.{ended_sections, steps_in}
use Rattle.ido_cli.proofs.GatheredReports.{same_map}
use Rattle.ido_cli.proofs.report.reported.Goals as goal

pub gathered-requires-clause-ended : goal.gathered-requires-clause-ended
gathered-requires-clause-ended c =
    let life = c.args.life.now in
    let x = flat_of c.args.flat.now in
    let counts = c.requires.counted in
    c.in_ok-ended.ensures
    ∙ (same_map (ended_sections life) (ended_lives x (m.start x) (schedules (steps_in life))) 0 (length life.runs.program)
    (λ h from below. counts.each h (omega (arith, below)))
    ∙ ap (λ (n : ℕ). map (ended_lives x (m.start x) (schedules (steps_in life))) (numbers_from 0 n)) counts.harts)
