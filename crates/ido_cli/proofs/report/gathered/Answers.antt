use Rattle.std.proofs.Common.{map, rules}
use Rattle.machine_model.specs.Schedule.{schedules}
use Rattle.c_tree.specs.Flats.{flat_of}
use Rattle.run_scripts.specs.links.ReportViews as views
use Rattle.run_tracker.specs.ObjectLives.{steps_in, world_of}
use Rattle.ido_cli.proofs.PlayedRuns.{machine_reported}
use Rattle.ido_cli.proofs.report.gathered.Goals as goal

pub returns : goal.returns
returns c =
    machine_reported (flat_of c.args.flat.now) (world_of c.args.life.now) (schedules (steps_in c.args.life.now)) c.in_ok-unsettled.unsettled.items
    c.args.ended.items (map views.steps_of c.args.kept.items) (map views.variable_of c.in_ok-variables.variables.items)
    c.in_ok-unsettled.ensures
    (search (rules, c.in_ok-variables.ensures))
    c.requires.ended
    c.requires.kept
