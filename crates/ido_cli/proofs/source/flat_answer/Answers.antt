use Rattle.std.proofs.Common.{arith, ap, length, map, sym, ◌∙◌}
use Rattle.std.proofs.lemmas.Result.{IfOk-weaker}
use Rattle.c_tree.specs.Flats.{flat_of}
use Rattle.run_scripts.specs.Schedules.{read}
use Rattle.run_scripts.specs.links.ReportViews.{steps_of}
use Rattle.run_scripts.specs.links.WordLengths.{fault_of}
use Rattle.ido_cli.specs.Answers.{of_schedules}
use Rattle.ido_cli.proofs.RestLengths.{rest_short}
use Rattle.ido_cli.proofs.RefusedSchedules.{both_ok, fault_answer}
use Rattle.ido_cli.proofs.source.flat_answer.Goals as goal

pub read_schedule-requires : goal.read_schedule-requires
read_schedule-requires c = omega (arith, c.requires.short, ap length c.requires.rest, rest_short c.args.input.now)

pub overflow_sub-input : goal.overflow_sub-input
overflow_sub-input c = omega (arith, ap length c.requires.rest, rest_short c.args.input.now)

pub returns-in-Ok : goal.returns-in-Ok
returns-in-Ok c =
    IfOk-weaker c.run_answer.result _ _
    (λ said is accepted.
    of_schedules (flat_of c.args.flat.now) accepted (map steps_of c.in-Ok.lives.items) (sym (ap read c.requires.rest) ∙ c.in-Ok.ensures.lives) is)
    c.run_answer.ensures

pub returns-in-Err : goal.returns-in-Err
returns-in-Err c =
    IfOk-weaker c.schedule_refused.result _ _
    (λ said both accepted. fault_answer c.args.input.now c.args.rest.now (flat_of c.args.flat.now) (fault_of c.in-Err.error) said.status said.output.items
    c.requires.rest both.0 c.in-Err.ensures.refused both.1 accepted)
    (both_ok c.schedule_refused.result _ _ c.schedule_refused.ensures.fault c.schedule_refused.ensures.said)
