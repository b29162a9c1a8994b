use Rattle.std.proofs.lemmas.Result.{IfOk-weaker}
use Rattle.crash_images.specs.declared.version.ImageVersion.TheVariants.{Fourth}
use Rattle.ido_cli.specs.Answers.{no_image, of_image}
use Rattle.ido_cli.proofs.RecoveredRuns.{accepted_runs_on, compiled_in, few_lives_in, few_steps_in, translated_in, words_in}
use Rattle.ido_cli.proofs.RefusedSchedules.{both_ok}
use Rattle.ido_cli.proofs.recover.recover_answer.Goals as goal

pub recovered-requires-clause-translated : goal.recovered-requires-clause-translated
recovered-requires-clause-translated g c κs within = translated_in Fourth c.args.input.now c.in-Ok.image c.in-Ok.ensures

pub recovered-requires-clause-compilation : goal.recovered-requires-clause-compilation
recovered-requires-clause-compilation g c κs within = (compiled_in Fourth c.args.input.now c.in-Ok.image c.in-Ok.ensures).2.compilation

pub recovered-requires-clause-steps : goal.recovered-requires-clause-steps
recovered-requires-clause-steps g c κs within = few_steps_in Fourth c.args.input.now c.in-Ok.image c.in-Ok.ensures

pub recovered-requires-clause-lives : goal.recovered-requires-clause-lives
recovered-requires-clause-lives g c κs within = few_lives_in Fourth c.args.input.now c.in-Ok.image c.in-Ok.ensures

pub recovered-requires-clause-words : goal.recovered-requires-clause-words
recovered-requires-clause-words g c κs within = words_in Fourth c.args.input.now c.in-Ok.image c.in-Ok.ensures

pub returns-in-Ok : goal.returns-in-Ok
returns-in-Ok g c = IfOk-weaker c.recovered.result _ _
    (λ said is. of_image c.in-Ok.image c.in-Ok.ensures
    (accepted_runs_on c.shapes_run_on.ensures.accepted Fourth c.args.input.now c.in-Ok.image c.in-Ok.ensures) is) c.recovered.ensures

pub returns-in-Err : goal.returns-in-Err
returns-in-Err g c =
    IfOk-weaker c.image_refused.result _ _ (λ said both. no_image c.in-Err.error c.in-Err.ensures both.0 both.1)
    (both_ok c.image_refused.result _ _ c.image_refused.ensures.status c.image_refused.ensures.output)
