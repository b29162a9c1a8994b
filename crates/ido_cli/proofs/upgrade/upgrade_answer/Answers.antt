use Rattle.std.proofs.lemmas.Result.{IfOk-weaker}
use Rattle.crash_images.specs.declared.version.ImageVersion.TheVariants.{Second}
use Rattle.ido_cli.specs.Answers.{not_older, of_older}
use Rattle.ido_cli.specs.CompiledImages.{whole}
use Rattle.ido_cli.proofs.RecoveredRuns.{accepted_runs_on, compiled_in, few_steps_in, translated_in, words_in}
use Rattle.ido_cli.proofs.RefusedSchedules.{both_ok}
use Rattle.ido_cli.proofs.UpgradedImages.{older_alone}
use Rattle.ido_cli.proofs.upgrade.upgrade_answer.Goals as goal

pub upgraded-requires-clause-source : goal.upgraded-requires-clause-source
upgraded-requires-clause-source g c κs within = c.in-Ok.ensures.1

pub upgraded-requires-clause-alone : goal.upgraded-requires-clause-alone
upgraded-requires-clause-alone g c κs within = older_alone c.args.input.now c.in-Ok.older.image c.in-Ok.ensures.0.is

pub upgraded-requires-clause-translated : goal.upgraded-requires-clause-translated
upgraded-requires-clause-translated g c κs within =
    translated_in Second c.args.input.now c.in-Ok.older.image (whole c.in-Ok.older.image c.in-Ok.ensures.0.is)

pub upgraded-requires-clause-compilation : goal.upgraded-requires-clause-compilation
upgraded-requires-clause-compilation g c κs within =
    (compiled_in Second c.args.input.now c.in-Ok.older.image (whole c.in-Ok.older.image c.in-Ok.ensures.0.is)).2.compilation

pub upgraded-requires-clause-steps : goal.upgraded-requires-clause-steps
upgraded-requires-clause-steps g c κs within =
    few_steps_in Second c.args.input.now c.in-Ok.older.image (whole c.in-Ok.older.image c.in-Ok.ensures.0.is)

pub upgraded-requires-clause-words : goal.upgraded-requires-clause-words
upgraded-requires-clause-words g c κs within = words_in Second c.args.input.now c.in-Ok.older.image (whole c.in-Ok.older.image c.in-Ok.ensures.0.is)

pub returns-in-Ok : goal.returns-in-Ok
returns-in-Ok g c =
    let older = c.in-Ok.ensures.0 in
    let image = c.in-Ok.older.image in
    IfOk-weaker c.upgraded.result _ _
    (λ said is. of_older image c.in-Ok.older.source.now older
    (accepted_runs_on c.shapes_run_on.ensures.accepted Second c.args.input.now image (whole image older.is)) is) c.upgraded.ensures

pub returns-in-Err : goal.returns-in-Err
returns-in-Err g c =
    IfOk-weaker c.image_refused.result _ _ (λ said both. not_older c.in-Err.error c.in-Err.ensures both.0 both.1)
    (both_ok c.image_refused.result _ _ c.image_refused.ensures.status c.image_refused.ensures.output)
