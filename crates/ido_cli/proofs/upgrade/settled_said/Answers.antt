use Rattle.std.proofs.Common.{◌≤◌, ◌<◌, Bool, ap, subst, ◌∙◌, arith, length}
use Rattle.std.specs.Prelude.{MatchBool, sum_by}
use Rattle.std.proofs.lemmas.Result.{IfOk-weaker}
use Rattle.ido_base.specs.declared.limits.TheConstants.{MOST_STEPS}
use Rattle.machine_model.specs.Schedule.{schedules}
use Rattle.run_tracker.specs.ObjectLives.{steps_in}
use Rattle.crash_images.specs.Contents.{Contents}
use Rattle.crash_images.specs.ImageDecoder.{IsReadAs}
use Rattle.crash_images.specs.ImageEncoder.{spelling}
use Rattle.crash_images.specs.declared.version.ImageVersion.TheVariants.{Third}
use Rattle.ido_cli.specs.Upgrades.{renewed, too_long}
use Rattle.ido_cli.proofs.RefusedSchedules.{both_ok}
use Rattle.ido_cli.proofs.UpgradedImages.{by_three, harts_few, renewed_is, same_words, steps_counted_once, words_few, words_within}
use Rattle.ido_cli.proofs.upgrade.settled_said.Goals as goal

pub renewed-requires-clause-variables : goal.renewed-requires-clause-variables
renewed-requires-clause-variables c = words_few c.args.image.now.compiled c.args.life.now c.requires.life

pub renewed-requires-clause-object : goal.renewed-requires-clause-object
renewed-requires-clause-object c = same_words c.args.image.now.compiled c.args.life.now c.requires.life

pub renewed-requires-clause-within : goal.renewed-requires-clause-within
renewed-requires-clause-within c = words_within c.args.image.now.compiled c.args.life.now c.requires.life

pub renewed-requires-clause-harts : goal.renewed-requires-clause-harts
renewed-requires-clause-harts c = harts_few c.args.image.now.compiled c.args.life.now c.requires.life

pub renewed-requires-clause-schedule : goal.renewed-requires-clause-schedule
renewed-requires-clause-schedule c =
    let fits = subst (λ (b : Bool). MatchBool b (length c.kept.result.now ≤ MOST_STEPS) (MOST_STEPS < length c.kept.result.now)) c.if-has_room.true
    c.has_room.ensures in
    omega (arith, fits, ap length c.kept.ensures)

pub returns-then-has_room : goal.returns-then-has_room
returns-then-has_room c =
    let x = c.args.image.now.compiled in
    let life = c.args.life.now in
    let can = c.requires.life in
    let fits = subst (λ (b : Bool). MatchBool b (length c.kept.result.now ≤ MOST_STEPS) (MOST_STEPS < length c.kept.result.now)) c.if-has_room.true
    c.has_room.ensures in
    let is = renewed_is x life can c.args.source.now in
    let few : sum_by length (schedules (steps_in life)) ≤ MOST_STEPS = omega (arith, fits, ap length c.kept.ensures, steps_counted_once x life can) in
    by_three c.renewed.result _ _ _ _
    (λ said done told read.
    renewed c.requires.settled few done (told ∙ ap (spelling Third) is) (subst (λ (o : Contents). IsReadAs Third o said.output.items) is read))
    c.renewed.ensures.status c.renewed.ensures.output c.renewed.ensures.again

pub returns-else-has_room : goal.returns-else-has_room
returns-else-has_room c =
    let x = c.args.image.now.compiled in
    let life = c.args.life.now in
    let past = subst (λ (b : Bool). MatchBool b (length c.kept.result.now ≤ MOST_STEPS) (MOST_STEPS < length c.kept.result.now)) c.if-has_room.false
    c.has_room.ensures in
    let many : MOST_STEPS < sum_by length (schedules (steps_in life)) =
    omega (arith, past, ap length c.kept.ensures, steps_counted_once x life c.requires.life) in
    IfOk-weaker c.refused_at_step.result _ _ (λ said both. too_long c.requires.settled many both.0 both.1)
    (both_ok c.refused_at_step.result _ _ c.refused_at_step.ensures.status c.refused_at_step.ensures.output)
