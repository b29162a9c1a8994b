use Rattle.std.proofs.Common.{List, ℕ, ap, map, length, arith}
use Rattle.std.specs.Prelude.{Vec}
use Rattle.std.specs.Global.{Global}
use Rattle.std.proofs.lemmas.Result.{IfOk-weaker}
use Rattle.ido_compile.specs.CompileAnswers.{translation_in}
use Rattle.run_tracker.specs.links.EarlierLives.{schedule_in}
use Rattle.ido_cli.specs.Answers.{file_in}
use Rattle.ido_cli.proofs.RecoveredLives.{can_renew, upgrade}
use Rattle.ido_cli.proofs.upgrade.upgraded.Goals as goal

pub recovered_life-requires-clause-lives : goal.recovered_life-requires-clause-lives
recovered_life-requires-clause-lives g c κs within = omega (arith, ap length c.requires.alone)

pub life_said-requires-clause-life : goal.life_said-requires-clause-life
life_said-requires-clause-life g c =
    let image = c.args.older.now.image in
    can_renew image.compiled (file_in image) c.args.turns c.in_ok-life.life c.in_ok-life.ensures c.requires.translated
    (ap (λ (earlier : List (Vec ℕ Global)). map schedule_in earlier) c.requires.alone)

pub returns : goal.returns
returns g c =
    let image = c.args.older.now.image in
    IfOk-weaker c.life_said.result _ _
    (λ said told.
    upgrade (translation_in image.compiled) (file_in image) c.args.turns c.in_ok-life.life c.in_ok-life.ensures c.images_are_crashes.ensures
    c.requires.compilation c.args.older.now.source.now said.status said.output.items told)
    c.life_said.ensures
