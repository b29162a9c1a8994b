use Rattle.std.proofs.Common.{List, ℕ, ap, length, map, arith}
use Rattle.std.specs.Prelude.{Vec, sum_by}
use Rattle.std.specs.Global.{Global}
use Rattle.run_scripts.specs.links.ReportViews.{steps_of}
use Rattle.run_tracker.specs.ObjectLives.{steps_in}
use Rattle.ido_cli.proofs.SameContents.{as_many_lives, some_life}
use Rattle.ido_cli.proofs.image.image.Goals as goal

pub write_image-requires-clause-lives : goal.write_image-requires-clause-lives
write_image-requires-clause-lives c =
    let kept = c.in_ok-kept.kept.items in
    let s = steps_in c.args.life.now in
    c.requires.tells (length c.deref-2.result.now) (
      omega (arith, some_life kept s c.in_ok-kept.ensures, ap length c.deref-2.ensures.value),
      omega (arith, as_many_lives kept s c.in_ok-kept.ensures, ap length c.deref-2.ensures.value, c.requires.lives),
    )

pub write_image-requires-clause-few : goal.write_image-requires-clause-few
write_image-requires-clause-few c =
    omega (
      arith,
      as_many_lives c.in_ok-kept.kept.items (steps_in c.args.life.now) c.in_ok-kept.ensures,
      ap length c.deref-2.ensures.value,
      c.requires.lives,
    )

pub write_image-requires-clause-steps : goal.write_image-requires-clause-steps
write_image-requires-clause-steps c =
    omega (
      arith,
      ap (sum_by length) c.in_ok-kept.ensures,
      ap (λ (schedules : List (Vec ℕ Global)). sum_by length (map steps_of schedules)) c.deref-2.ensures.value,
      c.requires.steps,
    )
