use Rattle.std.proofs.Common.{◌*◌, List, ℕ, ap, length, map, arith}
use Rattle.std.specs.Prelude.{Vec, sum_by}
use Rattle.std.specs.Global.{Global}
use Rattle.std.proofs.lemmas.List.{length-replicate}
use Rattle.run_scripts.specs.links.ReportViews.{steps_of}
use Rattle.ido_cli.proofs.SameContents.{as_many_steps, one_schedule}
use Rattle.ido_cli.proofs.upgrade.renewed.Goals as goal

pub write_image-requires-clause-logs : goal.write_image-requires-clause-logs
write_image-requires-clause-logs c =
    omega (
      arith,
      ap length c.in_ok-logs.ensures,
      length-replicate {A = ℕ} (256 * c.harts.result) 0,
      ap length c.deref-2.ensures.value,
      c.harts.ensures,
      c.requires.harts,
    )

pub write_image-requires-clause-lives : goal.write_image-requires-clause-lives
write_image-requires-clause-lives c =
    let one = one_schedule c.in_ok-schedules.schedules.items c.kept.result.now c.in_ok-schedules.ensures in
    (omega (arith, one, ap length c.deref-3.ensures.value), omega (arith, one, ap length c.deref-3.ensures.value))

pub write_image-requires-clause-few : goal.write_image-requires-clause-few
write_image-requires-clause-few c =
    omega (arith, one_schedule c.in_ok-schedules.schedules.items c.kept.result.now c.in_ok-schedules.ensures, ap length c.deref-3.ensures.value)

pub write_image-requires-clause-steps : goal.write_image-requires-clause-steps
write_image-requires-clause-steps c =
    omega (
      arith,
      as_many_steps c.in_ok-schedules.schedules.items c.kept.result.now c.in_ok-schedules.ensures,
      ap (λ (schedules : List (Vec ℕ Global)). sum_by length (map steps_of schedules)) c.deref-3.ensures.value,
      ap length c.kept.ensures,
      c.requires.schedule,
    )
