use Rattle.std.proofs.lemmas.Result.{err_from_is_err_and}
use Rattle.ido_cli.specs.Upgrades.{faulty}
use Rattle.ido_cli.proofs.UpgradedImages.{anew_fault, first_fault, older_image, taken_anew}
use Rattle.ido_cli.proofs.upgrade.read_older.Goals as goal
use Rattle.crash_images.specs.declared.version.ImageVersion.TheVariants.{Second}

pub returns-in_err-begun : goal.returns-in_err-begun
returns-in_err-begun c =
    let p = err_from_is_err_and c.from_residual.result c.from_residual.ensures.1 in
    rw (p.1, p.2) (first_fault c.args.bytes.now _ c.in_err-begun.ensures)

pub accept_anew-requires : goal.accept_anew-requires
accept_anew-requires c = c.in_ok-begun.ensures.short

pub returns-in_err-accept_anew : goal.returns-in_err-accept_anew
returns-in_err-accept_anew c =
    let p = err_from_is_err_and c.from_residual-in_err-accept_anew.result c.from_residual-in_err-accept_anew.ensures.1 in
    rw (p.1, p.2) (anew_fault c.args.bytes.now c.in_ok-begun.begun c.in_ok-begun.ensures _ c.in_err-accept_anew.ensures)

pub finish-requires-clause-begun : goal.finish-requires-clause-begun
finish-requires-clause-begun c = (Second, c.in_ok-begun.ensures)

pub returns-in_err-image : goal.returns-in_err-image
returns-in_err-image c =
    let p = err_from_is_err_and c.from_residual-in_err-image.result c.from_residual-in_err-image.ensures.1 in
    let anew = c.in_ok-accept_anew.ensures in
    rw (p.1, p.2)
    (faulty _ (c.in_err-image.ensures Second c.in_ok-begun.ensures)
    (taken_anew c.args.bytes.now c.in_ok-begun.begun c.in_ok-begun.ensures c.one_verdict.ensures.not_both anew.0 anew.1))

pub returns : goal.returns
returns c =
    let accepted = c.in_ok-accept_anew.ensures in (
      older_image c.args.bytes.now c.in_ok-begun.begun c.in_ok-begun.ensures accepted.0 accepted.1 c.in_ok-image.image
          (c.in_ok-image.ensures Second c.in_ok-begun.ensures),
      c.in_ok-begun.ensures.short,
    )
