use Rattle.std.proofs.lemmas.Result.{err_from_is_err_and}
use Rattle.ido_cli.proofs.upgrade.accept_anew.Goals as goal

pub returns-in_err-compiled_source : goal.returns-in_err-compiled_source
returns-in_err-compiled_source c =
    let p = err_from_is_err_and c.from_residual.result c.from_residual.ensures.1 in
    rw (p.1, p.2) c.in_err-compiled_source.ensures

pub returns : goal.returns
returns c = (_, c.in_ok-compiled_source.ensures)
