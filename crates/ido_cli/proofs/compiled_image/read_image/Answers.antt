use Rattle.std.proofs.lemmas.Result.{err_from_is_err_and}
use Rattle.ido_cli.proofs.compiled_image.read_image.Goals as goal

pub returns-in_err-begun : goal.returns-in_err-begun
returns-in_err-begun c =
    let p = err_from_is_err_and c.from_residual.result c.from_residual.ensures.1 in
    rw (p.1, p.2) c.in_err-begun.ensures.answer

pub finish-requires-clause-begun : goal.finish-requires-clause-begun
finish-requires-clause-begun c = (c.args.newest, c.in_ok-begun.ensures)

pub returns : goal.returns
returns c = c.finish.ensures c.args.newest c.in_ok-begun.ensures
