use Rattle.std.proofs.Common.{◌<◌, arith}
use Rattle.std.proofs.lemmas.List.{get_or_default}
use Rattle.flow_live.proofs.reading.greatest.Goals as goal

pub returns-clause-to : goal.returns-clause-to
returns-clause-to c local k =
    let within : k.0 < c.loop-local.local-index = omega (arith, k.1, c.loop-local-test.false) in
    omega (arith, c.loop-local.invariant.1 k.0 within, get_or_default c.args.locals.now k.0 0 local k.1, k.2)
