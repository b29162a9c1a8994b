use Rattle.std.proofs.Common.{◌<◌, length, arith}
use Rattle.std.proofs.lemmas.Option.{slice_get-get_or}
use Rattle.region_checker.proofs.CollectedLocations.{added_next, at_contains}
use Rattle.region_checker.proofs.locations.add_read.Goals as goal

pub loop-read-init : goal.loop-read-init
loop-read-init c = record { keeps = λ x k. k; adds = λ k x lt. absurd (omega (arith, lt)) }

pub loop-read-preserved : goal.loop-read-preserved
loop-read-preserved c =
    let reads = c.args.reads.now in
    let i = c.loop-read.read-index in
    let lt : i < length reads = omega (arith, c.loop-read-test.true) in
    added_next c.args.locations.now.items reads c.loop-read.locations.items c.add.new.locations.items i _ (slice_get-get_or reads i _ lt) c.in_ok-add.ensures
    c.loop-read.invariant

pub returns-clause-adds : goal.returns-clause-adds
returns-clause-adds c x k = c.loop-read.invariant.adds k.0 x (omega (arith, k.1, c.loop-read-test.false)) (at_contains c.args.reads.now x k)
