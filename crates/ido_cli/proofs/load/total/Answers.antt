use Rattle.std.proofs.Common.{arith}
use Rattle.std.specs.Int.{w128}
use Rattle.std.specs.Prelude.{pos, slice_index_or}
use Rattle.std.proofs.lemmas.Int.{ints, to_z-of_z}
use Rattle.ido_cli.proofs.Totals.{small_fits, sums_more}
use Rattle.ido_cli.proofs.load.total.Goals as goal

pub loop-number-preserved : goal.loop-number-preserved
loop-number-preserved c =
    let i = c.loop-number.number-index in
    let xs = c.args.numbers.now in
    let inv = c.loop-number.invariant in
    let z = c.plus-sum.result in
    let small = c.requires.small i (pos 0) c.loop-number-test.true in
    let same = to_z-of_z w128 z c.plus-sum.ensures.fits in
    let own = to_z-of_z w128 (slice_index_or xs i (pos 0)) (small_fits (slice_index_or xs i (pos 0)) small) in
    let more = sums_more xs i _ c.loop-number-test.true inv.so_far in
    record {
      so_far = omega (arith, ints, same, c.plus-sum.ensures.sum, own, more);
      above = omega (arith, ints, same, c.plus-sum.ensures.sum, own, inv.above, small.0);
      below = omega (arith, ints, same, c.plus-sum.ensures.sum, own, inv.below, small.1);
    }
