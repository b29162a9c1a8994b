use Rattle.std.proofs.Common.{◌≡◌, ◌<◌, true, None, length, get_or, arith}
use Rattle.std.proofs.lemmas.Option.{slice_get-get_or}
use Rattle.reg_colour.proofs.IntervalCounts.{counted_more, counted_same, all_counted}
use Rattle.reg_colour.proofs.intervals.holding.Goals as goal
use Rattle.reg_colour.proofs.intervals.holding.Goals.{then-is_in, else-is_in}

pub loop-interval-preserved : goal.loop-interval-preserved
loop-interval-preserved c =
    let xs = c.args.intervals.now in
    let i = c.loop-interval.interval-index in
    let lt : i < length xs = omega (arith, c.loop-interval-test.true) in
    elim c.if-is_in.branch [
      | then-is_in w ↦
          counted_more xs c.args.node i c.loop-interval.count c.if-is_in.count (get_or xs i None) (slice_get-get_or xs i None lt)
          (c.is_in.ensures.0 w.if-is_in.true)
          c.loop-interval.invariant w.count-is
      | else-is_in w ↦
          counted_same xs c.args.node i c.loop-interval.count c.if-is_in.count (get_or xs i None) (slice_get-get_or xs i None lt)
          (λ h. (let yes : c.is_in.result ≡ true = c.is_in.ensures.1 h in let no = w.if-is_in.false in cc)) c.loop-interval.invariant w.count-is
    ]

pub returns : goal.returns
returns c =
    all_counted c.args.intervals.now c.args.node c.loop-interval.interval-index c.loop-interval.count
    (omega (arith, c.loop-interval-test.false)) c.loop-interval.invariant
