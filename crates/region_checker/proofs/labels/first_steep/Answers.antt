use Rattle.std.proofs.Common.{◌≡◌, true, arith}
use Rattle.region_checker.proofs.SteepRegions.{level_none, level_more, first_here}
use Rattle.region_checker.proofs.labels.first_steep.Goals as goal

pub loop-before-init : goal.loop-before-init
loop-before-init c = λ to le. level_none c.args.first c.args.labels.now c.args.from c.args.limit to le

pub loop-before-preserved : goal.loop-before-preserved
loop-before-preserved c =
    level_more c.args.first c.args.labels.now c.args.from c.args.limit c.loop-before.before c.loop-before.invariant
    (λ s. let e : c.is_steep.result ≡ true = c.is_steep.ensures.1 s in cc (c.if-is_steep.false))

pub returns-then-is_steep : goal.returns-then-is_steep
returns-then-is_steep c =
    first_here c.args.first c.args.labels.now c.args.from c.args.limit c.loop-before.before (omega arith) c.loop-before-test.true c.loop-before.invariant
    (c.is_steep.ensures.0 c.if-is_steep.true)
