use Rattle.std.proofs.Common.{arith}
use Rattle.region_cutter.proofs.FewestRegions.{above_first}
use Rattle.region_cutter.proofs.fewest_cuts.next_cut.Goals as goal

pub loop-cut-init : goal.loop-cut-init
loop-cut-init c =
    above_first c.args.first c.args.past c.args.from c.args.limits.now c.args.counts.now
    (c.requires.counts.leads c.args.from c.requires.from_first c.requires.before)

pub overflow_sub-wanted-2 : goal.overflow_sub-wanted-2
overflow_sub-wanted-2 c =
    let l = c.requires.counts.leads c.args.from c.requires.from_first c.requires.before in
    let count = l.count in
    omega (arith, count)
