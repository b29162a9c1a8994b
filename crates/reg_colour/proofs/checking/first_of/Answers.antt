use Rattle.std.proofs.Common.{arith}
use Rattle.reg_colour.proofs.Clashes.{one_below, all_below}
use Rattle.reg_colour.proofs.checking.first_of.Goals as goal

pub loop-b-preserved : goal.loop-b-preserved
loop-b-preserved c =
    one_below c.args.intervals.now c.args.registers.now c.args.a c.loop-b.b c.loop-b.found c.clash.result c.earlier-found.result c.loop-b.invariant
    c.clash.ensures
    c.earlier-found.ensures

pub returns : goal.returns
returns c = all_below c.args.intervals.now c.args.registers.now c.args.a c.loop-b.b c.loop-b.found (omega (arith, c.loop-b-test.false)) c.loop-b.invariant
