use Rattle.std.proofs.Common.{arith}
use Rattle.reg_colour.proofs.Clashes.{one_first, all_first}
use Rattle.reg_colour.proofs.checking.first_in.Goals as goal

pub loop-a-preserved : goal.loop-a-preserved
loop-a-preserved c =
    one_first c.args.intervals.now c.args.registers.now c.loop-a.a c.loop-a.found c.first_of.result c.earlier-found.result c.loop-a.invariant c.first_of.ensures
    c.earlier-found.ensures

pub returns : goal.returns
returns c = all_first c.args.intervals.now c.args.registers.now c.loop-a.a c.loop-a.found (omega (arith, c.loop-a-test.false)) c.loop-a.invariant
