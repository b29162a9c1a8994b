use Rattle.std.proofs.Common.{length}
use Rattle.flow_live.proofs.LivenessFixpoint.{pass_second}
use Rattle.flow_live.proofs.passes.add_both_ways.Goals as goal

pub returns-else-backwards-clause-passes : goal.returns-else-backwards-clause-passes
returns-else-backwards-clause-passes c =
    pass_second c.args.nodes.now 0 (length c.args.nodes.now) c.args.sets.now c.add_backwards-backwards.new.sets c.add_forwards-forwards.new.sets
    c.add_backwards-backwards.result c.add_forwards-forwards.result
    c.if-backwards.false c.add_backwards-backwards.ensures.passes c.add_forwards-forwards.ensures.passes
