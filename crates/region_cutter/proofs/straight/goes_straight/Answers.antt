use Rattle.std.proofs.Common.{◌+◌, arith}
use Rattle.flow_graph.specs.Nodes.{graph_of}
use Rattle.region_cutter.proofs.StraightCode.{straight_is, straight_not}
use Rattle.region_cutter.proofs.straight.goes_straight.Goals as goal

pub returns-then-is_plain : goal.returns-then-is_plain
returns-then-is_plain c =
    straight_is (graph_of c.args.graph.now) c.args.number (c.args.number + 1) c.is_entered_from.result (omega arith) (c.is_plain.ensures.0 c.if-is_plain.true)
    c.is_entered_from.ensures

pub returns-else-is_plain : goal.returns-else-is_plain
returns-else-is_plain c =
    straight_not (graph_of c.args.graph.now) c.args.number (c.args.number + 1) c.is_plain.result (omega arith) c.if-is_plain.false c.is_plain.ensures
