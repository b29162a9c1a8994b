use Rattle.std.proofs.Common.{arith}
use Rattle.reg_colour.proofs.AssigningNodes.{assigned, assigns_none, no_node}
use Rattle.reg_colour.proofs.intervals.is_assigned.Goals as goal

pub returns-in-Some : goal.returns-in-Some
returns-in-Some c =
    assigned c.args.graph.now c.args.node c.args.local c.in-Some.assigned c.index.result.now
    (omega (arith, c.if-node-len.true, c.len.ensures, c.args.graph.now.nodes.ok.0)) c.index.ensures c.in-Some.is

pub returns-in-None : goal.returns-in-None
returns-in-None c =
    assigns_none c.args.graph.now c.args.node c.args.local c.index.result.now
    (omega (arith, c.if-node-len.true, c.len.ensures, c.args.graph.now.nodes.ok.0)) c.index.ensures c.in-None.is

pub returns-else-node-len : goal.returns-else-node-len
returns-else-node-len c = no_node c.args.graph.now c.args.node c.args.local (omega (arith, c.if-node-len.false, c.len.ensures, c.args.graph.now.nodes.ok.0))
