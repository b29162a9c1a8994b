use Rattle.std.proofs.Common.{arith}
use Rattle.flow_graph.specs.IdempotentCuts.{boundaries_of}
use Rattle.flow_graph.specs.Nodes.{graph_of}
use Rattle.region_checker.proofs.Nodes.{began_none, began_more, began_all}
use Rattle.region_checker.proofs.paths.mark_begins.Goals as goal

pub loop-number-init : goal.loop-number-init
loop-number-init c = began_none c.args.graph.now (boundaries_of c.args.cuts.now) c.args.begins.now c.requires.long c.requires.none

pub loop-number-preserved : goal.loop-number-preserved
loop-number-preserved c =
    began_more (graph_of c.args.graph.now) (boundaries_of c.args.cuts.now) c.loop-number.number c.begun_before.result c.begun_after.result c.loop-number.begins
    c.mark.new.marks c.mark-in-loop-number.new.marks
    c.mark.result c.mark-in-loop-number.result (record { is_before = c.begun_before.ensures; is_after = c.begun_after.ensures }) c.mark.ensures
    c.mark-in-loop-number.ensures c.loop-number.invariant

pub returns : goal.returns
returns c =
    began_all c.args.graph.now (boundaries_of c.args.cuts.now) c.loop-number.number c.loop-number.begins
    (omega (arith, c.loop-number-test.false, c.len-number-end.ensures, c.args.graph.now.nodes.ok.0)) c.loop-number.invariant
