use Rattle.std.proofs.Common.{◌≤◌, length, arith}
use Rattle.flow_graph.specs.Nodes.{graph_of}
use Rattle.region_cutter.proofs.EachWrite.{added_thread, added_threads}
use Rattle.region_cutter.proofs.records.add_assignments.Goals as goal

pub loop-thread-preserved : goal.loop-thread-preserved
loop-thread-preserved c =
    added_thread (graph_of c.args.graph.now) c.args.held.now c.loop-thread.thread c.args.before.now.items c.loop-thread.before.items
    c.add_of_thread.new.before.items c.loop-thread.invariant c.add_of_thread.ensures

pub returns : goal.returns
returns c =
    let g = graph_of c.args.graph.now in
    let past : length g.threads ≤ c.loop-thread.thread =
    omega (arith, c.loop-thread-test.false, c.len-thread-end.ensures, c.args.graph.now.threads.ok.0) in
    added_threads g c.args.held.now c.loop-thread.thread past c.args.before.now.items c.loop-thread.before.items c.loop-thread.invariant
