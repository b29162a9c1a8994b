use Rattle.std.proofs.Common.{◌≡◌, ◌<◌, ◌≤◌, ◌∙◌, List, length, get_or, ap, ap₂, arith}
use Rattle.c_tree.specs.Flats.{flat_of}
use Rattle.c_tree.specs.declared.flat.Thread.{Thread}
use Rattle.flow_graph.specs.Lowering.{lowered}
use Rattle.flow_lower.proofs.AddedNodes as g
use Rattle.flow_lower.proofs.lowering.lower.Goals as goal

pub loop-thread-preserved : goal.loop-thread-preserved
loop-thread-preserved c =
    let xs = c.args.flat.now.threads.items in
    let i = c.loop-thread.thread-index in
    let x = c.thread-item.result in
    let same : c.deref-thread-items.result.now ≡ xs = c.deref-thread-items.ensures.value in
    let lt : i < length xs = omega (arith, c.loop-thread-test.true, ap length same) in
    g.next_thread (flat_of c.args.flat.now) c.loop-thread.nodes.items c.lower_thread.new.nodes.items c.loop-thread.threads.items c.push.new.self.items xs i x
    c.in_ok-lower_thread.field-0 lt
    (c.thread-item.is ∙ ap (λ (ys : List Thread). get_or ys i x) same) c.loop-thread.invariant c.in_ok-lower_thread.ensures.nodes
    c.in_ok-lower_thread.ensures.part c.in_ok-push.ensures.items

pub returns : goal.returns
unfolding lowered
returns c =
    let xs = c.args.flat.now.threads.items in
    let le : length xs ≤ c.loop-thread.thread-index = omega (arith, c.loop-thread-test.false, ap length c.deref-thread-items.ensures.value) in
    let h = g.no_thread_left (flat_of c.args.flat.now) c.loop-thread.nodes.items c.loop-thread.threads.items xs c.loop-thread.thread-index le
    c.loop-thread.invariant in
    ap₂ g.graph_from h.0 h.1
