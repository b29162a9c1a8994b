use Rattle.std.proofs.Common.{◌≡◌, ◌<◌, Some, length, refl, arith}
use Rattle.std.specs.Prelude.{slice_get}
use Rattle.std.proofs.lemmas.Option.{slice_get_read, slice_get_within}
use Rattle.flow_live.proofs.ReadSets.{up_to_more}
use Rattle.flow_live.proofs.reading.greatest_read.Goals as goal

pub loop-node-preserved : goal.loop-node-preserved
loop-node-preserved c =
    let nodes = c.args.nodes.now in
    let i = c.loop-node.node-index in
    let y = c.node-item.result in
    let lt : i < length nodes = omega (arith, c.loop-node-test.true) in
    let here : slice_get nodes i ≡ Some y = slice_get_read nodes (length nodes) i y refl lt c.node-item.is in
    up_to_more nodes i y c.deref.result.now c.loop-node.most c.greatest-most.result here c.deref.ensures.value c.greatest-most.ensures.from
    c.greatest-most.ensures.to c.loop-node.invariant

pub returns : goal.returns
returns c = record {
  each = λ n local x at k. c.loop-node.invariant n local x (omega (arith, slice_get_within c.args.nodes.now n x at, c.loop-node-test.false)) at k;
}
