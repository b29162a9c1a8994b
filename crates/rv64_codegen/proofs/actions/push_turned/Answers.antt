use Rattle.std.proofs.Common.{◌+◌}
use Rattle.std.proofs.lemmas.Result.{on_ok_weaker}
use Rattle.c_tree.specs.Exprs.{placed_of}
use Rattle.flow_graph.specs.Nodes.{Test}
use Rattle.rv64_codegen.proofs.AppendedParts.{turned_done}
use Rattle.rv64_codegen.proofs.NodePieces.{formed_at, few_at, cheap_at}
use Rattle.rv64_codegen.proofs.actions.push_turned.Goals as goal

pub label-to-requires : goal.label-to-requires
label-to-requires c =
    (formed_at c.args.thread.now c.args.node (Test (placed_of c.args.condition.now) (c.args.node + 1) c.args.fails) c.requires).1.1

pub push_test-requires-clause-home : goal.push_test-requires-clause-home
push_test-requires-clause-home c =
    (formed_at c.args.thread.now c.args.node (Test (placed_of c.args.condition.now) (c.args.node + 1) c.args.fails) c.requires).0

pub push_test-requires-clause-need : goal.push_test-requires-clause-need
push_test-requires-clause-need c = (few_at c.args.thread.now c.args.node (Test (placed_of c.args.condition.now) (c.args.node + 1) c.args.fails) c.requires).0

pub push_test-requires-clause-price : goal.push_test-requires-clause-price
push_test-requires-clause-price c =
    cheap_at c.args.thread.now c.args.node (Test (placed_of c.args.condition.now) (c.args.node + 1) c.args.fails) c.requires

pub returns : goal.returns
returns c =
    on_ok_weaker c.push_test.result
    (λ is. turned_done c.args.thread.now c.args.node (placed_of c.args.condition.now) c.args.fails c.label-to.result.0 _ _ c.requires c.label-to.ensures is)
    c.push_test.ensures
