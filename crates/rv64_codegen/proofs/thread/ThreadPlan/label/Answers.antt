use Rattle.std.proofs.Common.{arith}
use Rattle.rv64_codegen.proofs.NodePieces.{label_at}
use Rattle.rv64_codegen.proofs.thread.ThreadPlan.label.Goals as goal

pub overflow_cast-result : goal.overflow_cast-result
overflow_cast-result c = omega (arith, label_at c.args.self.now c.args.node c.requires)
