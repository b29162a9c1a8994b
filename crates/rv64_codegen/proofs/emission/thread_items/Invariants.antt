use Rattle.rv64_codegen.proofs.JoinedPieces.{Begun}
use Rattle.rv64_codegen.proofs.emission.thread_items.Given as goal

abbrev pub invariant-loop-node : goal.invariant-loop-node
invariant-loop-node l = Begun l.thread l.node l.items.items
