use Rattle.std.proofs.Common.{drop, map}
use Rattle.c_tree.specs.Flats.{thread_of, flat_of}
use Rattle.flow_lower.proofs.AddedNodes.{ThreadsLeft}
use Rattle.flow_lower.proofs.lowering.lower.Given as goal

abbrev pub invariant-loop-thread : goal.invariant-loop-thread
invariant-loop-thread l =
    ThreadsLeft (flat_of l.flat) l.nodes.items l.threads.items (map thread_of l.flat.threads.items) (map thread_of (drop l.thread-index l.flat.threads.items))
