use Rattle.std.proofs.Common.{◌≡◌, map, take}
use Rattle.c_tree.specs.Flats.{thread_of}
use Rattle.c_temporaries.specs.links.FirstDeepExpression.{first_deep, threads_exprs}
use Rattle.c_temporaries.proofs.temporaries.of_threads.Given as goal

-- what was found in the threads before
abbrev pub invariant-loop-thread : goal.invariant-loop-thread
invariant-loop-thread l = l.first ≡ first_deep (threads_exprs (map thread_of (take l.thread-index l.threads)))
