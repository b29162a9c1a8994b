use Rattle.std.proofs.Common.{◌≡◌, take}
use Rattle.c_tree.specs.Programs.{program_of}
use Rattle.c_ranges.specs.links.FirstUnfitIndex.{threads_indexes, first_fault}
use Rattle.c_ranges.proofs.indexes.of_threads.Given as goal

-- what was found in the threads before
abbrev pub invariant-loop-thread : goal.invariant-loop-thread
invariant-loop-thread l = l.first ≡ first_fault (program_of l.program) (threads_indexes (take l.thread-index l.threads))
