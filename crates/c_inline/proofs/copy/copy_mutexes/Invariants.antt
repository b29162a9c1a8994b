use Rattle.std.proofs.Common.{◌≡◌, map, take}
use Rattle.c_tree.specs.Programs.{mutex_of}
use Rattle.c_inline.proofs.copy.copy_mutexes.Given as goal

abbrev pub invariant-loop-mutex : goal.invariant-loop-mutex
invariant-loop-mutex l = map mutex_of l.copies.items ≡ map mutex_of (take l.mutex-index l.mutexes)
