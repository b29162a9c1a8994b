use Rattle.std.proofs.Common.{◌≡◌, ◌++◌, drop, map}
use Rattle.c_tree.specs.LockNames.{names_from}
use Rattle.c_tree.specs.Programs.{mutex_of}
use Rattle.c_tree.specs.links.KnownNames.{names_of}
use Rattle.c_tree.proofs.lock_names.lock_names.Given as goal

abbrev pub invariant-loop-index : goal.invariant-loop-index
invariant-loop-index l = names_of l.names.items ++ names_from l.index (map mutex_of (drop l.index l.mutexes)) (names_of l.known.items)
    ≡ names_from 0 (map mutex_of l.mutexes) (names_of l.known.items)
