use Rattle.std.proofs.Common.{◌≡◌, map, take}
use Rattle.c_tree.specs.Exprs.{lock_ref_of}
use Rattle.c_tree.specs.Programs.{mutex_of}
use Rattle.c_tree.specs.links.KnownNames.{names_of}
use Rattle.lock_order.specs.LockOrder.{last_in_way}
use Rattle.lock_order.proofs.walk.last_in_way.Given as goal

abbrev pub invariant-loop-one : goal.invariant-loop-one
invariant-loop-one l =
    l.last ≡ last_in_way (map mutex_of l.mutexes) (names_of l.names) l.held (lock_ref_of l.wanted) (take l.one-index l.met)
