use Rattle.std.proofs.Common.{◌≡◌, map}
use Rattle.c_tree.specs.Exprs.{lock_ref_of}
use Rattle.c_tree.specs.Programs.{mutex_of}
use Rattle.c_tree.specs.links.KnownNames.{names_of}
use Rattle.lock_order.specs.LockOrder.{is_blocked, is_in_way}
use Rattle.lock_order.proofs.Walks.{any_from}
use Rattle.lock_order.proofs.walk.is_blocked.Given as goal

abbrev pub invariant-loop-number : goal.invariant-loop-number
invariant-loop-number l =
    let ms = map mutex_of l.mutexes in
    let wanted = lock_ref_of l.wanted in
    is_blocked ms (names_of l.names) l.held wanted ≡ any_from (is_in_way ms wanted) l.names l.held l.number
