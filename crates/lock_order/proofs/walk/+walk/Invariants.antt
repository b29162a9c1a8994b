use Rattle.std.proofs.Common.{◌≡◌, drop, map}
use Rattle.c_tree.specs.Flats.{statements_of, arms_list_of}
use Rattle.c_tree.specs.Programs.{mutex_of}
use Rattle.c_tree.specs.links.KnownNames.{names_of}
use Rattle.lock_order.specs.LockOrder.{walk_all, walk_arms}
use Rattle.lock_order.specs.links.Walks.{progress_of}
use Rattle.lock_order.proofs.walk.+walk.Given as goal

abbrev pub invariant-walk_statements-loop-statement : goal.invariant-walk_statements-loop-statement
invariant-walk_statements-loop-statement l =
    let ms = map mutex_of l.mutexes in
    let names = names_of l.names in
    walk_all ms names (progress_of l.initial.progress) (statements_of l.statements)
    ≡ walk_all ms names (progress_of l.progress) (statements_of (drop l.statement-index l.statements))

abbrev pub invariant-walk_arms-loop-arm : goal.invariant-walk_arms-loop-arm
invariant-walk_arms-loop-arm l =
    let ms = map mutex_of l.mutexes in
    let names = names_of l.names in
    walk_arms ms names (progress_of l.initial.progress) (arms_list_of l.arms)
    ≡ walk_arms ms names (progress_of l.progress) (arms_list_of (drop l.arm-index l.arms))
