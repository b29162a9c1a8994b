use Rattle.std.proofs.Common.{◌≡◌, ◌++◌, drop, map}
use Rattle.c_tree.specs.Values.{lock_number}
use Rattle.c_tree.specs.links.KnownNames.{names_of}
use Rattle.image_checks.specs.Logs.{names_at}
use Rattle.image_checks.proofs.keys.locks_of.Given as goal

abbrev pub invariant-loop-number : goal.invariant-loop-number
invariant-loop-number l =
    l.locks.items ++ map (lock_number l.locals) (names_at (names_of l.names) (drop l.number-index l.held))
    ≡ map (lock_number l.locals) (names_at (names_of l.names) l.held)
