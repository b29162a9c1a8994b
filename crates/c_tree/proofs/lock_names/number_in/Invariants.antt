use Rattle.std.proofs.Common.{◌≡◌, ◌+◌, drop}
use Rattle.c_tree.specs.Exprs.{lock_ref_of}
use Rattle.c_tree.specs.LockNames.{number_in}
use Rattle.c_tree.specs.links.KnownNames.{names_of}
use Rattle.c_tree.proofs.lock_names.number_in.Given as goal

abbrev pub invariant-loop-number : goal.invariant-loop-number
invariant-loop-number l =
    number_in (names_of l.names) (lock_ref_of l.lock) ≡ l.number + number_in (names_of (drop l.number l.names)) (lock_ref_of l.lock)
