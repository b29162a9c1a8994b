use Rattle.std.proofs.Common.{◌≡◌, drop}
use Rattle.std.specs.List.{list_any}
use Rattle.c_tree.specs.Exprs.{lock_ref_of}
use Rattle.c_tree.specs.LockNames.{same_lock}
use Rattle.c_tree.specs.links.KnownNames.{names_of}
use Rattle.c_tree.proofs.lock_names.has.Given as goal

abbrev pub invariant-loop-name : goal.invariant-loop-name
invariant-loop-name l =
    list_any (same_lock (lock_ref_of l.lock)) (names_of l.names) ≡ list_any (same_lock (lock_ref_of l.lock)) (names_of (drop l.name-index l.names))
