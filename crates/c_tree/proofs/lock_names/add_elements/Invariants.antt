use Rattle.std.proofs.Common.{◌≡◌, ◌++◌, ◌==◌, filter, take}
use Rattle.c_tree.specs.Exprs as e
use Rattle.c_tree.specs.links.KnownNames.{names_of}
use Rattle.c_tree.proofs.lock_names.add_elements.Given as goal

abbrev pub invariant-loop-name : goal.invariant-loop-name
invariant-loop-name l = names_of l.names.items
    ≡ names_of l.initial.names.items ++ filter (λ (x : e.LockName). x.mutex == l.number) (names_of (take l.name-index l.known))
