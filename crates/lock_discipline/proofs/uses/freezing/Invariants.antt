use Rattle.std.proofs.Common.{◌≡◌, ◌==◌, drop, find}
use Rattle.std.specs.List.{list_any}
use Rattle.c_tree.specs.Exprs.{LockName}
use Rattle.c_tree.specs.LockNames.{held_names}
use Rattle.c_tree.specs.LockDiscipline.{freezing, key_locals}
use Rattle.c_tree.specs.links.KnownNames.{names_of}
use Rattle.lock_discipline.proofs.uses.freezing.Given as goal

abbrev pub invariant-loop-number : goal.invariant-loop-number
invariant-loop-number l =
    freezing (names_of l.names) l.held l.local
    ≡ find (λ (x : LockName). list_any (λ other. other == l.local) (key_locals x)) (held_names (drop l.number (names_of l.names)) (drop l.number l.held))
