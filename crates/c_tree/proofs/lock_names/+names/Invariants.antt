use Rattle.std.proofs.Common.{◌≡◌, ◌++◌, List, drop}
use Rattle.c_tree.specs.Exprs.{LockName}
use Rattle.c_tree.specs.Flats.{statements_of, arms_list_of}
use Rattle.c_tree.specs.LockNames.{locks_in_all, locks_in_arms}
use Rattle.c_tree.specs.links.KnownNames.{names_of, known_then}
use Rattle.c_tree.proofs.lock_names.+names.Given as goal

abbrev pub invariant-add_statements-loop-statement : goal.invariant-add_statements-loop-statement
invariant-add_statements-loop-statement l = (rest : List LockName) →
    known_then (names_of l.names.items) (locks_in_all (statements_of (drop l.statement-index l.statements)) ++ rest)
    ≡ known_then (names_of l.initial.names.items) (locks_in_all (statements_of l.statements) ++ rest)

abbrev pub invariant-add_arms-loop-arm : goal.invariant-add_arms-loop-arm
invariant-add_arms-loop-arm l = (rest : List LockName) →
    known_then (names_of l.names.items) (locks_in_arms (arms_list_of (drop l.arm-index l.arms)) ++ rest)
    ≡ known_then (names_of l.initial.names.items) (locks_in_arms (arms_list_of l.arms) ++ rest)
