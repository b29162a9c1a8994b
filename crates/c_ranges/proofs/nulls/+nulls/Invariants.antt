use Rattle.std.proofs.Common.{◌≡◌, ◌++◌, true, drop}
use Rattle.c_tree.specs.NullReferences.{statements_nulls, arms_nulls}
use Rattle.c_tree.specs.Programs.{statements_of, arms_list_of}
use Rattle.c_ranges.proofs.nulls.+nulls.Given as goal

abbrev pub invariant-add_statements-loop-statement : goal.invariant-add_statements-loop-statement
invariant-add_statements-loop-statement l =
    l.places.items ++ statements_nulls l.known (statements_of (drop l.statement-index l.statements))
    ≡ l.initial.places.items ++ statements_nulls l.known (statements_of l.statements)

-- whether the first arm is still to come
abbrev pub invariant-add_arms-loop-arm : goal.invariant-add_arms-loop-arm
invariant-add_arms-loop-arm l =
    l.places.items ++ arms_nulls l.known l.first (arms_list_of (drop l.arm-index l.arms))
    ≡ l.initial.places.items ++ arms_nulls l.known true (arms_list_of l.arms)
