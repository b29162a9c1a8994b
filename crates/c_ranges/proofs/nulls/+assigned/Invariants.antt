use Rattle.std.proofs.Common.{◌≡◌, ◌++◌, drop}
use Rattle.c_tree.specs.NullReferences.{statements_assigned, arms_assigned}
use Rattle.c_tree.specs.Programs.{statements_of, arms_list_of}
use Rattle.c_ranges.proofs.nulls.+assigned.Given as goal

abbrev pub invariant-add_arms_assigned-loop-arm : goal.invariant-add_arms_assigned-loop-arm
invariant-add_arms_assigned-loop-arm l =
    l.locals.items ++ arms_assigned (arms_list_of (drop l.arm-index l.arms)) ≡ l.initial.locals.items ++ arms_assigned (arms_list_of l.arms)

abbrev pub invariant-add_all_assigned-loop-statement : goal.invariant-add_all_assigned-loop-statement
invariant-add_all_assigned-loop-statement l =
    l.locals.items ++ statements_assigned (statements_of (drop l.statement-index l.statements))
    ≡ l.initial.locals.items ++ statements_assigned (statements_of l.statements)
