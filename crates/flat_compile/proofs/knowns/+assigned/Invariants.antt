use Rattle.std.proofs.Common.{◌≡◌, ◌++◌, drop}
use Rattle.c_tree.specs.NullReferences.{flat_statements_assigned, flat_arms_assigned}
use Rattle.c_tree.specs.Flats.{statements_of, arms_list_of}
use Rattle.flat_compile.proofs.knowns.+assigned.Given as goal

abbrev pub invariant-add_arms_assigned-loop-arm : goal.invariant-add_arms_assigned-loop-arm
invariant-add_arms_assigned-loop-arm l =
    l.locals.items ++ flat_arms_assigned (arms_list_of (drop l.arm-index l.arms)) ≡ l.initial.locals.items ++ flat_arms_assigned (arms_list_of l.arms)

abbrev pub invariant-add_all_assigned-loop-statement : goal.invariant-add_all_assigned-loop-statement
invariant-add_all_assigned-loop-statement l =
    l.locals.items ++ flat_statements_assigned (statements_of (drop l.statement-index l.statements))
    ≡ l.initial.locals.items ++ flat_statements_assigned (statements_of l.statements)
