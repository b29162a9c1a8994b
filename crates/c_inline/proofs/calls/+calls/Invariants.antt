use Rattle.std.proofs.Common.{◌≡◌, ◌++◌, drop}
use Rattle.c_tree.specs.Inlining.{statements_calls, arms_calls}
use Rattle.c_tree.specs.Programs.{statements_of, arms_list_of}
use Rattle.c_inline.specs.links.Calls.{calls_of}
use Rattle.c_inline.proofs.calls.+calls.Given as goal

abbrev pub invariant-add_arms-loop-arm : goal.invariant-add_arms-loop-arm
invariant-add_arms-loop-arm l =
    calls_of l.calls.items ++ arms_calls (arms_list_of (drop l.arm-index l.arms)) ≡ calls_of l.initial.calls.items ++ arms_calls (arms_list_of l.arms)

abbrev pub invariant-add_statements-loop-statement : goal.invariant-add_statements-loop-statement
invariant-add_statements-loop-statement l =
    calls_of l.calls.items ++ statements_calls (statements_of (drop l.statement-index l.statements))
    ≡ calls_of l.initial.calls.items ++ statements_calls (statements_of l.statements)
