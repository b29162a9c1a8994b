use Rattle.std.proofs.Common.{◌≡◌, ◌++◌, true, drop}
use Rattle.c_tree.specs.Flats.{statements_of, arms_list_of}
use Rattle.c_ranges.specs.KnownAtSteps.{knowns_in_all, knowns_in_arms}
use Rattle.flat_compile.specs.links.KnownLists.{known_lists}
use Rattle.flat_compile.proofs.knowns.+walk.Given as goal

abbrev pub invariant-add_statements-loop-statement : goal.invariant-add_statements-loop-statement
invariant-add_statements-loop-statement l =
    known_lists l.steps.items ++ knowns_in_all l.known (statements_of (drop l.statement-index l.statements))
    ≡ known_lists l.initial.steps.items ++ knowns_in_all l.known (statements_of l.statements)

-- whether the first arm is still to come
abbrev pub invariant-add_arms-loop-arm : goal.invariant-add_arms-loop-arm
invariant-add_arms-loop-arm l =
    known_lists l.steps.items ++ knowns_in_arms l.known l.first (arms_list_of (drop l.arm-index l.arms))
    ≡ known_lists l.initial.steps.items ++ knowns_in_arms l.known true (arms_list_of l.arms)
