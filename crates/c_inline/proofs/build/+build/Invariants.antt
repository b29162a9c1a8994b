use Rattle.std.proofs.Common.{◌≡◌, ◌+◌, ◌*◌, ◌≤◌, map, drop}
use Rattle.c_tree.specs.Programs.{function_of, statement_of, statements_of, arms_list_of}
use Rattle.c_tree.specs.Flats as f
use Rattle.c_tree.specs.Inlining as i
use Rattle.c_inline.specs.links.Weights as v
use Rattle.c_inline.specs.links.InlinedBodies.{locals_of, whole, after, begun_made, all_made, begun_work, all_work, function_work, statements_work}
use Rattle.c_inline.proofs.InlinedStatements.{after_arms}
use Rattle.c_inline.proofs.build.+build.Given as goal

abbrev pub decreases-make_arms : goal.decreases-make_arms
decreases-make_arms l = let fs = map function_of l.bodies.functions.now in 3 * v.arms_weight v.size 2 fs (function_work fs) (arms_list_of l.arms.now) + 2

abbrev pub decreases-make_body : goal.decreases-make_body
decreases-make_body l = 3 * begun_work l.bodies.functions.now l.begun + 1

abbrev pub decreases-make_step : goal.decreases-make_step
decreases-make_step l = 3 * begun_work l.bodies.functions.now l.begun

abbrev pub decreases-make_or_begin : goal.decreases-make_or_begin
decreases-make_or_begin l = let fs = map function_of l.bodies.functions.now in
    3 * v.statement_weight v.size 2 fs (function_work fs) (statement_of l.statement.now)

abbrev pub decreases-make_statement : goal.decreases-make_statement
decreases-make_statement l = let fs = map function_of l.bodies.functions.now in
    3 * v.statement_weight v.size 2 fs (function_work fs) (statement_of l.statement.now) + 1

abbrev pub decreases-make_statements : goal.decreases-make_statements
decreases-make_statements l = let fs = map function_of l.bodies.functions.now in 3 * statements_work fs (statements_of l.statements.now) + 2

abbrev pub invariant-make_arms-loop-arm : goal.invariant-make_arms-loop-arm
invariant-make_arms-loop-arm l =
    let fs = map function_of l.bodies.functions.now in
    (after_arms (f.arms_list_of l.made.items) (i.arms_of fs (whole fs) l.by (locals_of l.locals) (arms_list_of (drop l.arm-index l.arms)))
    ≡ i.arms_of fs (whole fs) l.by (locals_of l.fn.locals) (arms_list_of l.arms))
    × (v.arms_weight v.size 2 fs (function_work fs) (arms_list_of (drop l.arm-index l.arms))
    ≤ v.arms_weight v.size 2 fs (function_work fs) (arms_list_of l.arms))

abbrev pub invariant-make_statements-loop-statement : goal.invariant-make_statements-loop-statement
invariant-make_statements-loop-statement l =
    let fs = map function_of l.bodies.functions.now in
    (after (f.statements_of l.made.items) (i.statements fs (whole fs) l.by (locals_of l.locals) (statements_of (drop l.statement-index l.statements)))
    ≡ i.statements fs (whole fs) l.by (locals_of l.fn.locals) (statements_of l.statements))
    × (statements_work fs (statements_of (drop l.statement-index l.statements)) ≤ statements_work fs (statements_of l.statements))

abbrev pub invariant-make_body-loop-begun : goal.invariant-make_body-loop-begun
invariant-make_body-loop-begun l =
    (after (f.statements_of l.made.items) (all_made l.bodies.functions.now l.waiting.items (locals_of l.locals))
    ≡ after (f.statements_of l.fn.made.items) (begun_made l.bodies.functions.now l.fn.begun (locals_of l.fn.locals)))
    × (all_work l.bodies.functions.now l.waiting.items ≤ begun_work l.bodies.functions.now l.fn.begun)

abbrev pub decreases-make_body-loop-begun : goal.decreases-make_body-loop-begun
decreases-make_body-loop-begun l = all_work l.bodies.functions.now l.waiting.items
