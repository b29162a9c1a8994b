-- The indexes of a statement are those of its parts, in order.
use Rattle.std.proofs.Common.{refl, sym, ap, ap₂, ◌∙◌, ◌++◌, map, flat_map, List, arith}
use Rattle.std.specs.Option.{option_map}
use Rattle.c_tree.specs.Exprs.{placed_of, lvalue_of}
use Rattle.c_tree.specs.Programs as p
use Rattle.c_tree.specs.Ranges.{Index, placed_indexes, result_indexes, statement_indexes, statements_indexes, arms_indexes}
use Rattle.c_tree.specs.declared.expr.Placed.{Placed}
use Rattle.c_tree.specs.declared.program.Arm.{Arm}
use Rattle.c_tree.specs.declared.program.Statement.{Statement}
use Rattle.c_tree.proofs.Public.{program_rows_of_if as of_if, program_rows_of_while as of_while, program_rows_of_do as of_do}
use Rattle.c_ranges.specs.links.FirstUnfitIndex.{first_fault}
use Rattle.c_ranges.proofs.Faults.{joined, one_more, two_more}
use Rattle.c_ranges.proofs.indexes.+statements.Goals as goal

abbrev indexes_in : List Statement → List Index
indexes_in xs = statements_indexes (p.statements_of xs)

abbrev indexes_in_arms : List Arm → List Index
indexes_in_arms xs = arms_indexes (p.arms_list_of xs)

pub of_statement-returns-in-Assign : goal.of_statement-returns-in-Assign
of_statement-returns-in-Assign t c =
    let z = p.program_of c.args.program.now in
    joined z _ _ _ _ _ c.earlier.ensures c.of_target.ensures c.of_placed.ensures
    ∙ ap (λ (x : Statement). first_fault z (statement_indexes (p.statement_of x))) (sym c.in-Assign.is)

pub of_statement-returns-in-Call : goal.of_statement-returns-in-Call
of_statement-returns-in-Call t c =
    let z = p.program_of c.args.program.now in
    let w = c.in-Call in
    joined z _ _ _ _ _ c.earlier-in-Call.ensures c.of_arguments.ensures c.of_assigned.ensures
    ∙ ap (λ (xs : List Placed). first_fault z (flat_map placed_indexes (map placed_of xs) ++ result_indexes (option_map lvalue_of w.assigned)))
    c.deref.ensures.value
    ∙ ap (λ (x : Statement). first_fault z (statement_indexes (p.statement_of x))) (sym w.is)

pub of_statement-returns-in-If : goal.of_statement-returns-in-If
of_statement-returns-in-If t c =
    let z = p.program_of c.args.program.now in
    let w = c.in-If in
    joined z _ _ _ _ _ c.earlier-in-If.ensures c.of_arms.ensures c.of_statements.ensures
    ∙ ap₂ (λ xs ys. first_fault z (indexes_in_arms xs ++ indexes_in ys)) c.deref-in-If.ensures.value c.deref-in-If-2.ensures.value
    ∙ ap (λ x. first_fault z (statement_indexes x)) (sym (ap p.statement_of w.is ∙ of_if w.place w.arms w.otherwise))

pub of_statement-returns-in-While : goal.of_statement-returns-in-While
of_statement-returns-in-While t c =
    let z = p.program_of c.args.program.now in
    let w = c.in-While in
    joined z _ _ _ _ _ c.earlier-in-While.ensures c.of_placed-in-While.ensures c.of_statements-in-While.ensures
    ∙ ap (λ xs. first_fault z (placed_indexes (placed_of w.condition) ++ indexes_in xs)) c.deref-in-While.ensures.value
    ∙ ap (λ x. first_fault z (statement_indexes x)) (sym (ap p.statement_of w.is ∙ of_while w.place w.condition w.body))

pub of_statement-returns-in-Do : goal.of_statement-returns-in-Do
of_statement-returns-in-Do t c =
    let z = p.program_of c.args.program.now in
    let w = c.in-Do in
    joined z _ _ _ _ _ c.earlier-in-Do.ensures c.of_statements-in-Do.ensures c.of_placed-in-Do.ensures
    ∙ ap (λ xs. first_fault z (indexes_in xs ++ placed_indexes (placed_of w.condition))) c.deref-in-Do.ensures.value
    ∙ ap (λ x. first_fault z (statement_indexes x)) (sym (ap p.statement_of w.is ∙ of_do w.place w.body w.condition))

pub of_statements-loop-statement-init : goal.of_statements-loop-statement-init
unfolding first_fault
of_statements-loop-statement-init t c = refl

pub of_statements-loop-statement-preserved : goal.of_statements-loop-statement-preserved
of_statements-loop-statement-preserved t c =
    one_more (p.program_of c.args.program.now) (λ (x : Statement). statement_indexes (p.statement_of x)) indexes_in refl (λ x rest. refl)
    c.args.statements.now c.loop-statement.statement-index c.statement-item.result _ _ _ (omega arith) c.statement-item.is c.earlier-first.ensures
    c.loop-statement.invariant c.of_statement.ensures

pub of_arms-loop-arm-init : goal.of_arms-loop-arm-init
unfolding first_fault
of_arms-loop-arm-init t c = refl

pub of_arms-loop-arm-preserved : goal.of_arms-loop-arm-preserved
of_arms-loop-arm-preserved t c =
    let z = p.program_of c.args.program.now in
    let body = c.of_statements.ensures ∙ ap (λ xs. first_fault z (indexes_in xs)) c.deref.ensures.value in
    two_more z (λ (x : Arm). placed_indexes (placed_of x.condition)) (λ (x : Arm). indexes_in x.body.items) indexes_in_arms refl (λ x rest. refl)
    c.args.arms.now c.loop-arm.arm-index c.arm-item.result _ _ _ _ _ (omega arith) c.arm-item.is c.earlier-first-in-loop-arm.ensures c.earlier-first.ensures
    c.loop-arm.invariant c.of_placed.ensures body
