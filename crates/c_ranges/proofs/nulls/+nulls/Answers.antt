-- The places of a statement are those of its parts, in order.
use Rattle.std.proofs.Common.{◌≡◌, ◌++◌, true, List, ap, ap₂, sym, subst, ◌∙◌, map, flat_map, arith, OnOk}
use Rattle.std.specs.Option.{option_map}
use Rattle.std.proofs.lemmas.List.{drop_all}
use Rattle.ido_base.specs.declared.place.Place.{Place}
use Rattle.c_tree.specs.Exprs.{placed_of, lvalue_of}
use Rattle.c_tree.specs.NullReferences.{placed_nulls, result_nulls, statement_nulls, statements_nulls, arms_nulls}
use Rattle.c_tree.specs.Programs.{statement_of, statements_of, arms_list_of}
use Rattle.c_tree.specs.declared.expr.Placed.{Placed}
use Rattle.c_tree.specs.declared.program.Statement.{Statement}
use Rattle.c_tree.specs.declared.program.Arm.{Arm}
use Rattle.c_tree.proofs.Public.{program_rows_of_while as of_while, program_rows_of_do as of_do, program_rows_of_if as of_if}
use Rattle.c_ranges.proofs.NullLists.{arm_added, both_parts, next_left, none_left, passed}
use Rattle.c_ranges.proofs.nulls.+nulls.Goals as goal

pub add_statement-returns-in_ok-add_target-in-Assign : goal.add_statement-returns-in_ok-add_target-in-Assign
add_statement-returns-in_ok-add_target-in-Assign t c =
    let known = c.args.known.now in
    let old : List Place = c.args.places.now.items in
    let whole = sym (ap (λ (s : Statement). statement_nulls known (statement_of s)) c.in-Assign.is) in
    subst (λ (x : List Place). OnOk c.add_placed.result (c.add_placed.new.places.items ≡ x))
    (both_parts old _ _ _ _ c.in_ok-add_target-in-Assign.ensures whole) c.add_placed.ensures

pub add_statement-returns-in_ok-add_arguments-in-Call : goal.add_statement-returns-in_ok-add_arguments-in-Call
add_statement-returns-in_ok-add_arguments-in-Call t c =
    let known = c.args.known.now in
    let w = c.in-Call in
    let old : List Place = c.args.places.now.items in
    let target = result_nulls known (option_map lvalue_of w.target) in
    let whole = ap (λ (xs : List Placed). flat_map (placed_nulls known) (map placed_of xs) ++ target) c.deref.ensures.value
    ∙ sym (ap (λ (s : Statement). statement_nulls known (statement_of s)) w.is) in
    subst (λ (x : List Place). OnOk c.add_result.result (c.add_result.new.places.items ≡ x))
    (both_parts old _ _ _ _ c.in_ok-add_arguments-in-Call.ensures whole) c.add_result.ensures

pub add_statement-returns-in_ok-add_arms-in-If : goal.add_statement-returns-in_ok-add_arms-in-If
add_statement-returns-in_ok-add_arms-in-If t c =
    let known = c.args.known.now in
    let w = c.in-If in
    let old : List Place = c.args.places.now.items in
    let view = ap statement_of w.is ∙ of_if w.place w.arms w.otherwise in
    let whole = ap₂ (λ (a b : List Place). a ++ b) (ap (λ (xs : List Arm). arms_nulls known true (arms_list_of xs)) c.deref-in-If.ensures.value)
    (ap (λ (xs : List Statement). statements_nulls known (statements_of xs)) c.deref-in-If-2.ensures.value) ∙ sym (ap (statement_nulls known) view) in
    subst (λ (x : List Place). OnOk c.add_statements.result (c.add_statements.new.places.items ≡ x))
    (both_parts old _ _ _ _ c.in_ok-add_arms-in-If.ensures whole) c.add_statements.ensures

pub add_statement-returns-in_ok-add_placed-in-While : goal.add_statement-returns-in_ok-add_placed-in-While
add_statement-returns-in_ok-add_placed-in-While t c =
    let known = c.args.known.now in
    let w = c.in-While in
    let old : List Place = c.args.places.now.items in
    let view = ap statement_of w.is ∙ of_while w.place w.condition w.body in
    let whole = ap (λ (xs : List Statement). placed_nulls known (placed_of w.condition) ++ statements_nulls known (statements_of xs))
    c.deref-in-While.ensures.value ∙ sym (ap (statement_nulls known) view) in
    subst (λ (x : List Place). OnOk c.add_statements-in-While.result (c.add_statements-in-While.new.places.items ≡ x))
    (both_parts old _ _ _ _ c.in_ok-add_placed-in-While.ensures whole) c.add_statements-in-While.ensures

pub add_statement-returns-in_ok-add_statements-in-Do : goal.add_statement-returns-in_ok-add_statements-in-Do
add_statement-returns-in_ok-add_statements-in-Do t c =
    let known = c.args.known.now in
    let w = c.in-Do in
    let old : List Place = c.args.places.now.items in
    let view = ap statement_of w.is ∙ of_do w.place w.body w.condition in
    let whole = ap (λ (xs : List Statement). statements_nulls known (statements_of xs) ++ placed_nulls known (placed_of w.condition))
    c.deref-in-Do.ensures.value ∙ sym (ap (statement_nulls known) view) in
    subst (λ (x : List Place). OnOk c.add_placed-in-Do.result (c.add_placed-in-Do.new.places.items ≡ x))
    (both_parts old _ _ _ _ c.in_ok-add_statements-in-Do.ensures whole) c.add_placed-in-Do.ensures

pub add_statements-loop-statement-preserved : goal.add_statements-loop-statement-preserved
add_statements-loop-statement-preserved t c =
    let known = c.args.known.now in
    let xs = c.args.statements.now in
    let i = c.loop-statement.statement-index in
    let x = c.statement-item.result in
    passed _ _ (statement_nulls known (statement_of x)) _ _ _ c.in_ok-add_statement.ensures
    (ap (λ (ys : List Statement). statements_nulls known (statements_of ys)) (next_left xs i x (omega arith) c.statement-item.is)) c.loop-statement.invariant

pub add_statements-returns : goal.add_statements-returns
add_statements-returns t c =
    let xs = c.args.statements.now in
    none_left _ _ _ (ap (λ (ys : List Statement). statements_nulls c.args.known.now (statements_of ys))
    (drop_all c.loop-statement.statement-index xs (omega arith))) c.loop-statement.invariant

pub add_arms-loop-arm-preserved : goal.add_arms-loop-arm-preserved
add_arms-loop-arm-preserved t c =
    arm_added c.args.known.now c.loop-arm.first c.args.arms.now c.loop-arm.arm-index c.arm-item.result (omega arith) c.arm-item.is _ _ _ _ _ _ _ _
    c.in_ok-add_placed.ensures c.in_ok-inner.ensures c.deref.ensures.value c.deref-in-loop-arm.ensures.value c.deref-in-loop-arm-2.ensures.value
    c.in_ok-add_statements.ensures c.loop-arm.invariant

pub add_arms-returns : goal.add_arms-returns
add_arms-returns t c =
    let xs = c.args.arms.now in
    none_left _ _ _ (ap (λ (ys : List Arm). arms_nulls c.args.known.now c.loop-arm.first (arms_list_of ys))
    (drop_all c.loop-arm.arm-index xs (omega arith))) c.loop-arm.invariant
