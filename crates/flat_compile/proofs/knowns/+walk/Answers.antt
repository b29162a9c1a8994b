-- The steps of a statement are those of its parts, in order.
use Rattle.std.proofs.Common.{◌≡◌, ◌++◌, [], ◌∷◌, true, ℕ, List, ap, ap₂, sym, subst, ◌∙◌, arith, OnOk}
use Rattle.std.proofs.lemmas.List.{drop_all}
use Rattle.c_tree.specs.Flats.{statement_of, statements_of, arms_list_of}
use Rattle.c_tree.specs.declared.flat.Statement.{Statement}
use Rattle.c_tree.specs.declared.flat.Arm.{Arm}
use Rattle.c_tree.proofs.Public.{flat_rows_of_while as of_while, flat_rows_of_do as of_do, flat_rows_of_if as of_if}
use Rattle.c_ranges.specs.KnownAtSteps.{knowns, knowns_in_all, knowns_in_arms}
use Rattle.flat_compile.specs.links.KnownLists.{known_lists}
use Rattle.c_ranges.proofs.Public.{both_parts, next_left, none_left, passed}
use Rattle.flat_compile.proofs.KnownSteps.{arm_added}
use Rattle.flat_compile.proofs.knowns.+walk.Goals as goal

pub add_statement-returns-in_ok-add_arms-in-If : goal.add_statement-returns-in_ok-add_arms-in-If
add_statement-returns-in_ok-add_arms-in-If t c =
    let known = c.args.known.now in
    let w = c.in-If in
    let old : List (List ℕ) = known_lists c.args.steps.now.items in
    let view = ap statement_of w.is ∙ of_if w.place w.arms w.otherwise in
    let whole = ap₂ (λ (a b : List (List ℕ)). a ++ b) (ap (λ (xs : List Arm). knowns_in_arms known true (arms_list_of xs)) c.deref.ensures.value)
    (ap (λ (xs : List Statement). knowns_in_all known (statements_of xs)) c.deref-in-If.ensures.value) ∙ sym (ap (knowns known) view) in
    subst (λ (x : List (List ℕ)). OnOk c.add_statements.result (known_lists c.add_statements.new.steps.items ≡ x))
    (both_parts old _ _ _ _ c.in_ok-add_arms-in-If.ensures whole) c.add_statements.ensures

pub add_statement-returns-in_ok-add_step-in-While : goal.add_statement-returns-in_ok-add_step-in-While
add_statement-returns-in_ok-add_step-in-While t c =
    let known = c.args.known.now in
    let w = c.in-While in
    let old : List (List ℕ) = known_lists c.args.steps.now.items in
    let view = ap statement_of w.is ∙ of_while w.place w.condition w.body in
    let whole = ap (λ (xs : List Statement). known ∷ knowns_in_all known (statements_of xs)) c.deref-in-While.ensures.value ∙ sym (ap (knowns known) view) in
    subst (λ (x : List (List ℕ)). OnOk c.add_statements-in-While.result (known_lists c.add_statements-in-While.new.steps.items ≡ x))
    (both_parts old _ _ _ _ c.in_ok-add_step-in-While.ensures whole) c.add_statements-in-While.ensures

pub add_statement-returns-in_ok-add_statements-in-Do : goal.add_statement-returns-in_ok-add_statements-in-Do
add_statement-returns-in_ok-add_statements-in-Do t c =
    let known = c.args.known.now in
    let w = c.in-Do in
    let old : List (List ℕ) = known_lists c.args.steps.now.items in
    let view = ap statement_of w.is ∙ of_do w.place w.body w.condition in
    let whole = ap (λ (xs : List Statement). knowns_in_all known (statements_of xs) ++ known ∷ []) c.deref-in-Do.ensures.value ∙ sym (ap (knowns known) view) in
    subst (λ (x : List (List ℕ)). OnOk c.add_step-in-Do.result (known_lists c.add_step-in-Do.new.steps.items ≡ x))
    (both_parts old _ _ _ _ c.in_ok-add_statements-in-Do.ensures whole) c.add_step-in-Do.ensures

pub add_statements-loop-statement-preserved : goal.add_statements-loop-statement-preserved
add_statements-loop-statement-preserved t c =
    let known = c.args.known.now in
    let xs = c.args.statements.now in
    let i = c.loop-statement.statement-index in
    let x = c.statement-item.result in
    passed _ _ (knowns known (statement_of x)) _ _ _ c.in_ok-add_statement.ensures
    (ap (λ (ys : List Statement). knowns_in_all known (statements_of ys)) (next_left xs i x (omega arith) c.statement-item.is)) c.loop-statement.invariant

pub add_statements-returns : goal.add_statements-returns
add_statements-returns t c =
    let xs = c.args.statements.now in
    none_left _ _ _ (ap (λ (ys : List Statement). knowns_in_all c.args.known.now (statements_of ys))
    (drop_all c.loop-statement.statement-index xs (omega arith))) c.loop-statement.invariant

pub add_arms-loop-arm-preserved : goal.add_arms-loop-arm-preserved
add_arms-loop-arm-preserved t c =
    arm_added c.args.known.now c.loop-arm.first c.args.arms.now c.loop-arm.arm-index c.arm-item.result (omega arith) c.arm-item.is _ _ _ _ _ _ _ _
    c.in_ok-add_step.ensures c.in_ok-inner.ensures c.deref.ensures.value c.deref-in-loop-arm.ensures.value c.deref-in-loop-arm-2.ensures.value
    c.in_ok-add_statements.ensures c.loop-arm.invariant

pub add_arms-returns : goal.add_arms-returns
add_arms-returns t c =
    let xs = c.args.arms.now in
    none_left _ _ _ (ap (λ (ys : List Arm). knowns_in_arms c.args.known.now c.loop-arm.first (arms_list_of ys))
    (drop_all c.loop-arm.arm-index xs (omega arith))) c.loop-arm.invariant
