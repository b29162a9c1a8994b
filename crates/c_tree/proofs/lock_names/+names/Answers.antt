use Rattle.std.proofs.Common.{◌<◌, ◌++◌, List, [], ◌∷◌, length, sym, ap, ap₂, ◌∙◌, arith}
use Rattle.std.proofs.lemmas.List.{drop_all}
use Rattle.c_tree.specs.Exprs.{LockName}
use Rattle.c_tree.specs.Flats.{statement_of, statements_of, arms_list_of}
use Rattle.c_tree.specs.LockNames.{locks_in, locks_in_all, locks_in_arms}
use Rattle.c_tree.specs.declared.flat.Arm.{Arm}
use Rattle.c_tree.specs.declared.flat.Statement.{Statement}
use Rattle.c_tree.proofs.FlatRows.{of_while, of_do, of_if}
use Rattle.c_tree.proofs.KnownNames.{adds_same, adds_both, one_added, none_left, next_locks, next_arm_locks}
use Rattle.c_tree.proofs.lock_names.+names.Goals as goal

abbrev locked : List Statement → List LockName
locked xs = locks_in_all (statements_of xs)

abbrev locked_arms : List Arm → List LockName
locked_arms xs = locks_in_arms (arms_list_of xs)

pub add_statement-returns-in_ok-add_arms-in-If : goal.add_statement-returns-in_ok-add_arms-in-If
add_statement-returns-in_ok-add_arms-in-If t c =
    let w = c.in-If in
    let view = ap statement_of w.is ∙ of_if w.place w.arms w.otherwise in
    let all = ap₂ (λ (a b : List LockName). a ++ b) (ap locked_arms c.deref.ensures.value) (ap locked c.deref-in-If.ensures.value) ∙ sym (ap locks_in view) in
    adds_both _ _ _ _ _ _ _ all c.in_ok-add_arms-in-If.ensures c.add_statements.ensures

pub add_statement-returns-in-While : goal.add_statement-returns-in-While
add_statement-returns-in-While t c =
    let w = c.in-While in
    let view = ap statement_of w.is ∙ of_while w.place w.condition w.body in
    adds_same _ _ _ _ _ (ap locked c.deref-in-While.ensures.value ∙ sym (ap locks_in view)) c.add_statements-in-While.ensures

pub add_statement-returns-in-Do : goal.add_statement-returns-in-Do
add_statement-returns-in-Do t c =
    let w = c.in-Do in
    let view = ap statement_of w.is ∙ of_do w.place w.body w.condition in
    adds_same _ _ _ _ _ (ap locked c.deref-in-Do.ensures.value ∙ sym (ap locks_in view)) c.add_statements-in-Do.ensures

pub add_statement-returns-in-Lock : goal.add_statement-returns-in-Lock
add_statement-returns-in-Lock t c =
    let w = c.in-Lock in
    adds_same _ _ _ _ _ (ap (λ (x : LockName). x ∷ []) c.as_ref.ensures ∙ sym (ap (λ (s : Statement). locks_in (statement_of s)) w.is)) c.add.ensures

pub add_statements-loop-statement-preserved : goal.add_statements-loop-statement-preserved
add_statements-loop-statement-preserved t c =
    let xs = c.args.statements.now in
    let i = c.loop-statement.statement-index in
    let x = c.statement-item.result in
    let within : i < length xs = omega arith in
    one_added _ _ _ (locked xs) _ (locks_in (statement_of x)) _ (next_locks xs i x within c.statement-item.is) c.in_ok-add_statement.ensures
    c.loop-statement.invariant

pub add_statements-returns : goal.add_statements-returns
add_statements-returns t c =
    let xs = c.args.statements.now in
    none_left _ _ (locked xs) _ (ap locked (drop_all c.loop-statement.statement-index xs (omega arith))) c.loop-statement.invariant

pub add_arms-loop-arm-preserved : goal.add_arms-loop-arm-preserved
add_arms-loop-arm-preserved t c =
    let xs = c.args.arms.now in
    let i = c.loop-arm.arm-index in
    let x = c.arm-item.result in
    let within : i < length xs = omega arith in
    one_added _ _ _ (locked_arms xs) _ (locked c.deref.result.now) _ (next_arm_locks xs i x c.deref.result.now within c.arm-item.is c.deref.ensures.value)
    c.in_ok-add_statements.ensures c.loop-arm.invariant

pub add_arms-returns : goal.add_arms-returns
add_arms-returns t c =
    let xs = c.args.arms.now in
    none_left _ _ (locked_arms xs) _ (ap locked_arms (drop_all c.loop-arm.arm-index xs (omega arith))) c.loop-arm.invariant
