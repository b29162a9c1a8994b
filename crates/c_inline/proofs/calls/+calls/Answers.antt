use Rattle.std.proofs.Common.{◌≡◌, ◌++◌, List, ap, ap₂, sym, subst, ◌∙◌, arith, OnOk}
use Rattle.std.proofs.lemmas.Grind.{common_steps}
use Rattle.std.proofs.lemmas.List.{drop_all, append-nil, append_assoc}
use Rattle.c_tree.specs.Inlining.{Call, statement_calls, statements_calls, arms_calls}
use Rattle.c_tree.specs.Programs as p
use Rattle.c_tree.specs.Programs.{statement_of, statements_of, arms_list_of}
use Rattle.c_tree.specs.declared.program.Statement.{Statement}
use Rattle.c_tree.specs.declared.program.Arm.{Arm}
use Rattle.c_tree.proofs.Public.{program_rows_of_while as of_while, program_rows_of_do as of_do, program_rows_of_if as of_if}
use Rattle.c_inline.specs.links.Calls.{calls_of}
use Rattle.c_inline.proofs.calls.+calls.Goals as goal

abbrev calls_in_statements : List Statement → List Call
calls_in_statements xs = statements_calls (statements_of xs)

abbrev calls_in_arms : List Arm → List Call
calls_in_arms xs = arms_calls (arms_list_of xs)

pub add_arms-returns : goal.add_arms-returns
add_arms-returns t c = grind (arith, common_steps, drop_all, append-nil)

pub add_statements-returns : goal.add_statements-returns
add_statements-returns t c = grind (arith, common_steps, drop_all, append-nil)

pub add_statement-returns-in-While : goal.add_statement-returns-in-While
add_statement-returns-in-While t c =
    let w = c.in-While in
    let view = ap statement_of w.is ∙ of_while w.place w.condition w.body in
    let e = ap calls_in_statements c.deref-in-While.ensures.value ∙ sym (ap statement_calls view) in
    subst (λ (x : List Call). OnOk c.add_statements-in-While.result (calls_of c.add_statements-in-While.new.calls.items ≡ calls_of c.args.calls.now.items ++ x))
    e c.add_statements-in-While.ensures

pub add_statement-returns-in-Do : goal.add_statement-returns-in-Do
add_statement-returns-in-Do t c =
    let w = c.in-Do in
    let view = ap statement_of w.is ∙ of_do w.place w.body w.condition in
    let e = ap calls_in_statements c.deref-in-Do.ensures.value ∙ sym (ap statement_calls view) in
    subst (λ (x : List Call). OnOk c.add_statements-in-Do.result (calls_of c.add_statements-in-Do.new.calls.items ≡ calls_of c.args.calls.now.items ++ x)) e
    c.add_statements-in-Do.ensures

pub add_statement-returns-in_ok-add_arms-in-If : goal.add_statement-returns-in_ok-add_arms-in-If
add_statement-returns-in_ok-add_arms-in-If t c =
    let w = c.in-If in
    let view = ap statement_of w.is ∙ of_if w.place w.arms w.otherwise in
    let old : List Call = calls_of c.args.calls.now.items in
    let arms = calls_in_arms w.arms.items in
    let rest = calls_in_statements w.otherwise.items in
    let e = ap₂ (λ (a b : List Call). a ++ b) (c.in_ok-add_arms-in-If.ensures ∙ ap (λ (xs : List Arm). old ++ calls_in_arms xs) c.deref.ensures.value)
    (ap calls_in_statements c.deref-in-If.ensures.value)
    ∙ append_assoc old arms rest ∙ sym (ap (λ (x : p.Statement). old ++ statement_calls x) view) in
    subst (λ (x : List Call). OnOk c.add_statements.result (calls_of c.add_statements.new.calls.items ≡ x)) e c.add_statements.ensures
