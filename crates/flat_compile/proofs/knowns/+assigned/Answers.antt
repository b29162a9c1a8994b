-- The locals that a statement assigns are those that its parts do.
use Rattle.std.proofs.Common.{◌≡◌, ◌++◌, ℕ, List, ap, ap₂, sym, subst, ◌∙◌, arith, OnOk}
use Rattle.std.proofs.lemmas.Grind.{common_steps}
use Rattle.std.proofs.lemmas.List.{drop_all, append-nil}
use Rattle.c_tree.specs.NullReferences.{flat_statement_assigned, flat_statements_assigned, flat_arms_assigned}
use Rattle.c_tree.specs.Flats.{statement_of, statements_of, arms_list_of}
use Rattle.c_tree.specs.declared.flat.Statement.{Statement}
use Rattle.c_tree.specs.declared.flat.Arm.{Arm}
use Rattle.c_tree.proofs.Public.{flat_rows_of_while as of_while, flat_rows_of_do as of_do, flat_rows_of_if as of_if}
use Rattle.c_ranges.proofs.Public.{both_parts}
use Rattle.flat_compile.proofs.knowns.+assigned.Goals as goal

abbrev assigned_in : List Statement → List ℕ
assigned_in xs = flat_statements_assigned (statements_of xs)

abbrev assigned_in_arms : List Arm → List ℕ
assigned_in_arms xs = flat_arms_assigned (arms_list_of xs)

pub add_arms_assigned-returns : goal.add_arms_assigned-returns
add_arms_assigned-returns t c = grind (arith, common_steps, drop_all, append-nil)

pub add_all_assigned-returns : goal.add_all_assigned-returns
add_all_assigned-returns t c = grind (arith, common_steps, drop_all, append-nil)

pub add_assigned-returns-in_ok-add_arms_assigned-in-If : goal.add_assigned-returns-in_ok-add_arms_assigned-in-If
add_assigned-returns-in_ok-add_arms_assigned-in-If t c =
    let w = c.in-If in
    let old : List ℕ = c.args.locals.now.items in
    let view = ap statement_of w.is ∙ of_if w.place w.arms w.otherwise in
    let whole = ap₂ (λ (a b : List ℕ). a ++ b) (ap assigned_in_arms c.deref.ensures.value) (ap assigned_in c.deref-in-If.ensures.value)
    ∙ sym (ap flat_statement_assigned view) in
    subst (λ (x : List ℕ). OnOk c.add_all_assigned.result (c.add_all_assigned.new.locals.items ≡ x))
    (both_parts old _ _ _ _ c.in_ok-add_arms_assigned-in-If.ensures whole) c.add_all_assigned.ensures

pub add_assigned-returns-in-While : goal.add_assigned-returns-in-While
add_assigned-returns-in-While t c =
    let w = c.in-While in
    let view = ap statement_of w.is ∙ of_while w.place w.condition w.body in
    let e = ap assigned_in c.deref-in-While.ensures.value ∙ sym (ap flat_statement_assigned view) in
    subst (λ (x : List ℕ). OnOk c.add_all_assigned-in-While.result (c.add_all_assigned-in-While.new.locals.items ≡ c.args.locals.now.items ++ x)) e
    c.add_all_assigned-in-While.ensures

pub add_assigned-returns-in-Do : goal.add_assigned-returns-in-Do
add_assigned-returns-in-Do t c =
    let w = c.in-Do in
    let view = ap statement_of w.is ∙ of_do w.place w.body w.condition in
    let e = ap assigned_in c.deref-in-Do.ensures.value ∙ sym (ap flat_statement_assigned view) in
    subst (λ (x : List ℕ). OnOk c.add_all_assigned-in-Do.result (c.add_all_assigned-in-Do.new.locals.items ≡ c.args.locals.now.items ++ x)) e
    c.add_all_assigned-in-Do.ensures
