-- The expressions of a statement are those of its parts, in order.
use Rattle.std.proofs.Common.{refl, sym, ap, ap₂, ◌∙◌, ◌++◌, ◌∷◌, [], List, arith}
use Rattle.c_tree.specs.Exprs.{Placed, placed_of}
use Rattle.c_tree.specs.Flats as f
use Rattle.c_tree.specs.Temporaries.{statement_exprs, statements_exprs, arms_exprs}
use Rattle.c_tree.specs.declared.flat.Arm.{Arm}
use Rattle.c_tree.specs.declared.flat.Statement.{Statement}
use Rattle.c_tree.proofs.Public.{flat_rows_of_if as of_if, flat_rows_of_while as of_while, flat_rows_of_do as of_do}
use Rattle.c_temporaries.specs.links.FirstDeepExpression.{first_deep}
use Rattle.c_temporaries.proofs.FirstDeepExpressionLaws.{joined, one_more}
use Rattle.c_temporaries.proofs.temporaries.+statements.Goals as goal

abbrev exprs_in : List Statement → List Placed
exprs_in xs = statements_exprs (f.statements_of xs)

abbrev exprs_in_arms : List Arm → List Placed
exprs_in_arms xs = arms_exprs (f.arms_list_of xs)

pub of_statement-returns-in-If : goal.of_statement-returns-in-If
of_statement-returns-in-If t c =
    let w = c.in-If in
    joined _ _ _ _ _ c.or.ensures c.of_arms.ensures c.of_statements.ensures
    ∙ ap₂ (λ xs ys. first_deep (exprs_in_arms xs ++ exprs_in ys)) c.deref.ensures.value c.deref-in-If.ensures.value
    ∙ ap (λ x. first_deep (statement_exprs x)) (sym (ap f.statement_of w.is ∙ of_if w.place w.arms w.otherwise))

pub of_statement-returns-in-While : goal.of_statement-returns-in-While
of_statement-returns-in-While t c =
    let w = c.in-While in
    c.of_tested.ensures
    ∙ ap (λ xs. first_deep (placed_of w.condition ∷ exprs_in xs)) c.deref-in-While.ensures.value
    ∙ ap (λ x. first_deep (statement_exprs x)) (sym (ap f.statement_of w.is ∙ of_while w.place w.condition w.body))

pub of_statement-returns-in-Do : goal.of_statement-returns-in-Do
of_statement-returns-in-Do t c =
    let w = c.in-Do in
    joined _ _ _ _ _ c.or-in-Do.ensures c.of_statements-in-Do.ensures c.of_placed.ensures
    ∙ ap (λ xs. first_deep (exprs_in xs ++ placed_of w.condition ∷ [])) c.deref-in-Do.ensures.value
    ∙ ap (λ x. first_deep (statement_exprs x)) (sym (ap f.statement_of w.is ∙ of_do w.place w.body w.condition))

pub of_tested-returns : goal.of_tested-returns
of_tested-returns t c = joined _ _ _ _ _ c.or.ensures c.of_placed.ensures c.of_statements.ensures

pub of_statements-loop-statement-init : goal.of_statements-loop-statement-init
unfolding first_deep
of_statements-loop-statement-init t c = refl

pub of_statements-loop-statement-preserved : goal.of_statements-loop-statement-preserved
of_statements-loop-statement-preserved t c =
    one_more (λ (x : Statement). statement_exprs (f.statement_of x)) exprs_in refl (λ x rest. refl)
    c.args.statements.now c.loop-statement.statement-index c.statement-item.result _ _ _ (omega arith) c.statement-item.is c.or-first.ensures
    c.loop-statement.invariant c.of_statement.ensures

pub of_arms-loop-arm-init : goal.of_arms-loop-arm-init
unfolding first_deep
of_arms-loop-arm-init t c = refl

pub of_arms-loop-arm-preserved : goal.of_arms-loop-arm-preserved
of_arms-loop-arm-preserved t c =
    one_more (λ (x : Arm). placed_of x.condition ∷ exprs_in x.body.items) exprs_in_arms refl (λ x rest. refl)
    c.args.arms.now c.loop-arm.arm-index c.arm-item.result _ _ _ (omega arith) c.arm-item.is c.or-first.ensures c.loop-arm.invariant
    (c.of_tested.ensures ∙ ap (λ xs. first_deep (placed_of c.arm-item.result.condition ∷ exprs_in xs)) c.deref.ensures.value)
