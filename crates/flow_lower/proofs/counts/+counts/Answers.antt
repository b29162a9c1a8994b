use Rattle.std.proofs.Common.{◌≡◌, ℕ, suc, ◌+◌, List, sym, ap, ap₂, ◌∙◌, arith}
use Rattle.std.proofs.lemmas.Result.{IfOk-weaker}
use Rattle.std.proofs.lemmas.Grind.{common_steps}
use Rattle.std.proofs.lemmas.List.{drop_all}
use Rattle.flow_graph.specs.Lowering.{count, statements_count, arms_count}
use Rattle.c_tree.specs.declared.flat.Statement.{Statement}
use Rattle.c_tree.specs.declared.flat.Arm.{Arm}
use Rattle.c_tree.specs.Flats.{statement_of, statements_of, arms_list_of}
use Rattle.c_tree.proofs.Public.{flat_rows_of_while as of_while, flat_rows_of_do as of_do, flat_rows_of_if as of_if}
use Rattle.flow_lower.proofs.counts.+counts.Goals as goal

abbrev counted : List Statement → ℕ
counted xs = statements_count (statements_of xs)

abbrev counted_arms : List Arm → ℕ
counted_arms xs = arms_count (arms_list_of xs)

pub count_all-returns : goal.count_all-returns
count_all-returns t c = grind (arith, common_steps, drop_all)

pub count_arms-returns : goal.count_arms-returns
count_arms-returns t c = grind (arith, common_steps, drop_all)

pub count-returns-in-While : goal.count-returns-in-While
count-returns-in-While t c =
    let w = c.in-While in
    let view = ap statement_of w.is ∙ of_while w.place w.condition w.body in
    IfOk-weaker c.count_loop.result (λ (n : ℕ). n ≡ suc (counted c.deref-in-While.result.now)) _
    (λ n k. k ∙ ap (λ (ys : List Statement). suc (counted ys)) c.deref-in-While.ensures.value ∙ sym (ap count view)) c.count_loop.ensures

pub count-returns-in-Do : goal.count-returns-in-Do
count-returns-in-Do t c =
    let w = c.in-Do in
    let view = ap statement_of w.is ∙ of_do w.place w.body w.condition in
    IfOk-weaker c.count_loop-in-Do.result (λ (n : ℕ). n ≡ suc (counted c.deref-in-Do.result.now)) _
    (λ n k. k ∙ ap (λ (ys : List Statement). suc (counted ys)) c.deref-in-Do.ensures.value ∙ sym (ap count view)) c.count_loop-in-Do.ensures

pub count-returns-in_ok-otherwise-in-If : goal.count-returns-in_ok-otherwise-in-If
count-returns-in_ok-otherwise-in-If t c =
    let w = c.in-If in
    let view = ap statement_of w.is ∙ of_if w.place w.arms w.otherwise in
    let chosen = c.in_ok-chosen-in-If.ensures ∙ ap counted_arms c.deref.ensures.value in
    let otherwise = c.in_ok-otherwise-in-If.ensures ∙ ap counted c.deref-in-If.ensures.value in
    IfOk-weaker c.sum.result (λ (n : ℕ). n ≡ c.in_ok-chosen-in-If.chosen + c.in_ok-otherwise-in-If.otherwise) _
    (λ n k. k ∙ ap₂ (λ (a b : ℕ). a + b) chosen otherwise ∙ sym (ap count view)) c.sum.ensures
