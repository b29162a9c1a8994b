use Rattle.std.proofs.Common.{ℕ, List, ap, ◌∙◌, arith}
use Rattle.std.proofs.lemmas.Grind.{common_steps}
use Rattle.std.proofs.lemmas.List.{drop_all}
use Rattle.c_tree.specs.Prices.{statement_price, statements_price, arms_price}
use Rattle.c_tree.specs.declared.flat.Statement.{Statement}
use Rattle.c_tree.specs.declared.flat.Arm.{Arm}
use Rattle.c_tree.specs.Flats.{statement_of, statements_of, arms_list_of}
use Rattle.c_tree.proofs.FlatRows.{of_while, of_do, of_if}
use Rattle.c_tree.proofs.price.+prices.Goals as goal

abbrev priced : List Statement → ℕ
priced xs = statements_price (statements_of xs)

abbrev priced_arms : List Arm → ℕ
priced_arms xs = arms_price (arms_list_of xs)

pub statement_price-returns-in-While : goal.statement_price-returns-in-While
statement_price-returns-in-While t c =
    let w = c.in-While in
    let view = ap statement_of w.is ∙ of_while w.place w.condition w.body in
    let body = ap priced c.deref-in-While.ensures.value in
    omega (arith, ap statement_price view, body)

pub statement_price-returns-in-Do : goal.statement_price-returns-in-Do
statement_price-returns-in-Do t c =
    let w = c.in-Do in
    let view = ap statement_of w.is ∙ of_do w.place w.body w.condition in
    let body = ap priced c.deref-in-Do.ensures.value in
    omega (arith, ap statement_price view, body)

pub statement_price-returns-in-If : goal.statement_price-returns-in-If
statement_price-returns-in-If t c =
    let w = c.in-If in
    let view = ap statement_of w.is ∙ of_if w.place w.arms w.otherwise in
    let arms = ap priced_arms c.deref.ensures.value in
    let otherwise = ap priced c.deref-in-If.ensures.value in
    omega (arith, ap statement_price view, arms, otherwise)

pub statements_price-returns : goal.statements_price-returns
statements_price-returns t c = grind (arith, common_steps, drop_all)

pub arms_price-returns : goal.arms_price-returns
arms_price-returns t c = grind (arith, common_steps, drop_all)
