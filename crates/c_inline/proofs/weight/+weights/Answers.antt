use Rattle.std.proofs.Common.{List, map, ap, ◌∙◌, arith}
use Rattle.std.proofs.lemmas.Grind.{common_steps}
use Rattle.std.proofs.lemmas.List.{drop_all}
use Rattle.c_tree.specs.Programs.{function_of, statement_of, statements_of, arms_list_of}
use Rattle.c_tree.specs.declared.program.Statement.{Statement}
use Rattle.c_tree.specs.declared.program.Arm.{Arm}
use Rattle.c_tree.proofs.Public.{program_rows_of_while as of_while, program_rows_of_do as of_do, program_rows_of_if as of_if}
use Rattle.c_inline.specs.links.Weights.{known_weight, statement_weight, statements_weight, arms_weight}
use Rattle.c_inline.proofs.weight.+weights.Goals as goal

pub statement_weight-returns-in-While : goal.statement_weight-returns-in-While
statement_weight-returns-in-While t c =
    let w = c.in-While in
    let fs = map function_of c.args.functions.now in
    let known = known_weight c.args.known.now in
    let view = ap statement_of w.is ∙ of_while w.place w.condition w.body in
    let body = ap (λ (xs : List Statement). statements_weight c.args.weights 0 fs known (statements_of xs)) c.deref-in-While.ensures.value in
    omega (arith, ap (statement_weight c.args.weights 0 fs known) view, body)

pub statement_weight-returns-in-Do : goal.statement_weight-returns-in-Do
statement_weight-returns-in-Do t c =
    let w = c.in-Do in
    let fs = map function_of c.args.functions.now in
    let known = known_weight c.args.known.now in
    let view = ap statement_of w.is ∙ of_do w.place w.body w.condition in
    let body = ap (λ (xs : List Statement). statements_weight c.args.weights 0 fs known (statements_of xs)) c.deref-in-Do.ensures.value in
    omega (arith, ap (statement_weight c.args.weights 0 fs known) view, body)

pub statement_weight-returns-in-If : goal.statement_weight-returns-in-If
statement_weight-returns-in-If t c =
    let w = c.in-If in
    let fs = map function_of c.args.functions.now in
    let known = known_weight c.args.known.now in
    let view = ap statement_of w.is ∙ of_if w.place w.arms w.otherwise in
    let arms = ap (λ (xs : List Arm). arms_weight c.args.weights 0 fs known (arms_list_of xs)) c.deref-in-If.ensures.value in
    let otherwise = ap (λ (xs : List Statement). statements_weight c.args.weights 0 fs known (statements_of xs)) c.deref-in-If-2.ensures.value in
    omega (arith, ap (statement_weight c.args.weights 0 fs known) view, arms, otherwise)

pub statements_weight-returns : goal.statements_weight-returns
statements_weight-returns t c = grind (arith, common_steps, drop_all)

pub arms_weight-returns : goal.arms_weight-returns
arms_weight-returns t c = grind (arith, common_steps, drop_all)
