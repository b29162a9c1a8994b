-- The indexes of an expression are its own, if it has one, and those of its parts.
use Rattle.std.proofs.Common.{◌∷◌, ◌++◌, sym, ◌∙◌, ap, rules}
use Rattle.c_tree.specs.Exprs.{expr_of}
use Rattle.c_tree.specs.Programs.{program_of}
use Rattle.c_tree.specs.Ranges.{OfVariable, expr_indexes}
use Rattle.c_tree.specs.declared.expr.Expr.{Expr}
use Rattle.c_ranges.specs.links.FirstUnfitIndex.{first_fault}
use Rattle.c_ranges.proofs.Faults.{index_of, headed, joined}
use Rattle.c_ranges.proofs.indexes.+of_expr.Goals as goal

pub returns-in-Constant : goal.returns-in-Constant
unfolding first_fault
returns-in-Constant t c = search rules

pub returns-in-Constant-2 : goal.returns-in-Constant-2
unfolding first_fault
returns-in-Constant-2 t c = search rules

pub returns-in-Constant-3 : goal.returns-in-Constant-3
unfolding first_fault
returns-in-Constant-3 t c = search rules

pub returns-in-Constant-4 : goal.returns-in-Constant-4
unfolding first_fault
returns-in-Constant-4 t c = search rules

pub returns-in-Element : goal.returns-in-Element
returns-in-Element t c =
    let z = program_of c.args.program.now in
    let w = c.in-Element in
    let x = c.deref.ensures in
    let y = c.deref-in-Element.ensures in
    headed z _ _ _ (index_of (OfVariable w.variable) w.index_place _) _ _ c.earlier.ensures c.elements.ensures c.of_index.ensures c.of_expr.ensures
    ∙ (λ i. first_fault z (index_of (OfVariable w.variable) w.index_place (expr_of (x i)) ∷ expr_indexes (expr_of (y i))))
    ∙ ap (λ (e : Expr). first_fault z (expr_indexes (expr_of e))) (sym w.is)

pub returns-in-Address : goal.returns-in-Address
returns-in-Address t c =
    let z = program_of c.args.program.now in
    let w = c.in-Address in
    let x = c.deref-in-Address.ensures in
    let y = c.deref-in-Address-2.ensures in
    headed z _ _ _ (index_of (OfVariable w.variable) w.index_place _) _ _ c.earlier-in-Address.ensures c.elements-in-Address.ensures
    c.of_index-in-Address.ensures c.of_expr-in-Address.ensures
    ∙ (λ i. first_fault z (index_of (OfVariable w.variable) w.index_place (expr_of (x i)) ∷ expr_indexes (expr_of (y i))))
    ∙ ap (λ (e : Expr). first_fault z (expr_indexes (expr_of e))) (sym w.is)

pub returns-in-Binary : goal.returns-in-Binary
returns-in-Binary t c =
    let z = program_of c.args.program.now in
    let x = c.deref-in-Binary.ensures in
    let y = c.deref-in-Binary-2.ensures in
    joined z _ _ _ _ _ c.earlier-in-Binary.ensures c.of_expr-in-Binary.ensures c.of_expr-in-Binary-2.ensures
    ∙ (λ i. first_fault z (expr_indexes (expr_of (x i)) ++ expr_indexes (expr_of (y i))))
    ∙ ap (λ (e : Expr). first_fault z (expr_indexes (expr_of e))) (sym c.in-Binary.is)

pub returns-in-Conditional : goal.returns-in-Conditional
returns-in-Conditional t c =
    let z = program_of c.args.program.now in
    let x = c.deref-in-Conditional.ensures in
    let y = c.deref-in-Conditional-2.ensures in
    let w = c.deref-in-Conditional-3.ensures in
    let both = joined z _ _ _ _ _ c.earlier-first.ensures c.of_expr-in-Conditional.ensures c.of_expr-in-Conditional-2.ensures in
    joined z _ _ _ _ _ c.earlier-in-Conditional.ensures both c.of_expr-in-Conditional-3.ensures
    ∙ (λ i. first_fault z (expr_indexes (expr_of (x i)) ++ expr_indexes (expr_of (y i)) ++ expr_indexes (expr_of (w i))))
    ∙ ap (λ (e : Expr). first_fault z (expr_indexes (expr_of e))) (sym c.in-Conditional.is)
