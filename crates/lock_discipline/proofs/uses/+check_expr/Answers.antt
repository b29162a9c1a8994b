use Rattle.std.proofs.Common.{◌≡◌, [], ◌∷◌, ◌++◌, Some, map, refl, ap, ◌∙◌}
use Rattle.std.proofs.lemmas.Result.{err_from_is_err_and}
use Rattle.c_tree.specs.Programs.{variable_of}
use Rattle.c_tree.specs.Exprs.{Placed, expr_of}
use Rattle.c_tree.specs.links.KnownNames.{names_of}
use Rattle.c_tree.specs.LockDiscipline.{expr_uses, walk_uses}
use Rattle.c_tree.specs.declared.expr.Expr.{Expr}
use Rattle.lock_discipline.specs.links.Uses.{use_of}
use Rattle.lock_discipline.proofs.CheckerCorrectness.{after_then}
use Rattle.lock_discipline.proofs.Refusals.{refuses_then, refuses_as, matches_as, uses_split}
use Rattle.lock_discipline.proofs.uses.+check_expr.Goals as goal

pub returns-in_err-check_use-in-Element : goal.returns-in_err-check_use-in-Element
returns-in_err-check_use-in-Element t c =
    let p = err_from_is_err_and c.from_residual.result c.from_residual.ensures.1 in
    let w = c.in-Element in
    let inner : c.deref.result.now ≡ w.index.value = cc in
    let index : Placed = record { place = w.index_place; expr = expr_of c.deref.result.now } in
    let u = use_of w.variable w.place (Some index) in
    let more = expr_uses (expr_of w.index.value) in
    let all : expr_uses (expr_of c.args.expr.now) ≡ (u ∷ []) ++ more = rw inner (ap (λ (x : Expr). expr_uses (expr_of x)) w.is) in
    let vs = map variable_of c.args.variables.now in
    let n = names_of c.args.names.now in
    let h = c.args.held.now in
    rw (p.1, p.2) (refuses_then (walk_uses vs n h (u ∷ [])) (walk_uses vs n h (expr_uses (expr_of c.args.expr.now))) (λ _. walk_uses vs n h more) _
    (uses_split vs n h (expr_uses (expr_of c.args.expr.now)) (u ∷ []) more all)
    c.in_err-check_use-in-Element.ensures)

pub returns-in_err-check_expr-in-Binary : goal.returns-in_err-check_expr-in-Binary
returns-in_err-check_expr-in-Binary t c =
    let p = err_from_is_err_and c.from_residual-in_err-check_expr-in-Binary.result c.from_residual-in_err-check_expr-in-Binary.ensures.1 in
    let w = c.in-Binary in
    let left : c.deref-in-Binary.result.now ≡ w.left.value = cc in
    let all : expr_uses (expr_of c.args.expr.now) ≡ expr_uses (expr_of c.deref-in-Binary.result.now) ++ expr_uses (expr_of w.right.value) =
    rw left (ap (λ (x : Expr). expr_uses (expr_of x)) w.is) in
    rw (p.1, p.2) (refuses_then _ _ _ _ (uses_split (map variable_of c.args.variables.now)
    (names_of c.args.names.now) c.args.held.now _ _ _ all) c.in_err-check_expr-in-Binary.ensures)

pub returns-in_ok-check_expr-in-Binary : goal.returns-in_ok-check_expr-in-Binary
returns-in_ok-check_expr-in-Binary t c =
    let w = c.in-Binary in
    let left : c.deref-in-Binary.result.now ≡ w.left.value = cc in
    let right : c.deref-in-Binary-2.result.now ≡ w.right.value = cc in
    let all : expr_uses (expr_of c.args.expr.now) ≡ expr_uses (expr_of c.deref-in-Binary.result.now) ++ expr_uses (expr_of c.deref-in-Binary-2.result.now) =
    rw (left, right) (ap (λ (x : Expr). expr_uses (expr_of x)) w.is) in
    matches_as c.check_expr-in-Binary-2.result _ _ (λ _. c.args.held.now)
    (uses_split (map variable_of c.args.variables.now) (names_of c.args.names.now) c.args.held.now _ _ _ all
    ∙ after_then _ _ c.args.held.now c.in_ok-check_expr-in-Binary.ensures)
    c.check_expr-in-Binary-2.ensures

pub returns-in_err-check_expr-in-Conditional : goal.returns-in_err-check_expr-in-Conditional
returns-in_err-check_expr-in-Conditional t c =
    let p = err_from_is_err_and c.from_residual-in_err-check_expr-in-Conditional.result c.from_residual-in_err-check_expr-in-Conditional.ensures.1 in
    let w = c.in-Conditional in
    let condition : c.deref-in-Conditional.result.now ≡ w.condition.value = cc in
    let all : expr_uses (expr_of c.args.expr.now) ≡ (expr_uses (expr_of c.deref-in-Conditional.result.now) ++ expr_uses (expr_of w.then.value)) ++ expr_uses
    (expr_of w.otherwise.value) =
    rw condition (ap (λ (x : Expr). expr_uses (expr_of x)) w.is) in
    let vs = map variable_of c.args.variables.now in
    let n = names_of c.args.names.now in
    let h = c.args.held.now in
    rw (p.1, p.2) (refuses_then _ _ _ _ (uses_split vs n h _ _ _ all) (refuses_then _ _ _ _
    (uses_split vs n h _ _ _ refl) c.in_err-check_expr-in-Conditional.ensures))

pub returns-in_err-check_expr-in-Conditional-2 : goal.returns-in_err-check_expr-in-Conditional-2
returns-in_err-check_expr-in-Conditional-2 t c =
    let p = err_from_is_err_and c.from_residual-in_err-check_expr-in-Conditional-2.result c.from_residual-in_err-check_expr-in-Conditional-2.ensures.1 in
    let w = c.in-Conditional in
    let condition : c.deref-in-Conditional.result.now ≡ w.condition.value = cc in
    let chosen : c.deref-in-Conditional-2.result.now ≡ w.then.value = cc in
    let all : expr_uses (expr_of c.args.expr.now) ≡ (expr_uses (expr_of c.deref-in-Conditional.result.now) ++ expr_uses
    (expr_of c.deref-in-Conditional-2.result.now)) ++ expr_uses (expr_of w.otherwise.value) =
    rw (condition, chosen) (ap (λ (x : Expr). expr_uses (expr_of x)) w.is) in
    let vs = map variable_of c.args.variables.now in
    let n = names_of c.args.names.now in
    let h = c.args.held.now in
    rw (p.1, p.2) (refuses_then _ _ _ _ (uses_split vs n h _ _ _ all)
    (refuses_as _ _ _ (uses_split vs n h _ _ _ refl
    ∙ after_then _ _ h c.in_ok-check_expr-in-Conditional.ensures) c.in_err-check_expr-in-Conditional-2.ensures))

pub returns-in_ok-check_expr-in-Conditional-2 : goal.returns-in_ok-check_expr-in-Conditional-2
returns-in_ok-check_expr-in-Conditional-2 t c =
    let w = c.in-Conditional in
    let condition : c.deref-in-Conditional.result.now ≡ w.condition.value = cc in
    let chosen : c.deref-in-Conditional-2.result.now ≡ w.then.value = cc in
    let otherwise : c.deref-in-Conditional-3.result.now ≡ w.otherwise.value = cc in
    let all : expr_uses (expr_of c.args.expr.now) ≡ (expr_uses (expr_of c.deref-in-Conditional.result.now) ++ expr_uses
    (expr_of c.deref-in-Conditional-2.result.now)) ++ expr_uses (expr_of c.deref-in-Conditional-3.result.now) =
    rw (condition, chosen, otherwise) (ap (λ (x : Expr). expr_uses (expr_of x)) w.is) in
    let vs = map variable_of c.args.variables.now in
    let n = names_of c.args.names.now in
    let h = c.args.held.now in
    matches_as c.check_expr-in-Conditional-3.result _ _ (λ _. h)
    (uses_split vs n h _ _ _ all ∙ after_then _ _ h (uses_split vs n h _ _ _ refl ∙ after_then _ _ h c.in_ok-check_expr-in-Conditional.ensures
    ∙ c.in_ok-check_expr-in-Conditional-2.ensures))
    c.check_expr-in-Conditional-3.ensures
