use Rattle.std.proofs.Common.{◌≡◌, [], ◌∷◌, ◌++◌, Some, map, ap}
use Rattle.std.proofs.lemmas.Result.{err_from_is_err_and}
use Rattle.c_tree.specs.Programs.{variable_of}
use Rattle.c_tree.specs.Exprs.{expr_of, placed_of, lvalue_of}
use Rattle.c_tree.specs.links.KnownNames.{names_of}
use Rattle.c_tree.specs.LockDiscipline.{expr_uses, target_uses, walk_uses}
use Rattle.c_tree.specs.declared.expr.Lvalue.{Lvalue}
use Rattle.lock_discipline.specs.links.Uses.{use_of}
use Rattle.lock_discipline.proofs.Refusals.{refuses_then, uses_split}
use Rattle.lock_discipline.proofs.uses.check_target.Goals as goal

pub returns-in_err-check_use-in-Element : goal.returns-in_err-check_use-in-Element
returns-in_err-check_use-in-Element c =
    let p = err_from_is_err_and c.from_residual.result c.from_residual.ensures.1 in
    let w = c.in-Element in
    let u = use_of w.variable w.place (Some (placed_of w.index)) in
    let more = expr_uses (expr_of w.index.expr) in
    let all : target_uses (lvalue_of c.args.target.now) ≡ (u ∷ []) ++ more = ap (λ (x : Lvalue). target_uses (lvalue_of x)) w.is in
    let vs = map variable_of c.args.variables.now in
    let n = names_of c.args.names.now in
    let h = c.args.held.now in
    rw (p.1, p.2) (refuses_then (walk_uses vs n h (u ∷ [])) (walk_uses vs n h (target_uses (lvalue_of c.args.target.now))) (λ _. walk_uses vs n h more) _
    (uses_split vs n h (target_uses (lvalue_of c.args.target.now)) (u ∷ []) more all)
    c.in_err-check_use-in-Element.ensures)
