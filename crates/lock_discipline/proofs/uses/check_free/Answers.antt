use Rattle.std.proofs.Common.{Option, [], sym, ap, ◌∙◌}
use Rattle.c_tree.specs.Exprs.{LockName, lvalue_of}
use Rattle.c_tree.specs.declared.expr.Lvalue.{Lvalue}
use Rattle.c_tree.specs.declared.rule.Rule.TheVariants as rule
use Rattle.c_tree.specs.LockDiscipline.{Fault, walk_target}
use Rattle.c_tree.specs.links.KnownNames.{names_of}
use Rattle.lock_discipline.proofs.CheckerCorrectness.{none_or}
use Rattle.lock_discipline.proofs.uses.check_free.Goals as goal

pub returns-in-Some : goal.returns-in-Some
returns-in-Some c =
    let w = c.in-Local in
    let fault : LockName → Fault = λ x. record { rule = rule.Frozen; place = w.place; lock = x } in
    ap (λ (x : Lvalue). walk_target [] (names_of c.args.names.now) c.args.held.now (lvalue_of x)) w.is
    ∙ ap (λ (o : Option LockName). none_or o fault c.args.held.now) (sym c.in-Some.ensures)

pub returns-in-None : goal.returns-in-None
returns-in-None c =
    let w = c.in-Local in
    let fault : LockName → Fault = λ x. record { rule = rule.Frozen; place = w.place; lock = x } in
    ap (λ (x : Lvalue). walk_target [] (names_of c.args.names.now) c.args.held.now (lvalue_of x)) w.is
    ∙ ap (λ (o : Option LockName). none_or o fault c.args.held.now) (sym c.in-None.ensures)
