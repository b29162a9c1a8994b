use Rattle.std.proofs.Common.{ℕ, [], ◌∷◌, Some, None, sym, ap, ◌∙◌}
use Rattle.c_tree.specs.Exprs.{LockName}
use Rattle.c_tree.specs.LockDiscipline.{Walked, Broken, least_difference}
use Rattle.c_tree.specs.declared.rule.Rule.TheVariants as rule
use Rattle.c_tree.specs.links.KnownNames.{names_of}
use Rattle.lock_discipline.proofs.CheckerByStatement.{join_is}
use Rattle.lock_discipline.proofs.walk.join.Goals as goal

pub returns-in-Some : goal.returns-in-Some
returns-in-Some c =
    let names = names_of c.args.names.now in
    join_is [] names c.args.place c.args.first.now c.args.others.now (Some c.in-Some.number)
    (c.in-Some.ensures ∙ ap (λ (n : ℕ). least_difference n (c.args.first.now ∷ c.args.others.now)) c.requires)
    ∙ ap (λ (x : LockName). let w : Walked = Broken (record { rule = rule.Join; place = c.args.place; lock = x }) in w) (sym c.name_at.ensures)

pub returns-in-None : goal.returns-in-None
returns-in-None c =
    let names = names_of c.args.names.now in
    join_is [] names c.args.place c.args.first.now c.args.others.now None
    (c.in-None.ensures ∙ ap (λ (n : ℕ). least_difference n (c.args.first.now ∷ c.args.others.now)) c.requires)
