use Rattle.std.proofs.Common.{ap, ap₂, sym, ◌∙◌}
use Rattle.ido_base.specs.declared.place.Place.{Place}
use Rattle.c_tree.specs.Names as n
use Rattle.c_tree.specs.TypeRules as rules
use Rattle.c_tree.specs.Views as v
use Rattle.c_tree.specs.declared.tree.Change.{Change}
use Rattle.c_typer.specs.links.FirstFaults.{first_of, noted}
use Rattle.c_typer.specs.links.Scopes.{globals_of, scope_of}
use Rattle.c_typer.proofs.RowSteps.{noted_both}
use Rattle.c_typer.proofs.assignment.changed.Goals as goal

pub returns-in_ok-made-in-Set-clause-noted : goal.returns-in_ok-made-in-Set-clause-noted
returns-in_ok-made-in-Set-clause-noted c =
    let l = c.args.globals.now.language in
    let gs = globals_of c.args.globals.now in
    let s = scope_of c.args.scope.now in
    let x = v.lvalue_of c.args.assigned.now in
    let value = v.expression_of c.in-Set.value in
    let first = first_of c.args.faults.now in
    let second = first_of c.placed.new.faults in
    let given = c.note_given.ensures
    ∙ ap₂ (λ (to : n.Referring) (place : Place). noted second (rules.given_faults l gs s to place value)) c.target_referring-to.ensures c.name_place.ensures in
    noted_both first second _ (rules.expression_faults l gs s value)
    (rules.given_faults l gs s (rules.target_referring l gs s x) (rules.target_name x).place value)
    c.in_ok-made-in-Set.ensures.noted given
    ∙ ap (λ (y : Change). noted first (rules.change_faults l gs s x (v.change_of y))) (sym c.in-Set.is)
