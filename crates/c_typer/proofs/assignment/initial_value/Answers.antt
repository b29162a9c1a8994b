use Rattle.std.proofs.Common.{sym, ap, ◌∙◌}
use Rattle.c_tree.specs.Names as n
use Rattle.c_tree.specs.TypeRules as rules
use Rattle.c_tree.specs.Views as v
use Rattle.c_tree.specs.declared.tree.Initial.{Initial}
use Rattle.c_typer.specs.links.FirstFaults.{first_of, noted}
use Rattle.c_typer.specs.links.Scopes.{globals_of, scope_of}
use Rattle.c_typer.proofs.RowSteps.{noted_both}
use Rattle.c_typer.proofs.assignment.initial_value.Goals as goal

pub returns-in_ok-made-in-Expression-clause-noted : goal.returns-in_ok-made-in-Expression-clause-noted
returns-in_ok-made-in-Expression-clause-noted c =
    let l = c.args.globals.now.language in
    let gs = globals_of c.args.globals.now in
    let s = scope_of c.args.scope.now in
    let to = n.of_type gs (v.type_name_of c.args.read.now.type_name) in
    let place = c.args.read.now.name.place in
    let value = v.expression_of c.in-Expression.value in
    let first = first_of c.args.faults.now in
    let second = first_of c.placed.new.faults in
    let given = c.note_given.ensures ∙ ap (λ (y : n.Referring). noted second (rules.given_faults l gs s y place value)) c.of_type-to.ensures in
    noted_both first second _ (rules.expression_faults l gs s value) (rules.given_faults l gs s to place value) c.in_ok-made-in-Expression.ensures.noted given
    ∙ ap (λ (y : Initial). noted first (rules.initial_faults l gs s to place (v.initial_of y))) (sym c.in-Expression.is)
