use Rattle.std.proofs.Common.{List, ◌++◌, map, ap, ◌∙◌}
use Rattle.std.specs.Option.{option_map}
use Rattle.c_tree.specs.Names as n
use Rattle.c_tree.specs.TypeRules as rules
use Rattle.c_tree.specs.Elaboration as typing
use Rattle.c_tree.specs.Views as v
use Rattle.c_tree.specs.declared.tree.Parameter.{Parameter}
use Rattle.c_tree.specs.declared.tree.Statement.{Statement}
use Rattle.c_typer.specs.links.FirstFaults.{first_of, noted}
use Rattle.c_typer.specs.links.Scopes.{globals_of, scope_of}
use Rattle.c_typer.proofs.RowSteps.{noted_both}
use Rattle.c_typer.proofs.item.function.Goals as goal

pub returns-clause-noted : goal.returns-clause-noted
returns-clause-noted c =
    let gs = globals_of c.args.globals.now in
    let x = c.args.read.now in
    let parameters = map v.parameter_of x.parameters.items in
    let body = v.statements_of x.body.statements.items in
    let gives = option_map v.return_of x.body.returned in
    let s = typing.with_parameters gs n.no_locals parameters in
    let faults = first_of c.args.faults.now in
    let f = first_of c.with_parameters.new.faults in
    let g = first_of c.statements.new.faults in
    let h = first_of c.returned.new.faults in
    let scope = c.in_ok-scope.ensures.made
    ∙ ap (λ (xs : List Parameter). typing.with_parameters gs n.no_locals (map v.parameter_of xs)) c.deref.ensures.value in
    let first = c.in_ok-scope.ensures.noted
    ∙ ap (λ (xs : List Parameter). noted faults (rules.parameters_faults c.args.globals.now.language gs n.no_locals (map v.parameter_of xs)))
    c.deref.ensures.value in
    let second = c.in_ok-statements.ensures.noted
    ∙ ap (λ (xs : List Statement). noted f (rules.statements_faults c.args.globals.now.language gs (scope_of c.in_ok-scope.scope) (v.statements_of xs)))
    c.deref-2.ensures.value
    ∙ ap (λ (z : n.Scope). noted f (rules.statements_faults c.args.globals.now.language gs z body)) scope in
    let after = c.in_ok-statements.ensures.scope
    ∙ ap (λ (xs : List Statement). (typing.statements gs (scope_of c.in_ok-scope.scope) (v.statements_of xs)).scope) c.deref-2.ensures.value
    ∙ ap (λ (z : n.Scope). (typing.statements gs z body).scope) scope in
    let third = c.in_ok-result.ensures.noted
    ∙ ap (λ (z : n.Scope). noted g (rules.returned_faults c.args.globals.now.language gs z (v.function_of x) gives)) after in
    let before = rules.parameters_faults c.args.globals.now.language gs n.no_locals parameters in
    let inside = rules.statements_faults c.args.globals.now.language gs s body in
    let given = rules.returned_faults c.args.globals.now.language gs (typing.statements gs s body).scope (v.function_of x) gives in
    let returns = rules.return_faults c.args.globals.now.language gs (v.function_of x) in
    let result = rules.result_faults c.args.globals.now.language gs (option_map v.type_name_of x.type_name) in
    let all = noted_both faults h (first_of c.note_return.new.faults) (before ++ inside ++ given) returns
    (noted_both faults g h (before ++ inside) given (noted_both faults f g before inside first second) third)
    c.note_return.ensures in
    noted_both faults (first_of c.note_return.new.faults) (first_of c.note_result.new.faults) (before ++ inside ++ given ++ returns) result all
    c.note_result.ensures
