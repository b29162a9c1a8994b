use Rattle.std.proofs.Common.{◌≡◌, ℕ, List, ◌++◌, Bool, length, map, flat_map, is_some, arith, ap, ap₂, ◌∙◌}
use Rattle.std.proofs.lemmas.List.{length-map}
use Rattle.c_tree.specs.Names as n
use Rattle.c_tree.specs.Trees as t
use Rattle.c_tree.specs.TypeRules as rules
use Rattle.c_tree.specs.Views as v
use Rattle.c_tree.specs.declared.tree.Expression.{Expression}
use Rattle.c_typer.specs.links.FirstFaults.{first_of, noted}
use Rattle.c_typer.specs.links.Meanings.{parameters_as}
use Rattle.c_typer.specs.links.Scopes.{globals_of, scope_of}
use Rattle.c_typer.proofs.RowSteps.{noted_both}
use Rattle.c_typer.proofs.Uses.{parameters_is}
use Rattle.c_typer.proofs.assignment.call.Goals as goal

pub returns-clause-noted : goal.returns-clause-noted
returns-clause-noted c =
    let l = c.args.globals.now.language in
    let gs = globals_of c.args.globals.now in
    let s = scope_of c.args.scope.now in
    let x = v.name_of c.args.read.now.function in
    let xs = c.args.read.now.arguments.items in
    let first = first_of c.args.faults.now in
    let second = first_of c.note_call.new.faults in
    let third = first_of c.arguments.new.faults in
    let function = rules.function_faults l gs s x (is_some c.args.result_target) (length (map v.expression_of xs)) in
    let inside = flat_map (rules.expression_faults l gs s) (map v.expression_of xs) in
    let passed = rules.arguments_faults l gs s x.place (rules.parameters_of l gs s x) (map v.expression_of xs) in
    let count : c.len.result ≡ length (map v.expression_of xs)
    = omega (arith, c.len.ensures, c.args.read.now.arguments.ok, length-map xs v.expression_of) in
    let called = c.note_call.ensures ∙ ap₂ (λ (b : Bool) (k : ℕ). noted first (rules.function_faults l gs s x b k)) c.is_some.ensures count in
    let given = c.in_ok-arguments.ensures.noted
    ∙ ap (λ (ys : List Expression). noted second (flat_map (rules.expression_faults l gs s) (map v.expression_of ys))) c.deref.ensures.value in
    let meaning = c.resolve.ensures ∙ ap (n.meaning gs s) c.deref-2.ensures.value in
    let parameters = c.parameters-parameters.ensures ∙ ap parameters_as meaning ∙ parameters_is l gs s x in
    let taken = c.note_arguments.ensures
    ∙ ap₂ (λ (ps : List t.TypeName) (ys : List Expression). noted third (rules.arguments_faults l gs s x.place ps (map v.expression_of ys))) parameters
    c.deref-3.ensures.value in
    noted_both first third _ (function ++ inside) passed (noted_both first second third function inside called given) taken
