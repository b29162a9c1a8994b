use Rattle.std.proofs.Common.{sym, ap, ap₂, ◌∙◌}
use Rattle.c_tree.specs.Names as n
use Rattle.c_tree.specs.Views as v
use Rattle.c_typer.specs.links.Meanings.{fault_at, function_rule, count_rule}
use Rattle.c_typer.specs.links.FirstFaults.{first_of, noted}
use Rattle.c_typer.specs.links.Scopes.{globals_of, scope_of}
use Rattle.c_typer.proofs.FirstFaultLaws.{noted_append}
use Rattle.c_typer.proofs.Uses.{function_is}
use Rattle.c_typer.proofs.assignment.note_call.Goals as goal

pub returns : goal.returns
returns c =
    let gs = globals_of c.args.globals.now in
    let s = scope_of c.args.scope.now in
    let x = c.args.name.now in
    let known = n.meaning gs s x.text.items in
    let faults = first_of c.args.faults.now in
    let meaning = c.resolve-meaning.ensures ∙ ap (n.meaning gs s) c.deref.ensures.value in
    let rule = c.function_rule.ensures ∙ ap (λ m. function_rule m c.args.assigned) meaning in
    let count = c.count_rule.ensures ∙ ap (λ m. count_rule m c.args.arguments) meaning in
    c.note_some-2.ensures
    ∙ ap₂ (λ first rule. noted first (fault_at rule x.place)) (c.note_some.ensures ∙ ap (λ rule. noted faults (fault_at rule x.place)) rule) count
    ∙ sym (noted_append faults (fault_at (function_rule known c.args.assigned) x.place) (fault_at (count_rule known c.args.arguments) x.place))
    ∙ ap (noted faults) (sym (function_is c.args.globals.now.language gs s (v.name_of x) c.args.assigned c.args.arguments))
