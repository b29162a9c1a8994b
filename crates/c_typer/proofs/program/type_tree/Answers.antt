use Rattle.std.proofs.Common.{◌≡◌, Option, None, flat_map, sym, ap, ◌∙◌}
use Rattle.std.specs.Option.{option_map}
use Rattle.c_tree.specs.declared.language.Language.{Language}
use Rattle.c_tree.specs.LexicalScan.{Fault}
use Rattle.c_tree.specs.TypeRules as rules
use Rattle.c_tree.specs.TypeRules.{type_faults}
use Rattle.c_tree.specs.Views.{items_of}
use Rattle.c_tree.specs.Refusals.{fault_of}
use Rattle.c_typer.specs.links.FirstFaults.{first_of, noted}
use Rattle.c_typer.specs.links.Scopes.{globals_of}
use Rattle.c_typer.proofs.FirstFaultLaws.{first_is_first, noted_none}
use Rattle.c_typer.proofs.RowSteps.{all_noted, program_is}
use Rattle.c_typer.proofs.program.type_tree.Goals as goal

pub returns-in-None : goal.returns-in-None
returns-in-None c =
    let xs = items_of c.args.tree in
    let gs = globals_of c.in_ok-globals.globals in
    let known = c.in_ok-globals.ensures.names in
    let told : Language → Option Fault = λ l. noted (first_of c.note_bytes.new.faults) (flat_map (rules.item_faults l gs) xs) in
    let all = all_noted c.args.language xs gs _ _ _ _ _ _ known c.new-faults.ensures c.note_second_declarations.ensures c.note_threads.ensures
    c.note_mutexes.ensures
    c.note_bytes.ensures (c.in_ok-program.ensures.noted ∙ ap told c.in_ok-globals.ensures.language) in
    let none : first_of c.items.new.faults ≡ None = ap (option_map fault_of) c.in-None.is in
    ((noted_none None (type_faults c.args.language xs) (sym all ∙ none)).1, c.in_ok-program.ensures.made none ∙ program_is xs gs known)

pub returns : goal.returns
returns c =
    let xs = items_of c.args.tree in
    let gs = globals_of c.in_ok-globals.globals in
    let told : Language → Option Fault = λ l. noted (first_of c.note_bytes.new.faults) (flat_map (rules.item_faults l gs) xs) in
    let all = all_noted c.args.language xs gs _ _ _ _ _ _ c.in_ok-globals.ensures.names c.new-faults.ensures c.note_second_declarations.ensures
    c.note_threads.ensures
    c.note_mutexes.ensures c.note_bytes.ensures (c.in_ok-program.ensures.noted ∙ ap told c.in_ok-globals.ensures.language) in
    first_is_first (type_faults c.args.language xs) (fault_of c.in-Some.refusal) (sym all ∙ ap (option_map fault_of) c.in-Some.is)
