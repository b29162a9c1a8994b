use Rattle.std.proofs.Common.{ℕ, ◌++◌, map, sym, ap, ◌∙◌}
use Rattle.std.specs.Option.{option_map}
use Rattle.ido_ints.specs.declared.kinds.Kind.{Kind}
use Rattle.ido_ints.specs.Reduction.{reduced}
use Rattle.c_tree.specs.Names as n
use Rattle.c_tree.specs.Names.{element_count}
use Rattle.c_tree.specs.TypeRules as rules
use Rattle.c_tree.specs.Elaboration as typing
use Rattle.c_tree.specs.Views as v
use Rattle.c_typer.specs.links.FirstFaults.{first_of, noted}
use Rattle.c_typer.specs.links.Scopes.{globals_of}
use Rattle.c_typer.proofs.FirstFaultLaws.{noted_none}
use Rattle.c_typer.proofs.RowSteps.{noted_both}
use Rattle.c_typer.proofs.item.variable.Goals as goal

pub returns-clause-made : goal.returns-clause-made
returns-clause-made c none =
    let gs = globals_of c.args.globals.now in
    let x = c.args.read.now in
    let size = option_map v.length_of x.length in
    let given = typing.numbers_of (option_map v.initialiser_of x.initialiser) in
    let refers = rules.type_name_faults c.args.globals.now.language gs n.no_locals (v.type_name_of x.type_name) in
    let before = first_of c.note_initialiser.new.faults in
    let outside = c.note_type_name.ensures
    ∙ ap (λ (z : n.Scope). noted before (rules.type_name_faults c.args.globals.now.language gs z (v.type_name_of x.type_name))) c.new-outside.ensures in
    let typed = noted_none before refers (sym outside ∙ none) in
    let initialised = rules.initialiser_faults (v.type_name_of x.type_name) size (option_map v.initialiser_of x.initialiser) in
    let earlier = noted_none (first_of c.note_length.new.faults) initialised
    (sym c.note_initialiser.ensures ∙ typed.0) in
    let allowed = noted_none (first_of c.note_each.new.faults) (rules.length_faults size) (sym c.note_length.ensures ∙ earlier.0) in
    let count = c.checked_count.ensures allowed.1 in
    let initial = c.in_ok-fill.ensures ∙ ap (λ (k : ℕ). typing.filled k c.in_ok-initial.initial.items) count
    ∙ ap (typing.filled (element_count size)) c.in_ok-initial.ensures
    ∙ ap (λ (k : Kind). typing.filled (element_count size) (map (reduced k) given)) c.kind-number_kind.ensures in
    let length = c.checked_length.ensures allowed.1 in
    let refers_to = c.number_of.ensures ∙ ap (option_map (λ (a : n.Array). a.number)) c.referred.ensures in
    (λ i. record {
      name = c.in_ok-copied.ensures i;
      guard = c.in_ok-guard.ensures.made i;
      kind = c.kind-number_kind.ensures i;
      refers = refers_to i;
      length = length i;
      initial = initial i;
    })

pub returns-clause-noted : goal.returns-clause-noted
returns-clause-noted c =
    let gs = globals_of c.args.globals.now in
    let x = c.args.read.now in
    let size = option_map v.length_of x.length in
    let guard = rules.mutex_faults c.args.globals.now.language gs n.no_locals (v.name_of x.guard.mutex) x.guard.each in
    let each = rules.each_faults c.args.globals.now.language gs (v.persistent_of x) in
    let long = rules.length_faults size in
    let given = rules.initialiser_faults (v.type_name_of x.type_name) size (option_map v.initialiser_of x.initialiser) in
    let before = first_of c.note_initialiser.new.faults in
    let outside = c.note_type_name.ensures
    ∙ ap (λ (z : n.Scope). noted before (rules.type_name_faults c.args.globals.now.language gs z (v.type_name_of x.type_name))) c.new-outside.ensures in
    noted_both _ _ _ (guard ++ each ++ long ++ given) (rules.type_name_faults c.args.globals.now.language gs n.no_locals (v.type_name_of x.type_name))
    (noted_both _ _ _ (guard ++ each ++ long) given
    (noted_both _ _ _ (guard ++ each) long (noted_both _ _ _ guard each c.in_ok-guard.ensures.noted c.note_each.ensures) c.note_length.ensures)
    c.note_initialiser.ensures) outside
