use Rattle.std.proofs.Common.{ap, sym, ◌∙◌}
use Rattle.std.specs.Option.{option_map}
use Rattle.c_tree.specs.TypeRules.{initialiser_faults}
use Rattle.c_tree.specs.Views as v
use Rattle.c_tree.specs.declared.tree.TypeName.{TypeName}
use Rattle.c_typer.specs.links.FirstFaults.{first_of, noted}
use Rattle.c_typer.proofs.item.note_initialiser.Goals as goal

pub returns-in-Reference : goal.returns-in-Reference
returns-in-Reference c =
    let size = option_map v.length_of c.args.length.now in
    let read = option_map v.initialiser_of c.args.initialiser.now in
    c.note_no_initialiser.ensures (v.name_of c.in-Reference.array) size
    ∙ ap (λ (x : TypeName). noted (first_of c.args.faults.now) (initialiser_faults (v.type_name_of x) size read)) (sym c.in-Reference.is)
