use Rattle.std.proofs.Common.{◌≡◌, None, map, flat_map}
use Rattle.c_tree.specs.Programs.{program_of}
use Rattle.c_tree.specs.TypeRules.{item_faults}
use Rattle.c_tree.specs.Elaboration.{program_from}
use Rattle.c_tree.specs.Views.{item_of}
use Rattle.c_typer.specs.links.FirstFaults.{first_of, noted}
use Rattle.c_typer.specs.links.Scopes.{globals_of}
use Rattle.c_typer.specs.links.JoinedPrograms.{joined}
use Rattle.c_typer.proofs.program.items.Given as goal

abbrev pub invariant-loop-item : goal.invariant-loop-item
invariant-loop-item l = record {
  made :
      first_of l.faults ≡ None → joined (program_of l.made) (program_from (globals_of l.globals) (map item_of (l.item-iterator.rest.items)))
      ≡ program_from (globals_of l.globals) (map item_of l.fn.tree.items.items);
  noted :
      noted (first_of l.faults) (flat_map (item_faults l.globals.language (globals_of l.globals)) (map item_of (l.item-iterator.rest.items)))
      ≡ noted (first_of l.initial.faults) (flat_map (item_faults l.globals.language (globals_of l.globals)) (map item_of l.fn.tree.items.items));
}
