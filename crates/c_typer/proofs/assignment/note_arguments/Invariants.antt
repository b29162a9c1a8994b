use Rattle.std.proofs.Common.{◌≡◌, map, drop}
use Rattle.c_tree.specs.TypeRules.{arguments_faults}
use Rattle.c_tree.specs.Views.{expression_of, type_name_of}
use Rattle.c_typer.specs.links.FirstFaults.{first_of, noted}
use Rattle.c_typer.specs.links.Scopes.{globals_of, scope_of}
use Rattle.c_typer.proofs.assignment.note_arguments.Given as goal

abbrev pub invariant-loop-i : goal.invariant-loop-i
invariant-loop-i l =
    noted (first_of l.faults) (arguments_faults l.globals.language (globals_of l.globals) (scope_of l.scope) l.place
    (map type_name_of (drop l.i l.parameters)) (map expression_of (drop l.i l.read)))
    ≡ noted (first_of l.initial.faults) (arguments_faults l.globals.language (globals_of l.globals) (scope_of l.scope) l.place
    (map type_name_of l.parameters) (map expression_of l.read))
