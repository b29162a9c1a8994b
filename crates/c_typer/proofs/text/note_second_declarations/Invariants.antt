use Rattle.std.proofs.Common.{◌≡◌, [], map, take, drop}
use Rattle.c_tree.specs.TypeRules.{twice_from}
use Rattle.c_typer.specs.links.FirstFaults.{first_of, noted}
use Rattle.c_typer.specs.links.Scopes.{global_of, names_before}
use Rattle.c_typer.proofs.text.note_second_declarations.Given as goal

abbrev pub invariant-loop-i : goal.invariant-loop-i
invariant-loop-i l =
    noted (first_of l.faults) (twice_from (names_before (take l.i l.globals.declared.items)) (map global_of (drop l.i l.globals.declared.items)))
    ≡ noted (first_of l.initial.faults) (twice_from [] (map global_of l.globals.declared.items))
