use Rattle.std.proofs.Common.{◌≡◌, map, take}
use Rattle.c_tree.specs.Trees as t
use Rattle.c_tree.specs.Views.{parameter_of, type_name_of}
use Rattle.c_typer.proofs.globals.types_of.Given as goal

abbrev pub invariant-loop-parameter : goal.invariant-loop-parameter
invariant-loop-parameter l =
    map type_name_of l.types.items ≡ map (λ (x : t.Parameter). x.type_name) (map parameter_of (take l.parameter-index l.parameters))
