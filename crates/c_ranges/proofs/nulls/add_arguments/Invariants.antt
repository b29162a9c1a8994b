use Rattle.std.proofs.Common.{◌≡◌, ◌++◌, drop, map, flat_map}
use Rattle.c_tree.specs.Exprs.{placed_of}
use Rattle.c_tree.specs.NullReferences.{placed_nulls}
use Rattle.c_ranges.proofs.nulls.add_arguments.Given as goal

abbrev pub invariant-loop-argument : goal.invariant-loop-argument
invariant-loop-argument l =
    l.places.items ++ flat_map (placed_nulls l.known) (map placed_of (drop l.argument-index l.arguments))
    ≡ l.initial.places.items ++ flat_map (placed_nulls l.known) (map placed_of l.arguments)
