use Rattle.std.proofs.Common.{◌≡◌, ◌++◌, drop}
use Rattle.c_ranges.specs.links.FirstNull.{functions_nulls}
use Rattle.c_ranges.proofs.nulls.add_functions.Given as goal

abbrev pub invariant-loop-function : goal.invariant-loop-function
invariant-loop-function l = l.places.items ++ functions_nulls (drop l.function-index l.functions) ≡ l.initial.places.items ++ functions_nulls l.functions
