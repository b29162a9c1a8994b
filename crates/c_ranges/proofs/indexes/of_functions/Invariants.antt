use Rattle.std.proofs.Common.{◌≡◌, take}
use Rattle.c_tree.specs.Programs.{program_of}
use Rattle.c_ranges.specs.links.FirstUnfitIndex.{functions_indexes, first_fault}
use Rattle.c_ranges.proofs.indexes.of_functions.Given as goal

-- what was found in the functions before
abbrev pub invariant-loop-function : goal.invariant-loop-function
invariant-loop-function l = l.first ≡ first_fault (program_of l.program) (functions_indexes (take l.function-index l.functions))
