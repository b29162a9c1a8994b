use Rattle.std.proofs.Common.{◌≡◌, take, map, flat_map}
use Rattle.c_tree.specs.Exprs.{placed_of}
use Rattle.c_tree.specs.Programs.{program_of}
use Rattle.c_tree.specs.Ranges.{placed_indexes}
use Rattle.c_ranges.specs.links.FirstUnfitIndex.{first_fault}
use Rattle.c_ranges.proofs.indexes.of_arguments.Given as goal

-- what was found in the arguments before
abbrev pub invariant-loop-argument : goal.invariant-loop-argument
invariant-loop-argument l = l.first ≡ first_fault (program_of l.program) (flat_map placed_indexes (map placed_of (take l.argument-index l.arguments)))
