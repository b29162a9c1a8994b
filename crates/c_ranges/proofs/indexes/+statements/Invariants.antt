use Rattle.std.proofs.Common.{◌≡◌, take}
use Rattle.c_tree.specs.Programs.{program_of, statements_of, arms_list_of}
use Rattle.c_tree.specs.Ranges.{statements_indexes, arms_indexes}
use Rattle.c_ranges.specs.links.FirstUnfitIndex.{first_fault}
use Rattle.c_ranges.proofs.indexes.+statements.Given as goal

-- what was found in the statements before
abbrev pub invariant-of_statements-loop-statement : goal.invariant-of_statements-loop-statement
invariant-of_statements-loop-statement l =
    l.first ≡ first_fault (program_of l.program) (statements_indexes (statements_of (take l.statement-index l.statements)))

-- what was found in the arms before
abbrev pub invariant-of_arms-loop-arm : goal.invariant-of_arms-loop-arm
invariant-of_arms-loop-arm l = l.first ≡ first_fault (program_of l.program) (arms_indexes (arms_list_of (take l.arm-index l.arms)))
