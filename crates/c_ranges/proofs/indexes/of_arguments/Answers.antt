-- One more argument.
use Rattle.std.proofs.Common.{refl, List, map, flat_map, arith}
use Rattle.std.proofs.lemmas.List.Concat.{flat_map-cons}
use Rattle.c_tree.specs.Exprs.{placed_of}
use Rattle.c_tree.specs.Programs.{program_of}
use Rattle.c_tree.specs.Ranges.{placed_indexes}
use Rattle.c_tree.specs.declared.expr.Placed.{Placed}
use Rattle.c_ranges.specs.links.FirstUnfitIndex.{first_fault}
use Rattle.c_ranges.proofs.Faults.{one_more}
use Rattle.c_ranges.proofs.indexes.of_arguments.Goals as goal

pub loop-argument-init : goal.loop-argument-init
unfolding first_fault
loop-argument-init c = refl

pub loop-argument-preserved : goal.loop-argument-preserved
loop-argument-preserved c =
    one_more (program_of c.args.program.now) (λ (x : Placed). placed_indexes (placed_of x))
    (λ (xs : List Placed). flat_map placed_indexes (map placed_of xs)) refl
    (λ x rest. flat_map-cons placed_indexes (placed_of x) (map placed_of rest))
    c.args.arguments.now c.loop-argument.argument-index c.argument-item.result _ _ _ (omega arith) c.argument-item.is c.earlier-first.ensures
    c.loop-argument.invariant c.of_placed.ensures
