-- One more function.
use Rattle.std.proofs.Common.{refl, ap, ◌∙◌, ◌++◌, map, arith}
use Rattle.std.specs.Option.{option_map}
use Rattle.std.proofs.lemmas.List.Concat.{flat_map-cons}
use Rattle.c_tree.specs.Programs as p
use Rattle.c_tree.specs.Ranges.{statements_indexes, returned_indexes}
use Rattle.c_tree.specs.declared.program.Function.{Function}
use Rattle.c_ranges.specs.links.FirstUnfitIndex.{functions_indexes, first_fault}
use Rattle.c_ranges.proofs.Faults.{two_more}
use Rattle.c_ranges.proofs.indexes.of_functions.Goals as goal

pub loop-function-init : goal.loop-function-init
unfolding first_fault
loop-function-init c = refl

pub loop-function-preserved : goal.loop-function-preserved
loop-function-preserved c =
    let z = p.program_of c.args.program.now in
    let body = c.of_statements.ensures ∙ ap (λ xs. first_fault z (statements_indexes (p.statements_of xs))) c.deref.ensures.value in
    two_more z (λ (x : Function). statements_indexes (p.statements_of x.body.items)) (λ (x : Function). returned_indexes (option_map p.returned_of x.result))
    functions_indexes refl
    (λ x rest. flat_map-cons (λ (f : p.Function). statements_indexes f.body ++ returned_indexes f.result) (p.function_of x) (map p.function_of rest))
    c.args.functions.now c.loop-function.function-index c.function-item.result _ _ _ _ _ (omega arith) c.function-item.is
    c.earlier-first-in-loop-function.ensures c.earlier-first.ensures c.loop-function.invariant body c.of_returned.ensures
