-- One more thread.
use Rattle.std.proofs.Common.{refl, ap, ◌∙◌, map, arith}
use Rattle.std.proofs.lemmas.List.Concat.{flat_map-cons}
use Rattle.c_tree.specs.Programs as p
use Rattle.c_tree.specs.Ranges.{statements_indexes}
use Rattle.c_tree.specs.declared.program.Thread.{Thread}
use Rattle.c_ranges.specs.links.FirstUnfitIndex.{threads_indexes, first_fault}
use Rattle.c_ranges.proofs.Faults.{one_more}
use Rattle.c_ranges.proofs.indexes.of_threads.Goals as goal

pub loop-thread-init : goal.loop-thread-init
unfolding first_fault
loop-thread-init c = refl

pub loop-thread-preserved : goal.loop-thread-preserved
loop-thread-preserved c =
    let z = p.program_of c.args.program.now in
    let body = c.of_statements.ensures ∙ ap (λ xs. first_fault z (statements_indexes (p.statements_of xs))) c.deref.ensures.value in
    one_more z (λ (x : Thread). statements_indexes (p.statements_of x.body.items)) threads_indexes refl
    (λ x rest. flat_map-cons (λ (t : p.Thread). statements_indexes t.body) (p.thread_of x) (map p.thread_of rest))
    c.args.threads.now c.loop-thread.thread-index c.thread-item.result _ _ _ (omega arith) c.thread-item.is c.earlier-first.ensures c.loop-thread.invariant body
