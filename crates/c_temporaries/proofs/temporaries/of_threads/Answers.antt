use Rattle.std.proofs.Common.{refl, ap, ◌∙◌, map, List, arith}
use Rattle.c_tree.specs.Flats.{thread_of, statements_of}
use Rattle.c_tree.specs.Temporaries.{statements_exprs}
use Rattle.c_tree.specs.declared.flat.Statement.{Statement}
use Rattle.c_tree.specs.declared.flat.Thread.{Thread}
use Rattle.c_temporaries.specs.links.FirstDeepExpression.{first_deep, threads_exprs}
use Rattle.c_temporaries.proofs.FirstDeepExpressionLaws.{one_more}
use Rattle.c_temporaries.proofs.temporaries.of_threads.Goals as goal

pub loop-thread-init : goal.loop-thread-init
unfolding first_deep
loop-thread-init c = refl

pub loop-thread-preserved : goal.loop-thread-preserved
loop-thread-preserved c =
    one_more (λ (x : Thread). statements_exprs (statements_of x.body.items)) (λ (xs : List Thread). threads_exprs (map thread_of xs)) refl (λ x rest. refl)
    c.args.threads.now c.loop-thread.thread-index c.thread-item.result _ _ _ (omega arith) c.thread-item.is c.or-first.ensures c.loop-thread.invariant
    (c.of_statements.ensures ∙ ap (λ (xs : List Statement). first_deep (statements_exprs (statements_of xs))) c.deref.ensures.value)
