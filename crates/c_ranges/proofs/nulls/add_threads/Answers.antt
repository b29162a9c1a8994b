-- One more thread.
use Rattle.std.proofs.Common.{◌+◌, ◌++◌, [], List, ap, ◌∙◌, drop, map, arith}
use Rattle.std.proofs.lemmas.List.{drop_all}
use Rattle.std.proofs.lemmas.List.Concat.{flat_map-cons}
use Rattle.c_tree.specs.NullReferences.{statements_nulls}
use Rattle.c_tree.specs.Programs as p
use Rattle.c_tree.specs.declared.program.Statement.{Statement}
use Rattle.c_ranges.specs.links.FirstNull.{threads_nulls}
use Rattle.c_ranges.proofs.NullLists.{next_left, none_left, passed}
use Rattle.c_ranges.proofs.nulls.add_threads.Goals as goal

pub loop-thread-preserved : goal.loop-thread-preserved
loop-thread-preserved c =
    let xs = c.args.threads.now in
    let i = c.loop-thread.thread-index in
    let x = c.thread-item.result in
    let first = c.in_ok-add_statements.ensures
    ∙ ap (λ (ys : List Statement). c.loop-thread.places.items ++ statements_nulls [] (p.statements_of ys)) c.deref.ensures.value in
    passed _ _ (statements_nulls [] (p.statements_of x.body.items)) _ _ _ first
    (ap threads_nulls (next_left xs i x (omega arith) c.thread-item.is)
    ∙ flat_map-cons (λ (t : p.Thread). statements_nulls [] t.body) (p.thread_of x) (map p.thread_of (drop (i + 1) xs)))
    c.loop-thread.invariant

pub returns : goal.returns
returns c = none_left _ _ _ (ap threads_nulls (drop_all c.loop-thread.thread-index c.args.threads.now (omega arith))) c.loop-thread.invariant
