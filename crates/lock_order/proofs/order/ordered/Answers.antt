use Rattle.std.proofs.Common.{◌<◌, ◌∙◌, List, length, get_or, ap, arith}
use Rattle.std.proofs.lemmas.Result.{err_from_is_err_and}
use Rattle.c_tree.specs.declared.flat.Thread.{Thread}
use Rattle.lock_order.proofs.Walks.{flat_refuses, thread_keeps, no_thread_breaks}
use Rattle.lock_order.proofs.order.ordered.Goals as goal

pub returns-in_err-walk_thread-clause-refuses : goal.returns-in_err-walk_thread-clause-refuses
returns-in_err-walk_thread-clause-refuses c =
    let q = err_from_is_err_and c.from_residual.result c.from_residual.ensures.1 in
    let x = c.args.flat.now in
    let t = c.thread-item.result in
    let item = c.thread-item.is ∙ ap (λ (xs : List Thread). get_or xs c.loop-thread.thread-index t) c.deref-thread-items.ensures.value in
    let within : c.loop-thread.thread-index < length x.threads.items = omega arith in
    rw (q.1, q.2)
    (flat_refuses x c.loop-thread.thread-index t c.deref.result.now c.deref.ensures.value within item c.loop-thread.invariant
    c.in_err-walk_thread.field-0.0 c.in_err-walk_thread.ensures)

pub loop-thread-preserved : goal.loop-thread-preserved
loop-thread-preserved c =
    let x = c.args.flat.now in
    let t = c.thread-item.result in
    let item = c.thread-item.is ∙ ap (λ (xs : List Thread). get_or xs c.loop-thread.thread-index t) c.deref-thread-items.ensures.value in
    let within : c.loop-thread.thread-index < length x.threads.items = omega arith in
    thread_keeps x c.loop-thread.thread-index t c.deref.result.now c.deref.ensures.value within item c.loop-thread.invariant c.in_ok-walk_thread.ensures

pub returns-clause-accepts : goal.returns-clause-accepts
returns-clause-accepts c = no_thread_breaks c.args.flat.now c.loop-thread.thread-index (omega arith) c.loop-thread.invariant
