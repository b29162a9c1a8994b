use Rattle.std.proofs.Common.{◌≡◌, ◌<◌, ◌∙◌, List, length, map, get_or, Some, ap, arith}
use Rattle.std.proofs.lemmas.Result.{err_from_is_err_and}
use Rattle.c_tree.specs.declared.flat.Thread.{Thread}
use Rattle.c_tree.specs.Flats.{flat_of, thread_of}
use Rattle.c_tree.specs.LockNames.{lock_names}
use Rattle.c_tree.specs.Programs.{variable_of}
use Rattle.c_tree.specs.links.KnownNames.{names_of}
use Rattle.c_tree.specs.LockDiscipline.{Broken, walk_thread, lock_fault}
use Rattle.lock_discipline.specs.Faults.{fault_of}
use Rattle.lock_discipline.proofs.Refusals.{same_fault}
use Rattle.lock_discipline.proofs.Threads.{own_names, thread_breaks, thread_keeps, no_thread_breaks, next_row, all_rows}
use Rattle.lock_discipline.proofs.held.check.Goals as goal

pub returns-in_err-walk_thread-clause-refuses : goal.returns-in_err-walk_thread-clause-refuses
returns-in_err-walk_thread-clause-refuses c =
    let q = err_from_is_err_and c.from_residual-in_err-walk_thread.result c.from_residual-in_err-walk_thread.ensures.1 in
    let x = c.args.flat.now in
    let t = c.thread-item.result in
    let names = names_of c.deref-in-loop-thread-3.result.now in
    let own : names ≡ lock_names (flat_of x) (thread_of t) =
    own_names x t c.deref-in-loop-thread-3.result.now c.in_ok-names.names.items c.deref.result.now c.deref-in-loop-thread.result.now
    c.deref-in-loop-thread-3.ensures.value c.deref.ensures.value
    c.deref-in-loop-thread.ensures.value c.in_ok-names.ensures in
    let item = c.thread-item.is ∙ ap (λ (xs : List Thread). get_or xs c.loop-thread.thread-index t) c.deref-thread-items.ensures.value in
    let within : c.loop-thread.thread-index < length x.threads.items = omega arith in
    rw (q.1, q.2) (same_fault (fault_of c.in_err-walk_thread.field-0.0)
    (λ fault. walk_thread c.args.language (map variable_of c.deref-in-loop-thread-2.result.now) names (thread_of t) ≡ Broken fault)
    (λ fault. lock_fault c.args.language (flat_of x) ≡ Some fault)
    (thread_breaks c.args.language x c.loop-thread.thread-index t c.deref-in-loop-thread-2.ensures.value own within item
    c.loop-thread.invariant.walk)
    c.in_err-walk_thread.ensures.walk)

pub loop-thread-preserved : goal.loop-thread-preserved
loop-thread-preserved c =
    let x = c.args.flat.now in
    let t = c.thread-item.result in
    let names = names_of c.deref-in-loop-thread-3.result.now in
    let own : names ≡ lock_names (flat_of x) (thread_of t) =
    own_names x t c.deref-in-loop-thread-3.result.now c.in_ok-names.names.items c.deref.result.now c.deref-in-loop-thread.result.now
    c.deref-in-loop-thread-3.ensures.value c.deref.ensures.value
    c.deref-in-loop-thread.ensures.value c.in_ok-names.ensures in
    let item = c.thread-item.is ∙ ap (λ (xs : List Thread). get_or xs c.loop-thread.thread-index t) c.deref-thread-items.ensures.value in
    let within : c.loop-thread.thread-index < length x.threads.items = omega arith in
    record {
      walk =
          thread_keeps c.args.language x c.loop-thread.thread-index t c.deref-in-loop-thread-2.ensures.value own within item
          c.loop-thread.invariant.walk c.in_ok-walk_thread.ensures.walk;
      sets = next_row x c.loop-thread.thread-index t names c.in_ok-walk_thread.field-0 _ _ own within item c.in_ok-push.ensures.items
          c.in_ok-walk_thread.ensures.sets c.loop-thread.invariant.sets;
    }

pub returns-clause-accepts : goal.returns-clause-accepts
returns-clause-accepts c = no_thread_breaks c.args.language c.args.flat.now c.loop-thread.thread-index (omega arith) c.loop-thread.invariant.walk

pub returns-clause-sets : goal.returns-clause-sets
returns-clause-sets c = all_rows c.args.language c.args.flat.now c.requires c.loop-thread.thread-index c.loop-thread.threads.items
    (omega arith) c.loop-thread.invariant.walk c.loop-thread.invariant.sets
