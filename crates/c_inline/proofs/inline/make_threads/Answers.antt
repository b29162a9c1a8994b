use Rattle.std.proofs.Common.{◌<◌, ◌≤◌, List, length, map, arith, ap, sym, ◌∙◌, subst}
use Rattle.std.specs.Prelude.{IfErr}
use Rattle.std.proofs.lemmas.Grind.{common_steps}
use Rattle.std.proofs.lemmas.List.{drop_all}
use Rattle.ido_base.specs.declared.limits.TheConstants.{MOST_PRICE}
use Rattle.c_tree.specs.Flats as f
use Rattle.c_tree.specs.HoldPrices.{full_price}
use Rattle.c_tree.specs.Programs.{function_of, mutex_of, thread_of}
use Rattle.c_tree.specs.declared.program.Thread.{Thread}
use Rattle.c_inline.specs.links.Faults.{IsThreadFault, fault_among, form_with}
use Rattle.c_inline.proofs.ThreadFaults.{fault_later, fault_told, told_error}
use Rattle.c_inline.proofs.inline.make_threads.Goals as goal

pub loop-thread-preserved : goal.loop-thread-preserved
loop-thread-preserved c =
    let fs = map function_of c.args.bodies.functions.now in
    let ms = map mutex_of c.args.mutexes.now in
    let xs = c.args.threads.now in
    let i = c.loop-thread.thread-index in
    let within : i < length xs = omega arith in
    record {
      made = grind (arith, common_steps);
      left = sym (fault_later c.args.language ms fs xs i c.thread-item.result within c.thread-item.is
          (subst (λ (t : f.Thread). full_price c.args.language (form_with ms) t ≤ MOST_PRICE) c.in_ok-flat.ensures.made c.in_ok-flat.ensures.cheap))
          ∙ c.loop-thread.invariant.left;
    }

pub returns-in_err-flat-clause-dear : goal.returns-in_err-flat-clause-dear
returns-in_err-flat-clause-dear c =
    let fs = map function_of c.args.bodies.functions.now in
    let ms = map mutex_of c.args.mutexes.now in
    let xs = c.args.threads.now in
    let i = c.loop-thread.thread-index in
    let within : i < length xs = omega arith in
    let found = c.in_err-flat.field-0.0 in
    told_error (λ r. IfErr r (IsThreadFault c.args.language ms fs (map thread_of xs))) found c.from_residual-in_err-flat.result
    c.from_residual-in_err-flat.ensures.1
    (fault_told c.args.language ms fs xs i c.thread-item.result within c.thread-item.is found c.in_err-flat.ensures.dear c.loop-thread.invariant.left)

pub returns-clause-cheap : goal.returns-clause-cheap
returns-clause-cheap c =
    sym c.loop-thread.invariant.left
    ∙ ap (λ (ys : List Thread). fault_among c.args.language (map mutex_of c.args.mutexes.now) (map function_of c.args.bodies.functions.now) (map thread_of ys))
    (drop_all c.loop-thread.thread-index c.args.threads.now (omega arith))
