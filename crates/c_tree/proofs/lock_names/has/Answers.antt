use Rattle.std.proofs.Common.{◌<◌, List, true, false, length, sym, ap, ◌∙◌, arith}
use Rattle.std.specs.List.{list_any}
use Rattle.std.proofs.lemmas.List.{drop_all}
use Rattle.c_tree.specs.Exprs.{lock_ref_of}
use Rattle.c_tree.specs.declared.expr.LockRef.{LockRef}
use Rattle.c_tree.specs.LockNames.{same_lock}
use Rattle.c_tree.specs.links.KnownNames.{names_of}
use Rattle.c_tree.proofs.KnownNames.{any_more}
use Rattle.c_tree.proofs.lock_names.has.Goals as goal

pub returns-then-same_lock : goal.returns-then-same_lock
returns-then-same_lock c =
    let names = c.args.names.now in
    let x = lock_ref_of c.args.lock in
    let within : c.loop-name.name-index < length names = omega arith in
    sym (c.loop-name.invariant
    ∙ any_more names x c.loop-name.name-index c.name-item.result within c.name-item.is (same_lock x) true (sym c.same_lock.ensures ∙ c.if-same_lock.true))

pub loop-name-preserved : goal.loop-name-preserved
loop-name-preserved c =
    let names = c.args.names.now in
    let x = lock_ref_of c.args.lock in
    let within : c.loop-name.name-index < length names = omega arith in
    c.loop-name.invariant
    ∙ any_more names x c.loop-name.name-index c.name-item.result within c.name-item.is (same_lock x) false (sym c.same_lock.ensures ∙ c.if-same_lock.false)

pub returns : goal.returns
returns c =
    let names = c.args.names.now in
    let x = lock_ref_of c.args.lock in
    sym (c.loop-name.invariant ∙ ap (λ (ys : List LockRef). list_any (same_lock x) (names_of ys)) (drop_all c.loop-name.name-index names (omega arith)))
