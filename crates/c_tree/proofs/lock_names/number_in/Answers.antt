use Rattle.std.proofs.Common.{◌≡◌, ◌<◌, List, drop, length, sym, ap, ◌∙◌, arith}
use Rattle.std.proofs.lemmas.List.{drop_all}
use Rattle.c_tree.specs.Exprs.{lock_ref_of}
use Rattle.c_tree.specs.declared.expr.LockRef.{LockRef}
use Rattle.c_tree.specs.LockNames.{number_in}
use Rattle.c_tree.specs.links.KnownNames.{names_of}
use Rattle.c_tree.proofs.KnownNames.{number_more, number_here}
use Rattle.c_tree.proofs.lock_names.number_in.Goals as goal

pub returns-then-same_lock : goal.returns-then-same_lock
returns-then-same_lock c =
    let names = c.args.names.now in
    let x = lock_ref_of c.args.lock in
    let i = c.loop-number.number in
    let within : i < length names = omega arith in
    number_here names x i c.index-names-number.result within c.index-names-number.is (sym c.same_lock.ensures ∙ c.if-same_lock.true) c.loop-number.invariant

pub loop-number-preserved : goal.loop-number-preserved
loop-number-preserved c =
    let names = c.args.names.now in
    let x = lock_ref_of c.args.lock in
    let i = c.loop-number.number in
    let within : i < length names = omega arith in
    number_more names x i c.index-names-number.result within c.index-names-number.is (sym c.same_lock.ensures ∙ c.if-same_lock.false) c.loop-number.invariant

pub returns : goal.returns
returns c =
    let names = c.args.names.now in
    let x = lock_ref_of c.args.lock in
    let i = c.loop-number.number in
    let past : number_in (names_of (drop i names)) x ≡ 0 = ap (λ (ys : List LockRef). number_in (names_of ys) x) (drop_all i names (omega arith)) in
    omega (arith, c.loop-number.invariant, past)
