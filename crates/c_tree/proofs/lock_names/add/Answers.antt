use Rattle.std.proofs.Common.{◌≡◌, List, [], ◌∷◌, true, false, sym, ap, ◌∙◌}
use Rattle.std.specs.List.{list_any}
use Rattle.std.proofs.lemmas.List.{map-append}
use Rattle.c_tree.specs.Exprs.{LockName, lock_ref_of}
use Rattle.c_tree.specs.declared.expr.LockRef.{LockRef}
use Rattle.c_tree.specs.LockNames.{same_lock}
use Rattle.c_tree.specs.links.KnownNames.{names_of, known_then}
use Rattle.c_tree.proofs.KnownNames.{known_old, known_new}
use Rattle.c_tree.proofs.lock_names.add.Goals as goal

pub returns-then-has : goal.returns-then-has
returns-then-has c =
    let old = names_of c.args.names.now.items in
    let x = lock_ref_of c.args.lock in
    let known : list_any (same_lock x) old ≡ true =
    sym (c.has.ensures ∙ ap (λ (ys : List LockRef). list_any (same_lock x) (names_of ys)) c.deref.ensures.value) ∙ c.if-has.true in
    λ rest. known_old old x rest known

pub returns : goal.returns
returns c =
    let old = names_of c.args.names.now.items in
    let x = lock_ref_of c.args.lock in
    let known : list_any (same_lock x) old ≡ false =
    sym (c.has.ensures ∙ ap (λ (ys : List LockRef). list_any (same_lock x) (names_of ys)) c.deref.ensures.value) ∙ c.if-has.false in
    λ rest. ap (λ (ns : List LockName). known_then ns rest)
    (ap names_of c.in_ok-push.ensures.items ∙ map-append lock_ref_of c.args.names.now.items (c.args.lock ∷ [])) ∙ known_new old x rest known
