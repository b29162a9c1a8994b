use Rattle.std.proofs.Common.{◌≡◌, ◌∙◌, ap, length, refl, subst, sym, List}
use Rattle.std.specs.Prelude.{IfOk, Vec, slice_get}
use Rattle.std.specs.Global.{Global}
use Rattle.std.proofs.lemmas.Option.{slice_get_read}
use Rattle.c_tree.specs.Exprs.{LockName}
use Rattle.c_tree.specs.declared.expr.LockRef.{LockRef}
use Rattle.c_tree.specs.declared.flat.Thread.{Thread}
use Rattle.c_tree.specs.links.KnownNames.{names_of}
use Rattle.image_checks.proofs.BankLocals.{names_there}
use Rattle.image_checks.proofs.bank.names_of_thread.Goals as goal

pub returns-in-Some : goal.returns-in-Some
returns-in-Some c =
    let read = c.in-Some.ensures.lookup in
    let xs = c.deref.result.now in
    let there = slice_get_read xs (length xs) c.args.thread c.in-Some.found.now refl read.3.0 read.1 in
    let own = names_there c.args.flat.now c.args.thread c.in-Some.found.now
    (ap (λ (ts : List Thread). slice_get ts c.args.thread) (sym c.deref.ensures.value) ∙ there) in
    subst (λ (ns : List LockName). IfOk c.names_in.result (λ (names : Vec LockRef Global). names_of names.items ≡ ns)) (sym own) c.names_in.ensures
