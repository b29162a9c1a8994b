use Rattle.std.proofs.Common.{◌∙◌, ap, arith, length, refl, sym, List}
use Rattle.std.specs.Prelude.{slice_get}
use Rattle.c_tree.specs.declared.flat.Thread.{Thread}
use Rattle.std.proofs.lemmas.Option.{slice_get_read}
use Rattle.image_checks.proofs.BankLocals.{kinds_there}
use Rattle.image_checks.proofs.bank.locals_of_thread.Goals as goal

pub returns-in-Some : goal.returns-in-Some
returns-in-Some c =
    let read = c.in-Some.ensures.lookup in
    let xs = c.deref.result.now in
    let there = slice_get_read xs (length xs) c.args.thread c.in-Some.found.now refl read.3.0 read.1 in
    let kinds = kinds_there c.args.flat.now c.args.thread c.in-Some.found.now
    (ap (λ (ts : List Thread). slice_get ts c.args.thread) (sym c.deref.ensures.value) ∙ there) in
    omega (arith, c.len.ensures, c.in-Some.found.now.locals.ok.0, ap length kinds)
