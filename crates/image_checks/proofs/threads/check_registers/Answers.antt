use Rattle.std.proofs.Common.{List, inl, subst, sym}
use Rattle.std.proofs.lemmas.Result.{err_from_is_err_and}
use Rattle.c_tree.specs.Flats.{flat_of}
use Rattle.flat_compile.specs.declared.resumes.LiveLocal.{LiveLocal}
use Rattle.image_checks.specs.Checks.{AreLocalsFirst, HasLocals}
use Rattle.image_checks.specs.Logs.{logs_of}
use Rattle.image_checks.specs.links.BankFaults.{IsLocalFault}
use Rattle.image_checks.proofs.Banks.{of_locals, write_answer}
use Rattle.image_checks.proofs.threads.check_registers.Goals as goal

pub returns-in_err-check_locals : goal.returns-in_err-check_locals
returns-in_err-check_locals c =
    let p = err_from_is_err_and c.from_residual.result c.from_residual.ensures.1 in
    let x = c.in_err-check_locals.field-0.0 in
    rw (p.1, p.2)
    (of_locals (flat_of c.args.flat.now) (logs_of c.args.log c.args.logs.now) c.args.thread c.args.bank c.args.resume.now x
    (inl (subst AreLocalsFirst (sym c.requires.registers) tt))
    (subst (λ (live : List LiveLocal). IsLocalFault (flat_of c.args.flat.now) (logs_of c.args.log c.args.logs.now) c.args.thread c.args.bank live x)
    c.deref.ensures.value c.in_err-check_locals.ensures))

pub returns : goal.returns
returns c =
    write_answer (flat_of c.args.flat.now) (logs_of c.args.log c.args.logs.now) c.args.thread c.args.bank c.args.resume.now c.check_write.result
    (subst (HasLocals (flat_of c.args.flat.now) (logs_of c.args.log c.args.logs.now) c.args.thread c.args.bank) c.deref.ensures.value
    c.in_ok-check_locals.ensures) c.check_write.ensures
