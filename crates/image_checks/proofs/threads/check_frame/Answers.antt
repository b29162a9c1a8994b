use Rattle.std.proofs.Common.{List, subst}
use Rattle.std.specs.Prelude.{MatchResult}
use Rattle.std.proofs.lemmas.Result.{err_from_is_err_and}
use Rattle.c_tree.specs.Flats.{flat_of}
use Rattle.flat_compile.specs.declared.resumes.LiveLocal.{LiveLocal}
use Rattle.image_checks.specs.Checks.{AreLocalsFirst, HasLocals}
use Rattle.image_checks.specs.Logs.{logs_of}
use Rattle.image_checks.specs.links.BankFaults.{IsLocalFault}
use Rattle.image_checks.proofs.Banks.{locals_answer, of_write}
use Rattle.image_checks.proofs.threads.check_frame.Goals as goal

pub returns-in_err-check_write : goal.returns-in_err-check_write
returns-in_err-check_write c =
    let p = err_from_is_err_and c.from_residual.result c.from_residual.ensures.1 in
    rw (p.1, p.2)
    (of_write (flat_of c.args.flat.now) (logs_of c.args.log c.args.logs.now) c.args.thread c.args.bank c.args.resume.now c.in_err-check_write.field-0.0
    (λ first. absurd (subst AreLocalsFirst c.requires.frame first)) c.in_err-check_write.ensures)

pub returns : goal.returns
returns c =
    locals_answer (flat_of c.args.flat.now) (logs_of c.args.log c.args.logs.now) c.args.thread c.args.bank c.args.resume.now c.check_locals.result
    c.in_ok-check_write.ensures
    (subst (λ (live : List LiveLocal). MatchResult c.check_locals.result
    (λ _. HasLocals (flat_of c.args.flat.now) (logs_of c.args.log c.args.logs.now) c.args.thread c.args.bank live)
    (IsLocalFault (flat_of c.args.flat.now) (logs_of c.args.log c.args.logs.now) c.args.thread c.args.bank live)) c.deref.ensures.value
    c.check_locals.ensures)
