use Rattle.std.proofs.Common.{inr, sym}
use Rattle.c_tree.specs.Flats.{flat_of}
use Rattle.flat_compile.specs.declared.resumes.Resume.{Resume}
use Rattle.image_checks.specs.Checks.{nowhere}
use Rattle.image_checks.specs.Logs.{logs_of}
use Rattle.image_checks.specs.ResumeSlots.{HasRoom, HaveSlots}
use Rattle.image_checks.proofs.Points.{found_has, bank_answer}
use Rattle.image_checks.proofs.threads.check_log.Goals as goal

pub check_bank-requires-clause-slots : goal.check_bank-requires-clause-slots
check_bank-requires-clause-slots c =
    found_has (λ (r : Resume). HaveSlots r.live.items) c.args.resumes.now c.in-At.address c.in-Some.resume.now c.requires.slots (sym c.in-Some.ensures)

pub check_bank-requires-clause-room : goal.check_bank-requires-clause-room
check_bank-requires-clause-room c =
    found_has (HasRoom c.args.log) c.args.resumes.now c.in-At.address c.in-Some.resume.now c.requires.room (sym c.in-Some.ensures)

pub returns-in-Some : goal.returns-in-Some
returns-in-Some c =
    bank_answer (flat_of c.args.flat.now) c.args.resumes.now (logs_of c.args.log c.args.logs.now) c.args.thread c.in-At.address c.in-At.bank
    c.in-Some.resume.now c.check_bank.result (sym c.in-At.ensures) (sym c.in-Some.ensures) c.check_bank.ensures

pub returns-in-None : goal.returns-in-None
returns-in-None c = inr (nowhere c.in-At.address c.in-At.bank (sym c.in-At.ensures) (sym c.in-None.ensures))
