use Rattle.std.proofs.Common.{◌∙◌, sym}
use Rattle.image_checks.proofs.threads.check_beside.Goals as goal

pub check_registers-requires-clause-registers : goal.check_registers-requires-clause-registers
check_registers-requires-clause-registers c = sym c.locals.ensures ∙ c.in-Registers.is

pub check_frame-requires-clause-frame : goal.check_frame-requires-clause-frame
check_frame-requires-clause-frame c = sym c.locals.ensures ∙ c.in-Frame.is
