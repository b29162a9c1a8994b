use Rattle.std.proofs.Common.{sym}
use Rattle.flat_compile.specs.declared.resumes.LiveLocal.{LiveLocal}
use Rattle.image_checks.proofs.BankLocals.{found_local}
use Rattle.image_checks.proofs.bank.local_by.Goals as goal
use Rattle.std.specs.Prelude.{◌<◌}
use Rattle.ido_base.specs.declared.limits.TheConstants.{LOCAL_REGISTERS}

pub home_in-requires-clause-colour : goal.home_in-requires-clause-colour
home_in-requires-clause-colour c =
    (found_local (λ (l : LiveLocal). l.colour < LOCAL_REGISTERS) c.args.live.now c.args.local c.in-Some.found.now c.requires.slots (sym c.in-Some.ensures)).0
