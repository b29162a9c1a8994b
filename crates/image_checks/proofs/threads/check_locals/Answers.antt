use Rattle.image_checks.specs.links.BankFaults.{number}
use Rattle.image_checks.proofs.threads.check_locals.Goals as goal

pub returns-in-Some : goal.returns-in-Some
returns-in-Some c = number c.in-Some.register c.in-Some.ensures
