use Rattle.std.proofs.Common.{arith}
use Rattle.run_scripts.proofs.draw.push_due_crashes.Goals as goal

pub returns-then-draws-next-clause-quiet : goal.returns-then-draws-next-clause-quiet
returns-then-draws-next-clause-quiet c = λ k from below. c.requires.quiet k (omega (arith, from)) below
