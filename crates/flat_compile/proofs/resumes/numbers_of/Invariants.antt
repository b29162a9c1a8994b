use Rattle.std.proofs.Common.{◌≡◌, ◌++◌, drop}
use Rattle.thread_code.specs.Plans.{locks_held, locks_held_from}
use Rattle.flat_compile.proofs.resumes.numbers_of.Given as goal

abbrev pub invariant-loop-number : goal.invariant-loop-number
invariant-loop-number l = l.numbers.items ++ locks_held_from l.number (drop l.number l.held) ≡ locks_held l.held
