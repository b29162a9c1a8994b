use Rattle.std.proofs.Common.{arith, ⊎_elim}
use Rattle.std.proofs.lemmas.Bool.{cases_lt}
use Rattle.ido_base.specs.declared.limits.TheConstants.{MOST_LOCKS}
use borrow.Author.Count.{below_more}
use Rattle.image_checks.specs.Checks.{IsUnshared, shared}
use Rattle.image_checks.specs.Logs.{logs_of}
use Rattle.image_checks.proofs.mutexes.check_mutexes.Goals as goal

pub returns-in-Some : goal.returns-in-Some
returns-in-Some c = shared c.loop-lock.lock c.in-Some.first c.in-Some.second c.in-Some.ensures c.loop-lock.invariant

pub loop-lock-preserved : goal.loop-lock-preserved
loop-lock-preserved c = below_more (IsUnshared (logs_of c.args.log c.args.logs.now) c.args.threads) c.loop-lock.lock c.loop-lock.invariant c.in_default.ensures

pub returns : goal.returns
returns c lock = ⊎_elim
    (λ low. c.loop-lock.invariant lock (omega arith))
    (λ high one other apart within holds.
    let low = c.requires.low one lock (omega (arith, apart, within)) holds in absurd (omega (arith, low, high)))
    (cases_lt lock MOST_LOCKS)
