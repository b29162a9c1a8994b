use Rattle.std.proofs.Common.{inl, inr}
use Rattle.run_tracker.proofs.stepping.make.Goals as goal

pub returns-in-Step-clause-world : goal.returns-in-Step-clause-world
returns-in-Step-clause-world c = rw c.in-Step.is (λ w stands valid. c.step.ensures.world w stands)

pub returns-in-Evict-clause-world : goal.returns-in-Evict-clause-world
returns-in-Evict-clause-world c = rw c.in-Evict.is (λ w stands valid. c.evict.ensures.world w stands)

pub returns-in-Crash-clause-world : goal.returns-in-Crash-clause-world
returns-in-Crash-clause-world c = rw c.in-Crash.is (λ w stands valid. c.crash.ensures.world w stands)

pub returns-in-Start-clause-world : goal.returns-in-Start-clause-world
returns-in-Start-clause-world c = rw c.in-Start.is (λ w stands valid. elim valid [
  | inl never ↦ absurd never
  | inr starts ↦ c.start.ensures.world w stands starts.1
])

pub returns-in-Step-clause-steps : goal.returns-in-Step-clause-steps
returns-in-Step-clause-steps c =
    rw c.in-Step.is (λ marks w s tables stands valid account opened seen. c.step.ensures.steps marks w s tables stands account opened seen)

pub returns-in-Evict-clause-steps : goal.returns-in-Evict-clause-steps
returns-in-Evict-clause-steps c =
    rw c.in-Evict.is (λ marks w s tables stands valid account opened seen. c.evict.ensures.steps marks w s stands account opened seen)

pub returns-in-Crash-clause-steps : goal.returns-in-Crash-clause-steps
returns-in-Crash-clause-steps c = rw c.in-Crash.is (λ marks w s tables stands valid account opened seen. c.crash.ensures.steps marks w s account)

pub returns-in-Start-clause-steps : goal.returns-in-Start-clause-steps
returns-in-Start-clause-steps c = rw c.in-Start.is (λ marks w s tables stands valid account opened seen. elim valid [
  | inl never ↦ absurd never
  | inr starts ↦ c.start.ensures.steps marks w s starts.1 account
])

pub returns-in-Step-clause-counts : goal.returns-in-Step-clause-counts
returns-in-Step-clause-counts c = rw c.in-Step.is c.step.ensures.counts
