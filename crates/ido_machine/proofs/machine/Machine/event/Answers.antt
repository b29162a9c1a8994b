use Rattle.std.proofs.Common.{inl, inr}
use Rattle.machine_model.specs.Machine.{happens}
use Rattle.ido_machine.proofs.machine.Machine.event.Goals as goal

pub returns-in-Step-clause-world : goal.returns-in-Step-clause-world
unfolding happens
returns-in-Step-clause-world c = rw c.in-Step.is (λ w s valid. c.step.ensures.world w s)

pub returns-in-Evict-clause-world : goal.returns-in-Evict-clause-world
unfolding happens
returns-in-Evict-clause-world c = rw c.in-Evict.is (λ w s valid. c.evict.ensures.world w s)

pub returns-in-Crash-clause-world : goal.returns-in-Crash-clause-world
unfolding happens
returns-in-Crash-clause-world c = rw c.in-Crash.is (λ w s valid. c.crash.ensures.world w s)

pub returns-in-Start-clause-world : goal.returns-in-Start-clause-world
unfolding happens
returns-in-Start-clause-world c = rw c.in-Start.is (λ w s valid. elim valid [
  | inl never ↦ absurd never
  | inr starts ↦ c.start_anew.ensures.world w s starts.1
])
