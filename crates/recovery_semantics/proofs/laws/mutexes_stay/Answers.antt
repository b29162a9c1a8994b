use Rattle.recovery_semantics.proofs.UncommittedReleases.{left_is_free, held_now, held_before}
use Rattle.recovery_semantics.proofs.LastUnlocks.{unlocked_is_last}
use Rattle.recovery_semantics.proofs.laws.mutexes_stay.Goals as goal

pub returns-clause-free : goal.returns-clause-free
returns-clause-free c = left_is_free

pub returns-clause-now : goal.returns-clause-now
returns-clause-now c = held_now

pub returns-clause-before : goal.returns-clause-before
returns-clause-before c = held_before

pub returns-clause-last : goal.returns-clause-last
returns-clause-last c = unlocked_is_last
