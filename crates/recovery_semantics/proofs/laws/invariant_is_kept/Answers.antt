use Rattle.recovery_semantics.proofs.CrashesKeepInvariant.{crashed_are_stable, fresh_are_stable, start_meets}
use Rattle.recovery_semantics.proofs.EventsKeepInvariant.{events_keep}
use Rattle.recovery_semantics.proofs.laws.invariant_is_kept.Goals as goal

pub returns-clause-start : goal.returns-clause-start
returns-clause-start c = start_meets

pub returns-clause-fresh : goal.returns-clause-fresh
returns-clause-fresh c = fresh_are_stable

pub returns-clause-crashed : goal.returns-clause-crashed
returns-clause-crashed c = crashed_are_stable

pub returns-clause-event : goal.returns-clause-event
returns-clause-event c = events_keep
