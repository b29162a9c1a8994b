use Rattle.recovery_semantics.proofs.InvariantConsequences.{schedule_grows, sections_stay, now_stays}
use Rattle.recovery_semantics.proofs.laws.schedule_grows.Goals as goal

pub returns-clause-kept : goal.returns-clause-kept
returns-clause-kept c = schedule_grows

pub returns-clause-sections : goal.returns-clause-sections
returns-clause-sections c = sections_stay

pub returns-clause-now : goal.returns-clause-now
returns-clause-now c = now_stays
