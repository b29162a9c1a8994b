use Rattle.recovery_semantics.proofs.InvariantConsequences.{goes_alone, settles_as_it_is, paths_stay}
use Rattle.recovery_semantics.proofs.laws.paths_stay.Goals as goal

pub returns-clause-alone : goal.returns-clause-alone
returns-clause-alone c = goes_alone

pub returns-clause-own : goal.returns-clause-own
returns-clause-own c = settles_as_it_is

pub returns-clause-others : goal.returns-clause-others
returns-clause-others c = paths_stay
