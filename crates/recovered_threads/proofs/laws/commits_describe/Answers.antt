use Rattle.recovered_threads.proofs.Boundaries.{boundaries_recover}
use Rattle.recovered_threads.proofs.CommittedRecords.{commits_describe, others_describe}
use Rattle.recovered_threads.proofs.LivenessAtUnlocks.{unlocks_enter}
use Rattle.recovered_threads.proofs.laws.commits_describe.Goals as goal

pub returns-clause-recoverable : goal.returns-clause-recoverable
returns-clause-recoverable c = boundaries_recover

pub returns-clause-own : goal.returns-clause-own
returns-clause-own c = commits_describe

pub returns-clause-unlocks : goal.returns-clause-unlocks
returns-clause-unlocks c = unlocks_enter

pub returns-clause-others : goal.returns-clause-others
returns-clause-others c = others_describe
