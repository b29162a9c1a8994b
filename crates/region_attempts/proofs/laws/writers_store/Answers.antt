use Rattle.region_attempts.proofs.Paths.{writers_store}
use Rattle.region_attempts.proofs.AttemptsStayInRegion.{nothing_is_written}
use Rattle.region_attempts.proofs.laws.writers_store.Goals as goal

pub returns-clause-store : goal.returns-clause-store
returns-clause-store c = writers_store

pub returns-clause-nothing : goal.returns-clause-nothing
returns-clause-nothing c = nothing_is_written
