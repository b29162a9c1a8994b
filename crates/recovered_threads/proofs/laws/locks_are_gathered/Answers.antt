use Rattle.recovered_threads.proofs.RecoveryAfterCrash.{crashes_gather, crashes_again}
use Rattle.recovered_threads.proofs.Events.{events_recover}
use Rattle.recovered_threads.proofs.GatheringSteps.{takes_never_wait, waits_for_takers, gathered_go_on}
use Rattle.recovered_threads.proofs.GatheredLocks.{gathered_are_kept, ready_as_kept}
use Rattle.recovered_threads.proofs.laws.locks_are_gathered.Goals as goal

pub returns-clause-crash : goal.returns-clause-crash
returns-clause-crash c = crashes_gather

pub returns-clause-again : goal.returns-clause-again
returns-clause-again c = crashes_again

pub returns-clause-takes : goal.returns-clause-takes
returns-clause-takes c = takes_never_wait

pub returns-clause-waits : goal.returns-clause-waits
returns-clause-waits c = waits_for_takers

pub returns-clause-goes_on : goal.returns-clause-goes_on
returns-clause-goes_on c = gathered_go_on

pub returns-clause-kept : goal.returns-clause-kept
returns-clause-kept c = gathered_are_kept

pub returns-clause-events : goal.returns-clause-events
returns-clause-events c = events_recover

pub returns-clause-ready : goal.returns-clause-ready
returns-clause-ready c = ready_as_kept
