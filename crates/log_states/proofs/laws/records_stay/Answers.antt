use Rattle.log_states.proofs.EventsKeepLog.{stays_recorded, stores_elsewhere}
use Rattle.log_states.proofs.Numbers.{logs_are_apart, slot_in_log, variables_are_apart}
use Rattle.log_states.proofs.Words.{durable_is_stable}
use Rattle.log_states.proofs.laws.records_stay.Goals as goal

pub returns-clause-event : goal.returns-clause-event
returns-clause-event c = stays_recorded

pub returns-clause-elsewhere : goal.returns-clause-elsewhere
returns-clause-elsewhere c = stores_elsewhere

pub returns-clause-apart : goal.returns-clause-apart
returns-clause-apart c = logs_are_apart

pub returns-clause-slots : goal.returns-clause-slots
returns-clause-slots c = slot_in_log

pub returns-clause-variables : goal.returns-clause-variables
returns-clause-variables c = variables_are_apart

pub returns-clause-stable : goal.returns-clause-stable
returns-clause-stable c = durable_is_stable
