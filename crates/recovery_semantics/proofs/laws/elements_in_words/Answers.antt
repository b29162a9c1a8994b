use Rattle.recovery_semantics.proofs.Elements.{live_in, durable_in, persisted_in, crashed_in, stored_in, beside_in}
use Rattle.recovery_semantics.proofs.laws.elements_in_words.Goals as goal

pub returns-clause-live : goal.returns-clause-live
returns-clause-live c = live_in

pub returns-clause-durable : goal.returns-clause-durable
returns-clause-durable c = durable_in

pub returns-clause-persisted : goal.returns-clause-persisted
returns-clause-persisted c = persisted_in

pub returns-clause-crashed : goal.returns-clause-crashed
returns-clause-crashed c = crashed_in

pub returns-clause-stored : goal.returns-clause-stored
returns-clause-stored c = stored_in

pub returns-clause-beside : goal.returns-clause-beside
returns-clause-beside c = beside_in
