use Rattle.source_machine.proofs.StepSwaps.{swap}
use Rattle.source_machine.proofs.ExchangedSchedules.{exchange, solo}
use Rattle.source_machine.proofs.laws.steps_exchange.Goals as goal

pub returns-clause-swap : goal.returns-clause-swap
returns-clause-swap c = swap

pub returns-clause-exchange : goal.returns-clause-exchange
returns-clause-exchange c = exchange

pub returns-clause-solo : goal.returns-clause-solo
returns-clause-solo c = solo
