use Rattle.variable_words.proofs.MemoryAlongEvents.{positions_meet, positions_grow}
use Rattle.variable_words.proofs.laws.positions_stay.Goals as goal

pub returns-clause-meet : goal.returns-clause-meet
returns-clause-meet c = positions_meet

pub returns-clause-grow : goal.returns-clause-grow
returns-clause-grow c = positions_grow
