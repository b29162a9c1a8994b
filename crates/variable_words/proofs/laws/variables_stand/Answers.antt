use Rattle.variable_words.proofs.ElementsInWords.{well_formed_placed, variables_apart, addresses_reach}
use Rattle.variable_words.proofs.laws.variables_stand.Goals as goal

pub returns-clause-placed : goal.returns-clause-placed
returns-clause-placed c = well_formed_placed

pub returns-clause-apart : goal.returns-clause-apart
returns-clause-apart c = variables_apart

pub returns-clause-addresses : goal.returns-clause-addresses
returns-clause-addresses c = addresses_reach
