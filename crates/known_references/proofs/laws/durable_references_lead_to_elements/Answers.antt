use Rattle.known_references.proofs.DurableNumbers.{durable_refer}
use Rattle.known_references.proofs.laws.durable_references_lead_to_elements.Goals as goal

pub returns : goal.returns
returns c = durable_refer
