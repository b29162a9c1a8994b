use Rattle.image_runs.proofs.RecordedStates.{shapes_are_states}
use Rattle.image_runs.proofs.laws.shapes_are_states.Goals as goal

pub returns : goal.returns
returns c = shapes_are_states
