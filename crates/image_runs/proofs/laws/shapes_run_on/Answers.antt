use Rattle.image_runs.proofs.ShapedRuns.{accepted_run_on, shapes_run_on}
use Rattle.image_runs.proofs.laws.shapes_run_on.Goals as goal

pub returns-clause-shape : goal.returns-clause-shape
returns-clause-shape c = shapes_run_on c.shapes_are_states.ensures c.recovered_words_run_on.ensures

pub returns-clause-accepted : goal.returns-clause-accepted
returns-clause-accepted c =
    accepted_run_on c.images_have_shape.ensures.accepted (shapes_run_on c.shapes_are_states.ensures c.recovered_words_run_on.ensures)
