use Rattle.compiler_correctness.proofs.Sections.{sections_are_kept}
use Rattle.compiler_correctness.proofs.laws.sections_are_kept.Goals as goal

pub returns : goal.returns
returns c = sections_are_kept c.sections_are_kept.ensures c.sections_end_at_points.ensures
