use Rattle.fence_counts.proofs.FencesAlong.{fences_follow_points}
use Rattle.fence_counts.proofs.laws.fences_follow_points.Goals as goal

pub returns : goal.returns
returns c = fences_follow_points c.fragments_step.ensures c.cores_step.ensures c.local_stores_step.ensures c.fragments_go_on.ensures
