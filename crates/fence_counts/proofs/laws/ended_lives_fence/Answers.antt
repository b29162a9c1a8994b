use Rattle.fence_counts.proofs.PassagesAlong.{lives_fence}
use Rattle.fence_counts.proofs.laws.ended_lives_fence.Goals as goal

pub returns : goal.returns
returns c = lives_fence c.fragments_step.ensures c.cores_step.ensures c.local_stores_step.ensures c.fragments_go_on.ensures c.machines_resume.ensures
