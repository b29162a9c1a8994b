use Rattle.resumption_facts.proofs.BanksBeforePoints.{banks_come_before_points}
use Rattle.resumption_facts.proofs.laws.banks_come_before_points.Goals as goal

pub returns : goal.returns
returns c =
    banks_come_before_points c.machines_resume.ensures c.fragments_step.ensures c.cores_step.ensures c.local_stores_step.ensures c.fragments_go_on.ensures
    c.marks_pass.ensures
