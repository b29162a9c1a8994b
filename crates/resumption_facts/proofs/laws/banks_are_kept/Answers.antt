use Rattle.resumption_facts.proofs.BanksKept.{banks_are_kept}
use Rattle.resumption_facts.proofs.laws.banks_are_kept.Goals as goal

pub returns : goal.returns
returns c =
    banks_are_kept c.machines_resume.ensures c.fragments_step.ensures c.cores_step.ensures c.local_stores_step.ensures c.fragments_go_on.ensures
    c.marks_pass.ensures
