use Rattle.ido_compile.proofs.Verdicts.{one_flat, one_fault, never_both}
use Rattle.ido_compile.proofs.laws.one_verdict.Goals as goal

pub returns-clause-flat : goal.returns-clause-flat
returns-clause-flat c = let r = c.one_reading.ensures in one_flat r.tree r.refusal r.not_both c.one_first.ensures

pub returns-clause-fault : goal.returns-clause-fault
returns-clause-fault c = let r = c.one_reading.ensures in one_fault r.tree r.refusal r.not_both c.one_first.ensures

pub returns-clause-not_both : goal.returns-clause-not_both
returns-clause-not_both c = let r = c.one_reading.ensures in never_both r.tree r.refusal r.not_both c.one_first.ensures
