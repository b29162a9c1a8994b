use Rattle.compiler_correctness.proofs.Records.{machines_record}
use Rattle.compiler_correctness.proofs.laws.machines_record.Goals as goal

pub returns : goal.returns
returns c = machines_record c.marks_pass.ensures c.machines_resume.ensures
