use Rattle.region_attempts.proofs.AttemptsStayInRegion.{next_resumes}
use Rattle.region_attempts.proofs.laws.next_resumes.Goals as goal

pub returns : goal.returns
returns c = next_resumes
