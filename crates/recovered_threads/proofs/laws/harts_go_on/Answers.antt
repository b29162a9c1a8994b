use Rattle.recovered_threads.proofs.ResumedHarts.{harts_go_on, late_harts_go_on}
use Rattle.recovered_threads.proofs.laws.harts_go_on.Goals as goal

pub returns-clause-there : goal.returns-clause-there
returns-clause-there c = harts_go_on

pub returns-clause-late : goal.returns-clause-late
returns-clause-late c = late_harts_go_on
