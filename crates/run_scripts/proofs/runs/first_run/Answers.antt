use Rattle.run_scripts.proofs.RunLaws.{runs_from_first}
use Rattle.run_scripts.proofs.runs.first_run.Goals as goal

pub returns-clause-some : goal.returns-clause-some
returns-clause-some c =
    runs_from_first c.args.schedule.now c.split_at.result.1.now c.run_length-more.result c.in-len1-up.len_at_least c.run_length-more.ensures.value
    c.split_at.ensures.back
