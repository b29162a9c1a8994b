use Rattle.run_scripts.proofs.MergedRuns.{runs_merged}
use Rattle.run_scripts.proofs.RunLaws.{each_step}
use Rattle.run_scripts.proofs.runs.runs_of.Goals as goal

pub returns-clause-steps : goal.returns-clause-steps
returns-clause-steps c = each_step c.args.schedule.now

pub returns-clause-merged : goal.returns-clause-merged
returns-clause-merged c = runs_merged c.args.schedule.now

pub returns-in_err-push-clause-steps : goal.returns-in_err-push-clause-steps
returns-in_err-push-clause-steps c = each_step c.args.schedule.now

pub returns-in_err-push-clause-merged : goal.returns-in_err-push-clause-merged
returns-in_err-push-clause-merged c = runs_merged c.args.schedule.now
