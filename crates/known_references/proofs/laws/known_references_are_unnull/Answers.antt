use Rattle.known_references.proofs.KnownAfterSteps.{kept_are_unnull, runs_are_unnull, steps_keep_unnull}
use Rattle.known_references.proofs.laws.known_references_are_unnull.Goals as goal

pub returns-clause-steps : goal.returns-clause-steps
returns-clause-steps c = steps_keep_unnull

pub returns-clause-runs : goal.returns-clause-runs
returns-clause-runs c = runs_are_unnull

pub returns-clause-kept : goal.returns-clause-kept
returns-clause-kept c = kept_are_unnull
