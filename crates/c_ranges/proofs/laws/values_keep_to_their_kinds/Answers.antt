-- By induction on the schedule, and cases on the step.
use Rattle.c_ranges.proofs.ReferencesKept.{begins_so, stays_so, is_so}
use Rattle.c_ranges.proofs.laws.values_keep_to_their_kinds.Goals as goal

pub returns-clause-begins : goal.returns-clause-begins
returns-clause-begins c = begins_so

pub returns-clause-stays : goal.returns-clause-stays
returns-clause-stays c = stays_so

pub returns-clause-runs : goal.returns-clause-runs
returns-clause-runs c = is_so
