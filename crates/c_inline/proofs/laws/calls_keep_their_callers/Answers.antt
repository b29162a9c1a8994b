use Rattle.c_inline.proofs.CallRuns.{callers_kept, unassigned_kept}
use Rattle.c_inline.proofs.laws.calls_keep_their_callers.Goals as goal

pub returns-clause-statements : goal.returns-clause-statements
returns-clause-statements c = unassigned_kept

pub returns-clause-calls : goal.returns-clause-calls
returns-clause-calls c = callers_kept
