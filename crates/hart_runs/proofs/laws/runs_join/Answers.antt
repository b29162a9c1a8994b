use Rattle.hart_runs.proofs.OtherEventsKeepRuns.{runs_begin, moved_harts_begin, runs_join, runs_split, runs_stay_on}
use Rattle.hart_runs.proofs.laws.runs_join.Goals as goal

pub returns-clause-begin : goal.returns-clause-begin
returns-clause-begin c = runs_begin

pub returns-clause-moved : goal.returns-clause-moved
returns-clause-moved c = moved_harts_begin

pub returns-clause-join : goal.returns-clause-join
returns-clause-join c = runs_join

pub returns-clause-split : goal.returns-clause-split
returns-clause-split c = runs_split

pub returns-clause-stay : goal.returns-clause-stay
returns-clause-stay c = runs_stay_on
