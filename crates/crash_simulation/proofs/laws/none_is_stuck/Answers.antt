use Rattle.crash_simulation.proofs.NoStuckHarts.{none_is_stuck, takes_move}
use Rattle.crash_simulation.proofs.laws.none_is_stuck.Goals as goal

pub returns-clause-stuck : goal.returns-clause-stuck
returns-clause-stuck c = none_is_stuck c.marks_pass.ensures

pub returns-clause-takes : goal.returns-clause-takes
returns-clause-takes c = takes_move
