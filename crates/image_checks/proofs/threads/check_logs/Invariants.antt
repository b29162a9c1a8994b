use Rattle.c_tree.specs.Flats.{flat_of}
use Rattle.image_checks.specs.Checks.{AreSoundBelow}
use Rattle.image_checks.specs.Logs.{logs_of}
use Rattle.image_checks.proofs.threads.check_logs.Given as goal

abbrev pub invariant-loop-thread : goal.invariant-loop-thread
invariant-loop-thread l = AreSoundBelow (flat_of l.flat) l.table (logs_of l.log l.logs) l.thread
