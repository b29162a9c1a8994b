use Rattle.region_checker.proofs.CollectedLocations.{Added}
use Rattle.region_checker.proofs.locations.add_read.Given as goal

abbrev pub invariant-loop-read : goal.invariant-loop-read
invariant-loop-read l = Added l.fn.locations.items l.reads l.locations.items l.read-index
