use Rattle.region_cutter.proofs.SetsOfThreads.{sets_of_threads}
use Rattle.region_cutter.proofs.laws.held_sets_are_of_threads.Goals as goal

pub returns : goal.returns
returns c = sets_of_threads
