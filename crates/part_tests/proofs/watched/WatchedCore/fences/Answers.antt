use Rattle.part_tests.proofs.NoPoints.{no_fences}
use Rattle.part_tests.proofs.watched.WatchedCore.fences.Goals as goal

pub returns : goal.returns
returns c = no_fences c.args.arg2 0 c.args.self.now.journal.items
