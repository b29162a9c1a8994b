use Rattle.part_tests.proofs.NoPoints.{no_points}
use Rattle.part_tests.proofs.watched.WatchedCore.points.Goals as goal

pub returns : goal.returns
returns c = no_points c.args.arg2 0 c.args.self.now.journal.items
