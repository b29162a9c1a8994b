use Rattle.std.proofs.Common.{map}
use Rattle.benchmarks.specs.MovingCore.{event_of}
use Rattle.benchmarks.proofs.NoPoints.{no_points}
use Rattle.benchmarks.proofs.lines.LinesCore.points.Goals as goal

pub returns : goal.returns
returns c = no_points c.args.arg2 0 (map event_of c.args.self.now.journal.items)
