use Rattle.std.proofs.Common.{map}
use Rattle.benchmarks.specs.MovingCore.{event_of}
use Rattle.benchmarks.proofs.NoPoints.{no_fences}
use Rattle.benchmarks.proofs.lines.LinesCore.fences.Goals as goal

pub returns : goal.returns
returns c = no_fences c.args.arg2 0 (map event_of c.args.self.now.journal.items)
