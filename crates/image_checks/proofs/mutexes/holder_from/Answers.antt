use Rattle.std.proofs.Common.{length}
use Rattle.image_checks.proofs.Points.{log_within}
use Rattle.image_checks.proofs.mutexes.holder_from.Goals as goal

pub holds-requires : goal.holds-requires
holds-requires c = record {
  log = log_within c.args.log c.loop-thread.thread c.args.threads (length c.args.logs.now) c.loop-thread-test.true c.requires.logs;
}
