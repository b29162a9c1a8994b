use Rattle.std.proofs.Common.{◌-◌, ◌^◌, min, length, arith}
use Rattle.ido_cli.specs.Runs.{counted}
use Rattle.ido_cli.proofs.GatheredReports.{map_pushed}
use Rattle.ido_cli.proofs.source.ended.Goals as goal

pub loop-thread-preserved : goal.loop-thread-preserved
loop-thread-preserved c = record {
  end = c.loop-thread.invariant.end;
  so_far = λ s ended stands.
      map_pushed (λ t. min (ended t) (2 ^ 64 - 1)) c.loop-thread.sections.items (counted ended (length s.threads)) c.push.new.self.items (length s.threads)
      c.loop-thread.thread c.ended_sections.result
      (omega (arith, c.loop-thread-test.true, c.loop-thread.invariant.end, stands.count)) (c.ended_sections.ensures s ended stands) c.in_ok-push.ensures.items
      (c.loop-thread.invariant.so_far s ended stands);
}
