use Rattle.std.proofs.Common.{arith, length, map}
use Rattle.log_schemes.specs.Schemes.{numbers_from}
use Rattle.run_tracker.specs.ObjectLives.{ended_sections}
use Rattle.ido_cli.proofs.GatheredReports.{map_pushed}
use Rattle.ido_cli.proofs.report.counted.Goals as goal

pub loop-hart-preserved : goal.loop-hart-preserved
loop-hart-preserved c =
    let life = c.args.life.now in
    record {
      end = c.loop-hart.invariant.end;
      so_far =
          map_pushed (ended_sections life) c.loop-hart.sections.items (map (ended_sections life) (numbers_from 0 (length life.runs.program)))
          c.push.new.self.items (length life.runs.program) c.loop-hart.hart c.ended.result
          (omega (arith, c.loop-hart-test.true, c.loop-hart.invariant.end)) c.ended.ensures c.in_ok-push.ensures.items c.loop-hart.invariant.so_far;
    }
