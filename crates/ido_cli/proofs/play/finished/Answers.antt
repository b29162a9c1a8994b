use Rattle.std.proofs.Common.{arith, length}
use Rattle.machine_events.specs.Cores.{finished_fences}
use Rattle.run_tracker.specs.ObjectLives.{living, opening_of}
use Rattle.ido_cli.specs.links.FencedReports.{fences_in}
use Rattle.ido_cli.proofs.GatheredReports.{map_pushed}
use Rattle.ido_cli.proofs.play.finished.Goals as goal

pub loop-hart-preserved : goal.loop-hart-preserved
loop-hart-preserved c =
    let life = c.args.life.now in
    record {
      end = c.loop-hart.invariant.end;
      so_far =
          map_pushed (finished_fences living (opening_of life) life.journal) c.loop-hart.fences.items (fences_in life) c.push.new.self.items
          (length life.runs.program) c.loop-hart.hart c.fences.result (omega (arith, c.loop-hart-test.true, c.loop-hart.invariant.end)) c.fences.ensures
          c.in_ok-push.ensures.items c.loop-hart.invariant.so_far;
    }
