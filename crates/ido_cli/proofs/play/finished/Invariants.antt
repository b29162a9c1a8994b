use Rattle.std.proofs.Common.{◌≡◌, ◌++◌, ◌-◌, length, map}
use Rattle.machine_events.specs.Cores.{finished_fences}
use Rattle.log_schemes.specs.Schemes.{numbers_from}
use Rattle.run_tracker.specs.ObjectLives.{living, opening_of}
use Rattle.ido_cli.specs.links.FencedReports.{fences_in}
use Rattle.ido_cli.proofs.play.finished.Given as goal

abbrev pub invariant-loop-hart : goal.invariant-loop-hart
invariant-loop-hart l = record {
  end : l.hart-end ≡ length l.life.runs.program;
  so_far : l.fences.items
      ++ map (finished_fences living (opening_of l.life) l.life.journal) (numbers_from l.hart (length l.life.runs.program - l.hart)) ≡ fences_in l.life;
}
