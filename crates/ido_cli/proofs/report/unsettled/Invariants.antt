use Rattle.std.proofs.Common.{◌≡◌, ◌++◌, ◌-◌, filter, length, not}
use Rattle.log_schemes.specs.Schemes.{numbers_from}
use Rattle.machine_model.specs.Machine.{is_settled_hart}
use Rattle.run_tracker.specs.ObjectLives.{world_of}
use Rattle.ido_cli.specs.Reports.{unsettled_harts}
use Rattle.ido_cli.proofs.report.unsettled.Given as goal

abbrev pub invariant-loop-hart : goal.invariant-loop-hart
invariant-loop-hart l = record {
  end : l.hart-end ≡ length l.life.runs.program;
  so_far : l.harts.items ++ filter (λ h. not (is_settled_hart (world_of l.life) h)) (numbers_from l.hart (length (world_of l.life).harts - l.hart))
      ≡ unsettled_harts (world_of l.life);
}
