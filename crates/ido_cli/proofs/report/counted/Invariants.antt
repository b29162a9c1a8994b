use Rattle.std.proofs.Common.{◌≡◌, ◌++◌, ◌-◌, length, map}
use Rattle.log_schemes.specs.Schemes.{numbers_from}
use Rattle.run_tracker.specs.ObjectLives.{ended_sections}
use Rattle.ido_cli.proofs.report.counted.Given as goal

abbrev pub invariant-loop-hart : goal.invariant-loop-hart
invariant-loop-hart l = record {
  end : l.hart-end ≡ length l.life.runs.program;
  so_far : l.sections.items ++ map (ended_sections l.life) (numbers_from l.hart (length l.life.runs.program - l.hart))
      ≡ map (ended_sections l.life) (numbers_from 0 (length l.life.runs.program));
}
