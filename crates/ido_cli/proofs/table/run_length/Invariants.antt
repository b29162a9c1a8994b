use Rattle.std.proofs.Common.{◌≡◌, replicate, take}
use Rattle.ido_cli.specs.Sweeps.{reports_of}
use Rattle.ido_cli.proofs.table.run_length.Given as goal

abbrev pub invariant-loop-i : goal.invariant-loop-i
invariant-loop-i l = take l.i (reports_of l.outcomes) ≡ replicate l.i l.report
