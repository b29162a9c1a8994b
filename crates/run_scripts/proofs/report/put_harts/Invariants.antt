use Rattle.std.proofs.Common.{◌≡◌, ◌++◌, drop, flat_map}
use Rattle.run_scripts.specs.Reports.{hart_text}
use Rattle.run_scripts.proofs.report.put_harts.Given as goal

abbrev pub invariant-loop-hart : goal.invariant-loop-hart
invariant-loop-hart l = l.report.items ++ flat_map hart_text (drop l.hart-index l.harts) ≡ l.initial.report.items ++ flat_map hart_text l.harts
