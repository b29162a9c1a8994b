use Rattle.std.proofs.Common.{◌≡◌, ◌++◌, drop}
use Rattle.run_scripts.specs.Reports.{count_lines}
use Rattle.run_scripts.proofs.report.put_counts.Given as goal

abbrev pub invariant-loop-thread : goal.invariant-loop-thread
invariant-loop-thread l =
    l.report.items ++ count_lines l.word l.thread (drop l.thread l.counts) ≡ l.initial.report.items ++ count_lines l.word 0 l.counts
