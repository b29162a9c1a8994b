use Rattle.std.proofs.Common.{◌≡◌, ◌+◌, ◌++◌, ℕ, List, length}
use Rattle.ido_cli.specs.Sweeps.{IsTable, reports_of}
use Rattle.ido_cli.proofs.table.table.Given as goal

abbrev pub invariant-loop-rest : goal.invariant-loop-rest
invariant-loop-rest l = record {
  so_far : (text : List ℕ) → IsTable l.first (reports_of l.rest) text → IsTable 0 (reports_of l.outcomes) (l.text.items ++ text);
  count : l.first + length l.rest ≡ length l.outcomes;
}

abbrev pub decreases-loop-rest : goal.decreases-loop-rest
decreases-loop-rest l = length l.rest
