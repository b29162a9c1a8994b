use Rattle.std.proofs.Common.{◌≡◌, drop}
use Rattle.ido_cli.specs.Sweeps.{are_settled}
use Rattle.ido_cli.proofs.sweep.are_settled.Given as goal

abbrev pub invariant-loop-outcome : goal.invariant-loop-outcome
invariant-loop-outcome l = are_settled (drop l.outcome-index l.outcomes) ≡ are_settled l.outcomes
