use Rattle.ido_cli.specs.links.LegRuns.{IsBetween}
use Rattle.ido_cli.proofs.live.run_legs.Given as goal

abbrev pub invariant-loop-word : goal.invariant-loop-word
invariant-loop-word g l = IsBetween l.turns l.crashes l.initial.run l.word-index l.most l.run
