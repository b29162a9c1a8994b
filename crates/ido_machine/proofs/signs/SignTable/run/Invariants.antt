use Rattle.ido_machine.specs.declared.signs.Ran.{Ran}
use Rattle.ido_machine.specs.links.LocalRuns.{HasRun}
use Rattle.ido_machine.proofs.signs.SignTable.run.Given as goal

abbrev pub invariant-loop-made : goal.invariant-loop-made
invariant-loop-made l = HasRun l.self l.initial.hart l.hart (record { made = l.made; passed = l.passed })
