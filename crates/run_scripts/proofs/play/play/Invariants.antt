use Rattle.run_scripts.proofs.Lines.{IsPlaying}
use Rattle.run_scripts.proofs.play.play.Given as goal

abbrev pub invariant-loop-line : goal.invariant-loop-line
invariant-loop-line g l = IsPlaying g.C.Core l.initial.core l.core l.script.lines.items l.line-index l.most l.most l.floor
