use Rattle.ido_base.specs.declared.limits.TheConstants.{MOST_EVENTS}
use Rattle.run_scripts.proofs.Lines.{IsPlaying}
use Rattle.run_scripts.proofs.few.play_few.Given as goal

abbrev pub invariant-loop-line : goal.invariant-loop-line
invariant-loop-line g l = IsPlaying g.C.Core l.initial.core l.core l.script.lines.items l.line-index MOST_EVENTS l.most l.floor
