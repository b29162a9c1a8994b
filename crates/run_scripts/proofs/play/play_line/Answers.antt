use Rattle.run_scripts.proofs.Lines.{may_start}
use Rattle.run_scripts.proofs.play.play_line.Goals as goal

pub play_start-requires-clause-may : goal.play_start-requires-clause-may
play_start-requires-clause-may g c = λ _ _ more. may_start g.C.Core.behaviour _ c.args.command c.in-Start.is (c.requires.starts more)
