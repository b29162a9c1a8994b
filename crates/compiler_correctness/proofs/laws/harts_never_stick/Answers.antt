use Rattle.compiler_correctness.proofs.laws.harts_never_stick.Goals as goal

pub returns : goal.returns
returns c = λ y s events h cause. c.none_is_stuck.ensures.stuck y s _ (c.machines_resume.ensures y s events).is.stands h cause
