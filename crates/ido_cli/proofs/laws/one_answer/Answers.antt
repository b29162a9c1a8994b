use Rattle.ido_cli.proofs.UniqueAnswers.{one_answer}
use Rattle.ido_cli.proofs.laws.one_answer.Goals as goal

pub returns : goal.returns
returns c = let v = c.one_verdict.ensures in one_answer v.flat v.fault v.not_both c.lives_stop_once.ensures.stop c.lives_stop_once.ensures.not_whole
