use Rattle.ido_cli.proofs.JournalAnswers.{journals_are_played}
use Rattle.ido_cli.proofs.laws.journals_are_played.Goals as goal

pub returns : goal.returns
returns c = journals_are_played c.one_verdict.ensures.flat c.one_verdict.ensures.not_both c.journals_are_played_back.ensures
