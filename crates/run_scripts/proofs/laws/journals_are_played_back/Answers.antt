use Rattle.run_scripts.proofs.JournalReads.{journal_plays}
use Rattle.run_scripts.proofs.laws.journals_are_played_back.Goals as goal

pub returns : goal.returns
returns g c = journal_plays g.C.Core.behaviour
