use Rattle.command_words.proofs.command.crash_parser.Goals as goal

pub returns : goal.returns
returns c = rw c.value_parser.ensures at c.range.ensures
