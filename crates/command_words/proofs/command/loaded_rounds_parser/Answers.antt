use Rattle.command_words.proofs.command.loaded_rounds_parser.Goals as goal

pub returns : goal.returns
returns c = rw c.value_parser.ensures at c.range.ensures
