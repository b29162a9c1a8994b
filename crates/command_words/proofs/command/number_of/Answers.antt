use Rattle.std.proofs.Common.{arith, ◌∙◌}
use Rattle.command_words.proofs.Commands.{parsed_number}
use Rattle.command_words.proofs.command.number_of.Goals as goal

pub returns : goal.returns
returns c = c.ok.ensures.value ∙ parsed_number 64 (omega arith) (omega arith) c.args.text.now c.parse.result c.parse.ensures.value.0
