use Rattle.std.proofs.Common.{◌∙◌, sym}
use Rattle.c_reader.proofs.Prefixes.{punctuator_prefix-Punctuator}
use Rattle.c_reader.proofs.prefix.punctuator_prefix.Goals as goal

pub returns-in-Some : goal.returns-in-Some
returns-in-Some c =
    punctuator_prefix-Punctuator c.args.text.now c.in-Some.punctuator c.in-Some.length (sym c.in-Some.is ∙ c.punctuator.ensures)
