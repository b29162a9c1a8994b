use Rattle.std.proofs.Common.{List, ℕ, Option, ap, arith, ◌∙◌}
use Rattle.std.specs.Prelude.{option_and_then}
use Rattle.std.specs.Str.Parse.{ExplainsUnsignedError, HasUnsignedDigitsIfOk, ParsesUnsigned}
use Rattle.clap.specs.Matches.{found_of, one_text}
use Rattle.clap.proofs.WalkLemmas.{one_text-rows}
use Rattle.command_words.specs.Commands.{number_of}
use Rattle.command_words.proofs.Commands.{read_named}
use Rattle.command_words.proofs.command.long_number.Goals as goal

pub returns : goal.returns
returns c =
    let found = found_of c.args.matches.now in
    read_named 64 (omega arith) (omega arith) (λ bs r. ParsesUnsigned 64 10 bs r × ExplainsUnsignedError 10 bs r × HasUnsignedDigitsIfOk bs r) (λ t r h. h.0)
    (one_text found c.args.name.now) c.get_one.result c.get_one.ensures.none c.get_one.ensures.value
    ∙ ap (λ (o : Option (List ℕ)). option_and_then (number_of 64) o) (one_text-rows found c.args.name.now)
