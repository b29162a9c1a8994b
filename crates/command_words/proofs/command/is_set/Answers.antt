use Rattle.std.proofs.Common.{List, ℕ, Option, ap, ◌∙◌}
use Rattle.std.specs.Str.Parse.{ParsesBool}
use Rattle.clap.specs.Matches.{found_of, one_text}
use Rattle.clap.proofs.WalkLemmas.{one_text-rows}
use Rattle.command_words.specs.Commands.{is_true}
use Rattle.command_words.proofs.Commands.{read_flag}
use Rattle.command_words.proofs.command.is_set.Goals as goal

pub returns : goal.returns
returns c =
    let found = found_of c.args.matches.now in
    c.unwrap_or.ensures
    ∙ read_flag ParsesBool (λ t r h. h) (one_text found c.args.name.now) c.get_one.result c.get_one.ensures.none c.get_one.ensures.value
    ∙ ap (λ (o : Option (List ℕ)). is_true o) (one_text-rows found c.args.name.now)
