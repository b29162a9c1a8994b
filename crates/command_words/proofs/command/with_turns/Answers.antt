use Rattle.std.proofs.Common.{ap, codes, ◌∙◌}
use Rattle.std.proofs.lemmas.Result.{IfOk-weaker}
use Rattle.clap.specs.Walk.{Rule}
use Rattle.clap.specs.Words.{app_of, with_subcommand}
use Rattle.command_words.specs.Commands.{number_rule, one_shape}
use Rattle.command_words.proofs.command.with_turns.Goals as goal

pub returns : goal.returns
returns c =
    let rule_is = c.number_word-turns.ensures.rule ∙ ap (number_rule (codes "TURNS")) c.turns_parser.ensures in
    IfOk-weaker c.with_one.result _ _
    (λ made is. is ∙ ap (λ (r : Rule). with_subcommand (app_of c.args.table) (one_shape c.args.name.now r)) rule_is)
    c.with_one.ensures
