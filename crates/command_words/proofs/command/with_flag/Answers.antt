use Rattle.std.proofs.Common.{ap, ◌∙◌}
use Rattle.std.proofs.lemmas.Result.{IfOk-weaker}
use Rattle.clap.specs.Walk.{Rule}
use Rattle.clap.specs.Words.{app_of, with_subcommand}
use Rattle.command_words.specs.Commands.{one_shape}
use Rattle.command_words.proofs.command.with_flag.Goals as goal

pub returns : goal.returns
returns c =
    IfOk-weaker c.with_one.result _ _
    (λ made is. is ∙ ap (λ (r : Rule). with_subcommand (app_of c.args.table) (one_shape c.args.name.now r)) c.flag.ensures.rule)
    c.with_one.ensures
