use Rattle.std.proofs.Common.{ap, ◌∙◌}
use Rattle.std.proofs.lemmas.Result.{IfOk-weaker}
use Rattle.clap.specs.Simple.{App, Shape}
use Rattle.clap.specs.Words.{app_of, with_subcommand}
use Rattle.command_words.proofs.command.with_command.Goals as goal

pub returns : goal.returns
returns c =
    IfOk-weaker c.subcommand.result _ _
    (λ made adds. adds.shape c.new.ensures.local ∙ ap (λ (s : Shape). with_subcommand (app_of c.args.table) s) (ap (λ (a : App). a.top) c.new.ensures.app))
    c.subcommand.ensures
