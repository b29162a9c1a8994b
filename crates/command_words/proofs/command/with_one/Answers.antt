use Rattle.std.proofs.Common.{◌≡◌, Bool, false, ap, ap₂, ◌∙◌, ◌||◌}
use Rattle.std.proofs.lemmas.Result.{IfOk-weaker}
use Rattle.clap.specs.Simple.{App, Shape}
use Rattle.clap.specs.Words.{app_of, rule_of, with_rule, with_subcommand}
use Rattle.clap.specs.declared.builder.command.Command.TheViews.{out-Command}
use Rattle.command_words.specs.Commands.{one_shape}
use Rattle.command_words.proofs.command.with_one.Goals as goal

pub returns : goal.returns
returns c =
    let command = c.in_ok-arg.field-0 in
    let no_globals : (out-Command command).has_globals ≡ false =
    c.in_ok-arg.ensures.globals ∙ ap₂ (λ (a b : Bool). a || b) c.new.ensures.local c.requires in
    let shape_is : (app_of command).top ≡ one_shape c.args.name.now (rule_of c.args.word) =
    ap (λ (a : App). a.top) (c.in_ok-arg.ensures.shape c.requires ∙ ap (λ (a : App). with_rule a (rule_of c.args.word)) c.new.ensures.app) in
    IfOk-weaker c.subcommand.result _ _ (λ new adds. adds.shape no_globals ∙ ap (λ (s : Shape). with_subcommand (app_of c.args.table) s) shape_is)
    c.subcommand.ensures
