use Rattle.std.proofs.Common.{◌≡◌, Bool, false, ap, ap₂, ◌∙◌, ◌||◌}
use Rattle.std.proofs.lemmas.Result.{IfOk-weaker}
use Rattle.clap.specs.Simple.{App, Shape}
use Rattle.clap.specs.Words.{app_of, with_rule, with_subcommand}
use Rattle.clap.specs.declared.builder.command.Command.TheViews.{out-Command}
use Rattle.command_words.specs.Commands.{play_shape}
use Rattle.command_words.proofs.command.with_play.Goals as goal

pub returns : goal.returns
returns c =
    let fences = c.flag-fences in
    let scheme = c.scheme_option-scheme in
    let none : (out-Command c.in_ok-one.one).has_globals ≡ false =
    c.in_ok-one.ensures.globals ∙ ap₂ (λ (a b : Bool). a || b) c.new.ensures.local fences.ensures.local in
    let no_globals : (out-Command c.in_ok-two.two).has_globals ≡ false =
    c.in_ok-two.ensures.globals ∙ ap₂ (λ (a b : Bool). a || b) none scheme.ensures.local in
    let one_is = c.in_ok-one.ensures.shape fences.ensures.local ∙ ap₂ with_rule c.new.ensures.app fences.ensures.rule in
    let shape_is : (app_of c.in_ok-two.two).top ≡ play_shape =
    ap (λ (a : App). a.top) (c.in_ok-two.ensures.shape scheme.ensures.local ∙ ap₂ with_rule one_is scheme.ensures.rule) in
    IfOk-weaker c.subcommand.result _ _ (λ new adds. adds.shape no_globals ∙ ap (λ (s : Shape). with_subcommand (app_of c.args.table) s) shape_is)
    c.subcommand.ensures
