use Rattle.std.proofs.Common.{◌≡◌, Bool, false, ap, ap₂, codes, ◌-◌, ◌^◌, ◌∙◌, ◌||◌}
use Rattle.std.proofs.lemmas.Result.{IfOk-weaker}
use Rattle.clap.specs.Simple.{App, Shape}
use Rattle.clap.specs.Words.{app_of, rule_of, with_rule, with_subcommand}
use Rattle.clap.specs.declared.builder.command.Command.TheViews.{out-Command}
use Rattle.clap.specs.declared.builder.value_parser.ValueParser.TheVariants as parser
use Rattle.command_words.specs.Commands.{load_shape, most_loaded_rounds, number_rule}
use Rattle.command_words.proofs.command.with_load.Goals as goal

pub returns : goal.returns
returns c =
    let rounds = c.number_word-rounds in
    let seed = c.number_word-seed in
    let scheme = c.scheme_option-scheme in
    let rounds_is : rule_of rounds.result ≡ number_rule (codes "N") (parser.Unsigned 1 most_loaded_rounds) =
    rounds.ensures.rule ∙ ap (number_rule (codes "N")) c.loaded_rounds_parser.ensures in
    let seed_is : rule_of seed.result ≡ number_rule (codes "SEED") (parser.Unsigned 0 (2 ^ 32 - 1)) =
    seed.ensures.rule ∙ ap (number_rule (codes "SEED")) c.short_parser.ensures in
    let none : (out-Command c.in_ok-one.one).has_globals ≡ false =
    c.in_ok-one.ensures.globals ∙ ap₂ (λ (a b : Bool). a || b) c.new.ensures.local rounds.ensures.local in
    let nor_two : (out-Command c.in_ok-two.two).has_globals ≡ false =
    c.in_ok-two.ensures.globals ∙ ap₂ (λ (a b : Bool). a || b) none seed.ensures.local in
    let no_globals : (out-Command c.in_ok-three.three).has_globals ≡ false =
    c.in_ok-three.ensures.globals ∙ ap₂ (λ (a b : Bool). a || b) nor_two scheme.ensures.local in
    let one_is = c.in_ok-one.ensures.shape rounds.ensures.local ∙ ap₂ with_rule c.new.ensures.app rounds_is in
    let two_is = c.in_ok-two.ensures.shape seed.ensures.local ∙ ap₂ with_rule one_is seed_is in
    let shape_is : (app_of c.in_ok-three.three).top ≡ load_shape =
    ap (λ (a : App). a.top) (c.in_ok-three.ensures.shape scheme.ensures.local ∙ ap₂ with_rule two_is scheme.ensures.rule) in
    IfOk-weaker c.subcommand.result _ _ (λ new adds. adds.shape no_globals ∙ ap (λ (s : Shape). with_subcommand (app_of c.args.table) s) shape_is)
    c.subcommand.ensures
