use Rattle.std.proofs.Common.{◌≡◌, Bool, false, ap, ap₂, codes, ◌-◌, ◌^◌, ◌∙◌, ◌||◌}
use Rattle.std.proofs.lemmas.Result.{IfOk-weaker}
use Rattle.clap.specs.Simple.{App, Shape}
use Rattle.clap.specs.Words.{app_of, rule_of, with_rule, with_subcommand}
use Rattle.clap.specs.declared.builder.command.Command.TheViews.{out-Command}
use Rattle.clap.specs.declared.builder.value_parser.ValueParser.TheVariants as parser
use Rattle.command_words.specs.Commands.{number_rule, seeded_shape, turns_rule}
use Rattle.command_words.proofs.command.with_seeded.Goals as goal

pub returns : goal.returns
returns c =
    let seed = c.number_word-seed in
    let turns = c.number_word-turns in
    let crashes = c.crash_words-crashes in
    let journal = c.flag-journal in
    let scheme = c.scheme_option-scheme in
    let seed_is : rule_of seed.result ≡ number_rule (codes "SEED") (parser.Unsigned 0 (2 ^ 64 - 1)) =
    seed.ensures.rule ∙ ap (number_rule (codes "SEED")) c.long_parser.ensures in
    let turns_is : rule_of turns.result ≡ turns_rule = turns.ensures.rule ∙ ap (number_rule (codes "TURNS")) c.turns_parser.ensures in
    let none : (out-Command c.in_ok-one.one).has_globals ≡ false =
    c.in_ok-one.ensures.globals ∙ ap₂ (λ (a b : Bool). a || b) c.new.ensures.local seed.ensures.local in
    let nor_two : (out-Command c.in_ok-two.two).has_globals ≡ false =
    c.in_ok-two.ensures.globals ∙ ap₂ (λ (a b : Bool). a || b) none turns.ensures.local in
    let nor_three : (out-Command c.in_ok-three.three).has_globals ≡ false =
    c.in_ok-three.ensures.globals ∙ ap₂ (λ (a b : Bool). a || b) nor_two crashes.ensures.local in
    let nor_four : (out-Command c.in_ok-four.four).has_globals ≡ false =
    c.in_ok-four.ensures.globals ∙ ap₂ (λ (a b : Bool). a || b) nor_three journal.ensures.local in
    let no_globals : (out-Command c.in_ok-five.five).has_globals ≡ false =
    c.in_ok-five.ensures.globals ∙ ap₂ (λ (a b : Bool). a || b) nor_four scheme.ensures.local in
    let one_is = c.in_ok-one.ensures.shape seed.ensures.local ∙ ap₂ with_rule c.new.ensures.app seed_is in
    let two_is = c.in_ok-two.ensures.shape turns.ensures.local ∙ ap₂ with_rule one_is turns_is in
    let three_is = c.in_ok-three.ensures.shape crashes.ensures.local ∙ ap₂ with_rule two_is crashes.ensures.rule in
    let four_is = c.in_ok-four.ensures.shape journal.ensures.local ∙ ap₂ with_rule three_is journal.ensures.rule in
    let shape_is : (app_of c.in_ok-five.five).top ≡ seeded_shape =
    ap (λ (a : App). a.top) (c.in_ok-five.ensures.shape scheme.ensures.local ∙ ap₂ with_rule four_is scheme.ensures.rule) in
    IfOk-weaker c.subcommand.result _ _ (λ new adds. adds.shape no_globals ∙ ap (λ (s : Shape). with_subcommand (app_of c.args.table) s) shape_is)
    c.subcommand.ensures
