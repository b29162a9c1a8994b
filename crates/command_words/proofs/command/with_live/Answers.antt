use Rattle.std.proofs.Common.{◌≡◌, Bool, false, ap, ap₂, codes, ◌∙◌, ◌||◌}
use Rattle.std.proofs.lemmas.Result.{IfOk-weaker}
use Rattle.clap.specs.Simple.{App, Shape}
use Rattle.clap.specs.Words.{app_of, rule_of, with_rule, with_subcommand}
use Rattle.clap.specs.declared.builder.command.Command.TheViews.{out-Command}
use Rattle.command_words.specs.Commands.{live_shape, number_rule, turns_rule}
use Rattle.command_words.proofs.command.with_live.Goals as goal

pub returns : goal.returns
returns c =
    let turns = c.number_word-turns in
    let crashes = c.crash_words-crashes in
    let evict = c.evict_option-evict in
    let journal = c.flag-journal in
    let scheme = c.scheme_option-scheme in
    let turns_is : rule_of turns.result ≡ turns_rule = turns.ensures.rule ∙ ap (number_rule (codes "TURNS")) c.turns_parser.ensures in
    let none : (out-Command c.in_ok-one.one).has_globals ≡ false =
    c.in_ok-one.ensures.globals ∙ ap₂ (λ (a b : Bool). a || b) c.new.ensures.local turns.ensures.local in
    let nor_two : (out-Command c.in_ok-two.two).has_globals ≡ false =
    c.in_ok-two.ensures.globals ∙ ap₂ (λ (a b : Bool). a || b) none crashes.ensures.local in
    let nor_three : (out-Command c.in_ok-three.three).has_globals ≡ false =
    c.in_ok-three.ensures.globals ∙ ap₂ (λ (a b : Bool). a || b) nor_two evict.ensures.local in
    let nor_four : (out-Command c.in_ok-four.four).has_globals ≡ false =
    c.in_ok-four.ensures.globals ∙ ap₂ (λ (a b : Bool). a || b) nor_three journal.ensures.local in
    let no_globals : (out-Command c.in_ok-five.five).has_globals ≡ false =
    c.in_ok-five.ensures.globals ∙ ap₂ (λ (a b : Bool). a || b) nor_four scheme.ensures.local in
    let one_is = c.in_ok-one.ensures.shape turns.ensures.local ∙ ap₂ with_rule c.new.ensures.app turns_is in
    let two_is = c.in_ok-two.ensures.shape crashes.ensures.local ∙ ap₂ with_rule one_is crashes.ensures.rule in
    let three_is = c.in_ok-three.ensures.shape evict.ensures.local ∙ ap₂ with_rule two_is evict.ensures.rule in
    let four_is = c.in_ok-four.ensures.shape journal.ensures.local ∙ ap₂ with_rule three_is journal.ensures.rule in
    let shape_is : (app_of c.in_ok-five.five).top ≡ live_shape =
    ap (λ (a : App). a.top) (c.in_ok-five.ensures.shape scheme.ensures.local ∙ ap₂ with_rule four_is scheme.ensures.rule) in
    IfOk-weaker c.subcommand.result _ _ (λ new adds. adds.shape no_globals ∙ ap (λ (s : Shape). with_subcommand (app_of c.args.table) s) shape_is)
    c.subcommand.ensures
