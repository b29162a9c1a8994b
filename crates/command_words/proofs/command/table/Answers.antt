use Rattle.std.proofs.Common.{◌≡◌, List, [], ℕ, true, ap, codes, ◌∙◌}
use Rattle.std.proofs.lemmas.Result.{IfOk-weaker}
use Rattle.clap.specs.Simple.{App, app_of_fields, new_shape}
use Rattle.clap.specs.Words.{app_of, with_subcommand}
use Rattle.command_words.specs.Commands.{live_shape, load_shape, make_shape, play_shape, regions_shape, scheme_shape, seeded_shape, turns_shape}
use Rattle.command_words.proofs.command.table.Goals as goal

-- a table with a command of this name more
abbrev named : List ℕ → App → App
named name a = with_subcommand a (new_shape name)

-- a table with a command of this name more, which takes a scheme
abbrev schemed : List ℕ → App → App
schemed name a = with_subcommand a (scheme_shape name)

abbrev empty : App
empty = record { top = record (new_shape (codes "ido")) { subcommand_required = true }; subs = [] }

-- a table of which a command is required
abbrev requiring : App → App
requiring a = record { top = record a.top { subcommand_required = true }; subs = a.subs }

pub returns : goal.returns
returns c =
    let empty_is : app_of c.subcommand_required-empty.result ≡ empty =
    ap app_of_fields c.subcommand_required-empty.ensures ∙ ap requiring c.new.ensures.app in
    let one = c.in_ok-one.ensures ∙ ap (schemed (codes "compile")) empty_is in
    let two = c.in_ok-two.ensures ∙ ap (named (codes "list")) one in
    let three = c.in_ok-three.ensures ∙ ap (λ (a : App). with_subcommand a regions_shape) two in
    let four = c.in_ok-four.ensures ∙ ap (λ (a : App). with_subcommand a play_shape) three in
    let five = c.in_ok-five.ensures ∙ ap (named (codes "source")) four in
    let six = c.in_ok-six.ensures ∙ ap (schemed (codes "image")) five in
    let seven = c.in_ok-seven.ensures ∙ ap (named (codes "order")) six in
    let eight = c.in_ok-eight.ensures ∙ ap (λ (a : App). with_subcommand a (turns_shape (codes "recover"))) seven in
    let nine = c.in_ok-nine.ensures ∙ ap (λ (a : App). with_subcommand a (turns_shape (codes "upgrade"))) eight in
    let ten = c.in_ok-ten.ensures ∙ ap (λ (a : App). with_subcommand a make_shape) nine in
    let eleven = c.in_ok-eleven.ensures ∙ ap (λ (a : App). with_subcommand a seeded_shape) ten in
    let twelve = c.in_ok-twelve.ensures ∙ ap (λ (a : App). with_subcommand a live_shape) eleven in
    let thirteen = c.in_ok-thirteen.ensures ∙ ap (λ (a : App). with_subcommand a load_shape) twelve in
    IfOk-weaker c.with_scheme-3.result _ _ (λ made is. is ∙ ap (schemed (codes "sweep")) thirteen) c.with_scheme-3.ensures
