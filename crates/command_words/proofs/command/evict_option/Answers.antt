use Rattle.std.proofs.Common.{◌≡◌, ap, codes, ◌-◌, ◌^◌, ◌∙◌}
use Rattle.std.specs.Prelude.{Option, Some}
use Rattle.clap.specs.Walk.{Rule}
use Rattle.clap.specs.Words.{rule_of}
use Rattle.clap.specs.declared.builder.arg.Arg.{Arg}
use Rattle.clap.specs.declared.builder.value_parser.ValueParser.{ValueParser}
use Rattle.clap.specs.declared.builder.value_parser.ValueParser.TheVariants as parser
use Rattle.command_words.proofs.command.evict_option.Goals as goal

pub returns-clause-rule : goal.returns-clause-rule
returns-clause-rule c =
    let given = c.value_parser.ensures.given in
    let parser_is : c.value_parser.result.value_parser ≡ Some (parser.Unsigned 0 (2 ^ 64 - 1)) = given.1 ∙ ap Some (given.2 ∙ c.long_parser.ensures) in
    ap rule_of c.value_parser.ensures.others
    ∙ ap (λ (p : Option ValueParser). rule_of (record c.long.result { value_parser = p })) parser_is
    ∙ ap (λ (a : Arg). let r : Rule = record (rule_of a) { parser = Some (parser.Unsigned 0 (2 ^ 64 - 1)) } in r) c.long.ensures
    ∙ ap (λ (r : Rule). let s : Rule = record r { long = Some (codes "evict"); parser = Some (parser.Unsigned 0 (2 ^ 64 - 1)) } in s) c.new.ensures.rule
