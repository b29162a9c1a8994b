use Rattle.std.proofs.Common.{◌≡◌, true, ap, ◌∙◌}
use Rattle.std.specs.Prelude.{Option, Some}
use Rattle.clap.specs.Walk.{Rule}
use Rattle.clap.specs.Words.{rule_of}
use Rattle.clap.specs.declared.builder.arg.Arg.{Arg}
use Rattle.clap.specs.declared.builder.value_parser.ValueParser.{ValueParser}
use Rattle.command_words.proofs.command.number_word.Goals as goal

pub returns-clause-rule : goal.returns-clause-rule
returns-clause-rule c =
    let given = c.value_parser.ensures.given in
    let parser_is : c.value_parser.result.value_parser ≡ Some c.args.parser = given.1 ∙ ap Some given.2 in
    ap rule_of c.value_parser.ensures.others
    ∙ ap (λ (p : Option ValueParser). rule_of (record c.required.result { value_parser = p })) parser_is
    ∙ ap (λ (a : Arg). let r : Rule = record (rule_of a) { parser = Some c.args.parser } in r) c.required.ensures
    ∙ ap (λ (r : Rule). let s : Rule = record r { required = true; parser = Some c.args.parser } in s) c.new.ensures.rule
