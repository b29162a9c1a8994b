use Rattle.std.proofs.Common.{ap, ◌∙◌}
use Rattle.std.specs.Prelude.{Some}
use Rattle.clap.specs.Walk.{Rule}
use Rattle.clap.specs.Words.{rule_of}
use Rattle.clap.specs.declared.builder.action.ArgAction.TheVariants.{SetTrue}
use Rattle.clap.specs.declared.builder.arg.Arg.{Arg}
use Rattle.command_words.proofs.command.flag.Goals as goal

pub returns-clause-rule : goal.returns-clause-rule
returns-clause-rule c =
    ap rule_of c.action.ensures
    ∙ ap (λ (a : Arg). let r : Rule = record (rule_of a) { action = Some SetTrue } in r) c.long.ensures
    ∙ ap (λ (r : Rule). let s : Rule = record r { long = Some c.args.name.now; action = Some SetTrue } in s) c.new.ensures.rule
