use Rattle.std.proofs.Common.{ap, codes, ◌∙◌}
use Rattle.std.specs.Prelude.{Some}
use Rattle.clap.specs.Walk.{Rule}
use Rattle.clap.specs.Words.{rule_of}
use Rattle.command_words.proofs.command.scheme_option.Goals as goal

pub returns-clause-rule : goal.returns-clause-rule
returns-clause-rule c = ap rule_of c.long.ensures ∙ ap (λ (r : Rule). let s : Rule = record r { long = Some (codes "scheme") } in s) c.new.ensures.rule
