use Rattle.std.proofs.Common.{Option, List, ℕ, ap, codes, ◌∙◌}
use Rattle.clap.specs.Matches.{found_of}
use Rattle.clap.proofs.WalkLemmas.{first_value-rows}
use Rattle.command_words.specs.Commands.{scheme_asked}
use Rattle.command_words.proofs.command.scheme_in.Goals as goal

pub returns-in-Some : goal.returns-in-Some
returns-in-Some c =
    let rows = c.in-Some.ensures ∙ first_value-rows (found_of c.args.matches.now) (codes "scheme") in
    c.scheme_named.ensures ∙ ap (λ (o : Option (List ℕ)). scheme_asked o) rows

pub returns-in-None : goal.returns-in-None
returns-in-None c =
    let rows = c.in-None.ensures ∙ first_value-rows (found_of c.args.matches.now) (codes "scheme") in
    ap (λ (o : Option (List ℕ)). scheme_asked o) rows
