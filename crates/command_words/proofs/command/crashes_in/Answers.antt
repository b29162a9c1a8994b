use Rattle.std.proofs.Common.{ℕ, List, [], ap, codes, ◌∙◌}
use Rattle.std.specs.Prelude.{Option, unwrap_or}
use Rattle.std.proofs.lemmas.Result.{IfOk-weaker}
use Rattle.clap.specs.Matches.{found_of}
use Rattle.clap.proofs.WalkLemmas.{raw_values-rows}
use Rattle.command_words.specs.Commands.{crashes_of}
use Rattle.command_words.proofs.command.crashes_in.Goals as goal

pub returns-in-Some : goal.returns-in-Some
returns-in-Some c =
    let rows = c.in-Some.ensures ∙ raw_values-rows (found_of c.args.matches.now) (codes "CRASH") in
    IfOk-weaker c.crashes_of.result _ _ (λ found is. is ∙ ap (λ (o : Option (List (List ℕ))). crashes_of (unwrap_or o [])) rows) c.crashes_of.ensures

pub returns-in-None : goal.returns-in-None
returns-in-None c =
    let rows = c.in-None.ensures ∙ raw_values-rows (found_of c.args.matches.now) (codes "CRASH") in
    IfOk-weaker c.crashes_of-in-None.result _ _ (λ found is. is ∙ ap (λ (o : Option (List (List ℕ))). crashes_of (unwrap_or o [])) rows)
    c.crashes_of-in-None.ensures
