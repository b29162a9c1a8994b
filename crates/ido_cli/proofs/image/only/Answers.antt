use Rattle.std.proofs.Common.{◌≡◌, ◌∷◌, ◌++◌, [], ℕ, List, map, ap, ◌∙◌, rules}
use Rattle.std.specs.Prelude.{Vec}
use Rattle.std.specs.Global.{Global}
use Rattle.run_scripts.specs.links.ReportViews.{steps_of}
use Rattle.ido_cli.proofs.image.only.Goals as goal

pub returns : goal.returns
returns c =
    let steps = c.in_ok-steps.steps in
    let taken : steps.items ≡ c.args.schedule.now = search (rules, c.in_ok-steps.ensures) in
    ap (map steps_of) c.in_ok-push.ensures.items
    ∙ ap (λ (before : List (Vec ℕ Global)). map steps_of (before ++ steps ∷ [])) c.new-schedules.ensures.items
    ∙ ap (λ (xs : List ℕ). xs ∷ []) taken
