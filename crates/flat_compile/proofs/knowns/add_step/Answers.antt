use Rattle.std.proofs.Common.{◌++◌, [], ◌∷◌, ℕ, List, ap, ◌∙◌}
use Rattle.flat_compile.specs.links.KnownLists.{known_lists}
use Rattle.flat_compile.proofs.KnownSteps.{lists_more}
use Rattle.flat_compile.proofs.knowns.add_step.Goals as goal

pub returns : goal.returns
returns c =
    let old = c.args.steps.now.items in
    ap known_lists c.in_ok-push.ensures.items ∙ lists_more old _
    ∙ ap (λ (known : List ℕ). known_lists old ++ known ∷ []) (c.in_ok-to_vec.ensures.items_if_clones_equal (λ x y e. e))
