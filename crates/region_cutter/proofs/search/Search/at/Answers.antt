use Rattle.std.proofs.Common.{◌≡◌, ℕ, Bool, List, [], subst}
use Rattle.region_cutter.specs.links.GraphSearch.{IsSearchStep}
use Rattle.region_cutter.proofs.search.Search.at.Goals as goal

pub returns : goal.returns
returns c =
    let s = c.come_to.new.self.seen.items in
    let w = c.come_to.new.self.waiting.items in
    let to : ℕ → Type 0 = λ node. c.args.from ≡ node in
    subst (λ (seen : List Bool). IsSearchStep to seen [] s w) (c.in_ok-seen.ensures.items_if_clones_equal (λ y e. e))
    (subst (λ (waiting : List ℕ). IsSearchStep to c.in_ok-seen.seen.items waiting s w) c.new.ensures.items c.in_ok-come_to.ensures)
