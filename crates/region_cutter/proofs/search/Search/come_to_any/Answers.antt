use Rattle.std.proofs.Common.{◌≡◌, ◌↔◌, ℕ, Some, sym, ap, ◌∙◌}
use Rattle.region_cutter.proofs.GraphSearchComplete.{follows_as}
use Rattle.region_cutter.proofs.search.Search.come_to_any.Goals as goal

same : (a b : ℕ) → (a ≡ b) ↔ (Some a ≡ Some b)
same a b = (λ e. ap (λ (x : ℕ). Some x) e, λ e. let is : a ≡ b = cc in is)

pub returns-in_ok-come_to-in-Some : goal.returns-in_ok-come_to-in-Some
returns-in_ok-come_to-in-Some c =
    let old = c.args.self.now in
    let new = c.come_to.new.self in
    let n = c.in-Some.number in
    follows_as (λ node. n ≡ node) (λ node. c.args.number ≡ Some node) old.seen.items old.waiting.items new.seen.items new.waiting.items
    (λ node. (λ e. c.in-Some.is ∙ ap (λ (x : ℕ). Some x) e, λ e. let both : Some n ≡ Some node = sym c.in-Some.is ∙ e in (same n node).1 both))
    c.in_ok-come_to-in-Some.ensures
