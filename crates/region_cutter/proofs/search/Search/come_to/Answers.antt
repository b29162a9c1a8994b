use Rattle.std.proofs.Common.{◌≡◌, ℕ, ◌<◌, ◌≤◌, Bool, true, false, Some, List, length, get_or, set, refl, sym, subst, arith, rules}
use Rattle.std.specs.Prelude.{slice_get}
use Rattle.std.proofs.lemmas.Option.{slice_get_read}
use Rattle.region_cutter.specs.links.GraphSearch.{IsSeen, IsSearchStep}
use Rattle.region_cutter.proofs.GraphSearchComplete.{follows_none, follows_new}
use Rattle.region_cutter.proofs.search.Search.come_to.Goals as goal
use Rattle.region_cutter.proofs.search.Search.come_to.Goals.{else-number-len-via-then-number-len+else-not-index, else-number-len-via-else-number-len}

-- what was found in the list
found : (seen : List Bool) (number : ℕ) (found is : Bool) → number < length seen → found ≡ get_or seen number found → found ≡ is → slice_get seen number ≡
    Some is
found seen number x y lt e is = let P : Bool → Type 0 = λ b. b ≡ get_or seen number b in slice_get_read seen (length seen) number y refl lt (subst P is e)

pub returns-in_ok-push : goal.returns-in_ok-push
returns-in_ok-push c =
    let seen = c.args.self.now.seen.items in
    let waiting = c.args.self.now.waiting.items in
    let number = c.args.number in
    let lt : number < length seen = search rules in
    let was : slice_get seen number ≡ Some false = found seen number c.index.result.now false lt c.index.ensures c.if-not-index.true in
    subst (λ (w : List ℕ). IsSearchStep (λ n. number ≡ n) seen waiting (set seen number true) w) (sym c.in_ok-push.ensures.items)
    (follows_new seen waiting number was)

pub returns-else-number-len : goal.returns-else-number-len
returns-else-number-len c =
    let seen = c.args.self.now.seen.items in
    let number = c.args.number in
    follows_none (λ n. number ≡ n) seen c.args.self.now.waiting.items (λ n is lt. subst (λ (m : ℕ). IsSeen seen m) is (
    elim c.else-number-len.branch [
      | else-number-len-via-then-number-len+else-not-index w ↦ (
          let within : number < length seen = search rules in
          found seen number w.index.result.now true within w.index.ensures w.if-not-index.false)
      | else-number-len-via-else-number-len w ↦ (
          let past : length seen ≤ number = search rules in
          absurd (omega arith))
    ]))
