use Rattle.std.proofs.Common.{rules, ◌∙◌, sym, subst, ◌≤◌, ◌-◌, ℕ, None, set}
use Rattle.std.proofs.lemmas.List.{get_or_read}
use Rattle.lock_table.specs.links.HeldCounts.{AreCounted}
use Rattle.lock_table.proofs.CountedHolders.{given, given_some}
use Rattle.lock_table.proofs.table.LockTable.give.Goals as goal

pub overflow_sub-index_mut : goal.overflow_sub-index_mut
overflow_sub-index_mut c =
    let table = c.self.inside in
    let held = sym (get_or_read table.holders.items c.args.lock c.index.result.now (search rules) c.index.ensures None) ∙ c.in-Some.is in
    subst (λ (n : ℕ). 1 ≤ n) (sym (get_or_read table.held.items c.in-Some.hart c.index_mut-then-hart-len.result.now (search rules)
    c.index_mut-then-hart-len.ensures.value 0))
    (given_some table.holders.items table.held.items c.args.lock c.in-Some.hart table.counted (search rules) held (search rules))

pub invariant_of-self-inside : goal.invariant_of-self-inside
invariant_of-self-inside c =
    let table = c.self.inside in
    let held = sym (get_or_read table.holders.items c.args.lock c.index.result.now (search rules) c.index.ensures None) ∙ c.in-Some.is in (
      subst (λ (n : ℕ). AreCounted (set table.holders.items c.args.lock None) (set table.held.items c.in-Some.hart (n - 1)))
          (sym (get_or_read table.held.items c.in-Some.hart c.index_mut-then-hart-len.result.now (search rules) c.index_mut-then-hart-len.ensures.value 0))
          (given table.holders.items table.held.items c.args.lock c.in-Some.hart table.counted (search rules) held (search rules)),
      record {},
    )
