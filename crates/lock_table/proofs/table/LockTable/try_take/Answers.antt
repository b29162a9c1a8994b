use Rattle.std.proofs.Common.{rules, ◌∙◌, sym, ap, subst, List, Option, slice_get, ◌+◌, ◌<◌, ◌^◌, ℕ, Some, set}
use Rattle.std.proofs.lemmas.List.{get_or_read}
use Rattle.lock_table.specs.links.HeldCounts.{AreCounted}
use Rattle.lock_table.proofs.CountedHolders.{taken, taken_few, was_free, free_there}
use Rattle.lock_table.proofs.table.LockTable.try_take.Goals as goal

pub overflow_add-index_mut : goal.overflow_add-index_mut
overflow_add-index_mut c =
    let table = c.self.inside in
    let free = was_free table.holders.items c.args.lock c.index.result.now (search rules) c.index.ensures (sym c.is_some.ensures ∙ c.if-is_some.false) in
    let few : c.index_mut-then-hart-len.result.now + 1 < 2 ^ 32 =
    subst (λ (n : ℕ). n + 1 < 2 ^ 32)
    (sym (get_or_read table.held.items c.args.hart c.index_mut-then-hart-len.result.now (search rules) c.index_mut-then-hart-len.ensures.value 0))
    (taken_few table.holders.items table.held.items c.args.lock c.args.hart table.counted (search rules) free (search rules) (search rules)) in
    search rules

pub invariant_of-self-inside : goal.invariant_of-self-inside
invariant_of-self-inside c =
    let table = c.self.inside in
    let free = was_free table.holders.items c.args.lock c.index.result.now (search rules) c.index.ensures (sym c.is_some.ensures ∙ c.if-is_some.false) in (
      subst (λ (n : ℕ). AreCounted (set table.holders.items c.args.lock (Some c.args.hart)) (set table.held.items c.args.hart (n + 1)))
          (sym (get_or_read table.held.items c.args.hart c.index_mut-then-hart-len.result.now (search rules) c.index_mut-then-hart-len.ensures.value 0))
          (taken table.holders.items table.held.items c.args.lock c.args.hart table.counted (search rules) free (search rules)),
      record {},
    )

pub returns-then-hart-len-clause-free : goal.returns-then-hart-len-clause-free
returns-then-hart-len-clause-free c =
    let table = c.self.inside in
    let free = free_there table.holders.items c.args.lock c.index.result.now (search rules) c.index.ensures (sym c.is_some.ensures ∙ c.if-is_some.false) in
    (λ _. ap (λ (holders : List (Option ℕ)). slice_get holders c.args.lock) (search rules) ∙ free, λ _. search rules)

pub returns-else-hart-len-clause-free : goal.returns-else-hart-len-clause-free
returns-else-hart-len-clause-free c =
    let table = c.self.inside in
    let free = free_there table.holders.items c.args.lock c.index.result.now (search rules) c.index.ensures (sym c.is_some.ensures ∙ c.if-is_some.false) in
    (λ _. ap (λ (holders : List (Option ℕ)). slice_get holders c.args.lock) (search rules) ∙ free, λ _. search rules)
