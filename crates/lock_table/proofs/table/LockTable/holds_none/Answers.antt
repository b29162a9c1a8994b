use Rattle.std.proofs.Common.{rules, ◌≡◌, ◌∙◌, ap, ℕ, List, Option, ◌==◌}
use Rattle.ido_base.specs.Locks.{holds_none}
use Rattle.std.proofs.lemmas.List.{get_or_read}
use Rattle.lock_table.proofs.CountedHolders.{none_where_zero}
use Rattle.lock_table.proofs.table.LockTable.holds_none.Goals as goal

pub returns-then-hart-len : goal.returns-then-hart-len
returns-then-hart-len c =
    let table = c.self.inside in
    let seen : table.holders.items ≡ c.args.self.now = search rules in
    ap (λ (n : ℕ). n == 0) (get_or_read table.held.items c.args.hart c.index.result.now (search rules) c.index.ensures 0
    ∙ table.counted c.args.hart (search rules)) ∙ none_where_zero table.holders.items c.args.hart
    ∙ ap (λ (holders : List (Option ℕ)). holds_none holders c.args.hart) seen
