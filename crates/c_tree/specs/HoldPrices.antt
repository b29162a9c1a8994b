-- What it costs that locks are held over nodes: each of them is in the record of a boundary there.
use Rattle.std.specs.Prelude.{ℕ, ◌+◌, ◌*◌, List, [], ◌∷◌, length, slice_set, true, false, find, nat_lt, Option}
use Rattle.std.specs.Option.{option_map}
use Rattle.ido_base.specs.declared.place.Place.{Place}
use Rattle.ido_base.specs.declared.limits.TheConstants.{MOST_PRICE}
use Rattle.c_tree.specs.declared.language.Language.{Language}
use Rattle.c_tree.specs.declared.language.Language.TheVariants.{Plain, Full}
use Rattle.c_tree.specs.Exprs as e
use Rattle.c_tree.specs.Flats as f
use Rattle.c_tree.specs.LockNames.{Held, none_held, number_in, held_names, lock_names}
use Rattle.c_tree.specs.Prices.{key_nodes, thread_price}

-- what a lock costs at a node before or after which it is held
abbrev pub hold_price : e.LockName → ℕ
hold_price x = 8 + 16 * key_nodes x

abbrev pub hold_prices : List e.LockName → ℕ
hold_prices [] = 0
hold_prices (x ∷ xs) = hold_price x + hold_prices xs

-- what is held over the nodes of a part costs so much, and after it the set is this
pub record Holding : Type 0 where
  pub price : ℕ
  pub after : Held

module _ (names : List e.LockName) where
  abbrev pub held_price : Held → ℕ
  held_price h = hold_prices (held_names names h)

  -- an assignment of a variable has two nodes
  abbrev pub assign_hold : Held → e.Lvalue → ℕ
  assign_hold h (e.ToLocal place local kind) = held_price h
  assign_hold h (e.ToVariable place variable kind) = held_price h + held_price h
  assign_hold h (e.ToElement place variable kind index) = held_price h + held_price h

  -- of a part, past every fault of the lock discipline: tests, arms and bodies begin with the set before their statement, and it ends
  -- with that before a loop, or at the end of the first arm
  abbrev mutual
    pub statement_hold : Held → f.Statement → Holding
    statement_hold h (f.Assign place target value) = record { price = assign_hold h target; after = h }
    statement_hold h (f.If place arms otherwise) =
        let a = arms_hold h arms in record { price = a.price + (statements_hold h otherwise).price; after = a.after }
    statement_hold h (f.While place condition body) = record { price = held_price h + (statements_hold h body).price; after = h }
    statement_hold h (f.Do place body condition) = record { price = held_price h + (statements_hold h body).price; after = h }
    -- it is held after the one, and before the other
    statement_hold h (f.Lock place x) = let after = slice_set h (number_in names x) true in record { price = held_price after; after = after }
    statement_hold h (f.Unlock place x) = record { price = held_price h; after = slice_set h (number_in names x) false }

    pub statements_hold : Held → f.Statements → Holding
    statements_hold h f.no_statement = record { price = 0; after = h }
    statements_hold h (f.statement_and x rest) =
        let first = statement_hold h x in
        let more = statements_hold first.after rest in
        record { price = first.price + more.price; after = more.after }

    pub arms_hold : Held → f.Arms → Holding
    arms_hold h f.no_arm = record { price = 0; after = h }
    arms_hold h (f.arm_and condition body rest) =
        let first = statements_hold h body in record { price = held_price h + first.price + (arms_hold h rest).price; after = first.after }

  -- with the node of its end
  abbrev pub thread_hold : f.Thread → ℕ
  thread_hold t = let all = statements_hold (none_held (length names)) t.body in all.price + held_price all.after

-- the price of a thread: where there are no arrays of mutexes, a lock that is held costs nothing
abbrev pub full_price : Language → f.Flat → f.Thread → ℕ
full_price Plain x t = thread_price t
full_price Full x t = thread_price t + thread_hold (lock_names x t) t

-- the name of the first thread whose price is too high
unfoldable pub price_fault : Language → f.Flat → Option Place
price_fault l x = option_map (λ (t : f.Thread). t.name.place) (find (λ (t : f.Thread). nat_lt MOST_PRICE (full_price l x t)) x.threads)
