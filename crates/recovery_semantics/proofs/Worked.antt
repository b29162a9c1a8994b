-- Worked rows: `mutex m; persistent(m) int x; thread t { lock(m); x = x + 1; unlock(m); }` with a boundary before the store, power that
-- fails after it, and the store once more.
use Rattle.std.proofs.Common.{◌≡◌, ◌≢◌, inl, inr, refl, ℕ, zero, suc, ◌<◌, ◌≤◌, List, [], ◌∷◌, ◌++◌, map, arith, None, ℤ}
use Rattle.std.specs.Prelude.{pos, codes, slice_index_or, All}
use Rattle.ido_base.specs.declared.place.Place.{Place}
use Rattle.ido_ints.specs.declared.kinds.Kind.TheVariants as kind
use Rattle.ido_ints.specs.declared.operators.Binary.TheVariants as b
use Rattle.ido_ints.specs.TypedNumbers.{typed}
use Rattle.ido_ints.specs.Reduction as reduction
use Rattle.c_tree.specs.Exprs as e
use Rattle.c_tree.specs.Programs.{By}
use Rattle.c_tree.specs.Flats as f
use Rattle.c_tree.specs.LockDiscipline as l
use Rattle.c_tree.specs.Source.{source_step, start}
use Rattle.source_machine.proofs.Public.{start_keeps}
use Rattle.recovery_semantics.specs.ElementHistories.{Memory, IsStable, IsOther, IsPersisted, durable_number, live_number, history_at, number_at, memory_of}
use Rattle.recovery_semantics.specs.Attempts.{Attempt, no_attempt, Writes, WritesAt}
use Rattle.recovery_semantics.specs.Configs.{Config, now, Invariant}
use Rattle.recovery_semantics.specs.Events.{ConfigStep, begun, settled_by, steps_locally, stores, synchronises, persists, commits, crashes}
use Rattle.recovery_semantics.specs.Executions.{first_config, Execution, begins, then}
use Rattle.recovery_semantics.proofs.StableHistories.{stable_of}
use Rattle.recovery_semantics.proofs.Paths.{none_some}
use Rattle.recovery_semantics.proofs.CrashesKeepInvariant.{fresh_are_stable}
use Rattle.recovery_semantics.proofs.WholeExecutions.{executions_resume, executions_settle}

abbrev at : ℕ → Place
at place = record { 0 = place }

abbrev placed : ℕ → e.Expr → e.Placed
placed place x = record { place = at place; expr = x }

abbrev sum : e.Placed
sum = placed 55 (e.Binary b.Add (e.Variable (at 55) 0 kind.Int) (e.Constant (typed kind.Int (pos 1))))

abbrev x : f.Flat
x = record {
  mutexes = record { name = record { text = codes "m"; place = at 6 }; length = None } ∷ [];
  variables = record {
    name = record { text = codes "x"; place = at 26 };
    guard = By 0;
    kind = kind.Int;
    refers = None;
    length = None;
    initial = pos 0 ∷ [];
  } ∷ [];
  threads = record {
    name = record { text = codes "t"; place = at 36 };
    locals = [];
    refers = [];
    body = f.statement_and (f.Lock (at 40) (record { mutex = 0; key = None })) (f.statement_and (f.Assign (at 51) (e.ToVariable (at 51) 0 kind.Int) sum)
        (f.statement_and (f.Unlock (at 62) (record { mutex = 0; key = None })) f.no_statement));
    closing = at 73;
  } ∷ [];
}

abbrev of : List ℤ → ℕ → Memory
of values durable = (record { values = values; durable = durable } ∷ []) ∷ []

abbrev tried : ℕ → ℕ → List Attempt
tried done longest = record { done = done; longest = longest } ∷ []

-- ---- The configs

abbrev started : Config
started = first_config x (start x) (memory_of (start x))

abbrev locked : Config
locked = begun started 0 started.memory started.attempts

abbrev in_section : Config
in_section = settled_by locked 0 (tried 0 0)

abbrev evaluated : Config
evaluated = begun in_section 0 in_section.memory (tried 1 1)

-- the store is pending in what is kept
abbrev due : Config
due = settled_by evaluated 0 (tried 0 0)

abbrev stored : Config
stored = begun due 0 (of (pos 0 ∷ pos 1 ∷ []) 0) (tried 1 1)

abbrev evicted : Config
evicted = record { kept = stored.kept; uncommitted = stored.uncommitted; memory = of (pos 0 ∷ pos 1 ∷ []) 1; attempts = stored.attempts }

abbrev failed : Config
failed = record { kept = evicted.kept; uncommitted = []; memory = of (pos 1 ∷ []) 0; attempts = tried 0 1 }

abbrev again : Config
again = begun failed 0 (of (pos 1 ∷ pos 1 ∷ []) 0) (tried 1 1)

abbrev unlocked : Config
unlocked = begun again 0 again.memory again.attempts

abbrev ended : Config
ended = settled_by unlocked 0 (tried 0 0)

-- ---- What happens

others_tried : (a c : ℕ) (h k : ℕ) (u : ℕ) → u ≢ 0 → slice_index_or (tried a c) u no_attempt ≡ slice_index_or (tried h k) u no_attempt
others_tried a c h k zero n = absurd (n refl)
others_tried a c h k (suc u) n = refl

not_empty : (ys : List ℕ) (t : ℕ) (rest : List ℕ) → [] ≡ ys ++ t ∷ rest → ⊥
not_empty [] t rest h = cc
not_empty (y ∷ ys) t rest h = cc

lock : ConfigStep started locked
unfolding source_step
lock = synchronises 0 (record {
  going = refl;
  next = now locked;
  is = refl;
  mutex = 0;
  passes = inl refl;
  own = λ c. not_empty c.before c.giver c.rest c.is;
})

keep_lock : ConfigStep locked in_section
unfolding source_step
keep_lock = commits 0 (tried 0 0) (record {
  whole = refl;
  durable = λ v k w. absurd (let within : w.before < 0 = w.within in omega (arith, within));
  attempt = record { own = refl; others = λ u n. others_tried 0 0 0 0 u n };
})

evaluate : ConfigStep in_section evaluated
unfolding source_step reduction.from_least_on reduction.residue
evaluate = steps_locally 0 (tried 1 1) (record {
  going = refl;
  step = record { next = now evaluated; is = refl; locks_none = refl; unlocks_none = refl };
  no_store = refl;
  attempt = record { own = refl; others = λ u n. others_tried 1 1 0 0 u n };
})

none_written : (v k : ℕ) → ¬ (Writes in_section.kept 0 1 v k)
unfolding source_step
none_written v k w = first w.before w.within w.at
  where
    first : (n : ℕ) → n < 1 → WritesAt in_section.kept 0 n v k → ⊥
    first zero l h = none_some h.store h.is
    first (suc n) l h = absurd (omega (arith, l))

keep_value : ConfigStep evaluated due
unfolding source_step reduction.from_least_on reduction.residue
keep_value = commits 0 (tried 0 0) (record {
  whole = refl;
  durable = λ v k w. absurd (none_written v k w);
  attempt = record { own = refl; others = λ u n. others_tried 0 0 1 1 u n };
})

-- an element that isn't there
others_stored : (one two : List ℤ) (i j v k : ℕ) → IsOther 0 0 v k → history_at (of two j) v k ≡ history_at (of one i) v k
others_stored one two i j zero zero n = absurd (n refl refl)
others_stored one two i j zero (suc k) n = refl
others_stored one two i j (suc v) k n = refl

store : ConfigStep due stored
unfolding source_step reduction.from_least_on reduction.residue
store = stores 0 stored.memory (tried 1 1) (record {
  going = refl;
  store = record { variable = 0; element = 0; number = pos 1 };
  ahead = refl;
  there = omega arith;
  stored = record { size = refl; own = refl; others = λ v k n. inl (others_stored (pos 0 ∷ []) (pos 0 ∷ pos 1 ∷ []) 0 0 v k n) };
  attempt = record { own = refl; others = λ u n. others_tried 1 1 0 0 u n };
})

risen : (v k : ℕ) → IsPersisted (history_at stored.memory v k) (history_at evicted.memory v k)
risen zero zero = record { values = refl; no_lower = omega arith; within = λ l. omega arith }
risen zero (suc k) = record { values = refl; no_lower = omega arith; within = λ l. l }
risen (suc v) k = record { values = refl; no_lower = omega arith; within = λ l. l }

evict : ConfigStep stored evicted
evict = persists evicted.memory (record { size = refl; each = risen })

done_none : (u : ℕ) → (slice_index_or (tried 0 1) u no_attempt).done ≡ 0
done_none zero = refl
done_none (suc u) = refl

longest_same : (u : ℕ) → (slice_index_or (tried 0 1) u no_attempt).longest ≡ (slice_index_or (tried 1 1) u no_attempt).longest
longest_same zero = refl
longest_same (suc u) = refl

fail : ConfigStep evicted failed
fail = crashes (tried 0 1) (record { done = done_none; longest = longest_same })

store_again : ConfigStep failed again
unfolding source_step reduction.from_least_on reduction.residue
store_again = stores 0 again.memory (tried 1 1) (record {
  going = refl;
  store = record { variable = 0; element = 0; number = pos 1 };
  ahead = refl;
  there = omega arith;
  stored = record { size = refl; own = refl; others = λ v k n. inl (others_stored (pos 1 ∷ []) (pos 1 ∷ pos 1 ∷ []) 0 0 v k n) };
  attempt = record { own = refl; others = λ u n. others_tried 1 1 0 1 u n };
})

unlock : ConfigStep again unlocked
unfolding source_step reduction.from_least_on reduction.residue
unlock = synchronises 0 (record {
  going = refl;
  next = now unlocked;
  is = refl;
  mutex = 0;
  passes = inr refl;
  own = λ c. none_some c.mutex c.takes;
})

stable : (v k : ℕ) → IsStable (history_at unlocked.memory v k) (number_at (now unlocked) v k)
unfolding source_step reduction.from_least_on reduction.residue
stable zero zero = record { there = omega arith; each = one }
  where
    one : (n : ℕ) → 0 ≤ n → n < 2 → slice_index_or (pos 1 ∷ pos 1 ∷ []) n (pos 0) ≡ pos 1
    one zero low high = refl
    one (suc zero) low high = refl
    one (suc (suc n)) low high = absurd (omega (arith, high))
stable zero (suc k) = stable_of (pos 0)
stable (suc v) k = stable_of (pos 0)

keep_unlock : ConfigStep unlocked ended
unfolding source_step reduction.from_least_on reduction.residue
keep_unlock = commits 0 (tried 0 0) (record {
  whole = refl;
  durable = λ v k w. stable v k;
  attempt = record { own = refl; others = λ u n. others_tried 0 0 1 1 u n };
})

-- ---- What comes of it

-- four steps are kept, and none is twice
executions : Execution x (start x) ended (0 ∷ 0 ∷ 0 ∷ 0 ∷ [])
unfolding source_step reduction.from_least_on reduction.residue lock keep_lock evaluate keep_value store evict fail store_again unlock keep_unlock
executions =
    let first : Execution x (start x) started [] = begins (memory_of (start x)) (fresh_are_stable (start x)) in
    then (then (then (then (then (then (then (then (then (then first lock) keep_lock) evaluate) keep_value) store) evict) fail) store_again) unlock) keep_unlock

-- memory is ahead of the source after the crash
ahead : (live_number (history_at failed.memory 0 0) ≡ pos 1) × (number_at (now failed) 0 0 ≡ pos 0)
unfolding source_step reduction.from_least_on reduction.residue
ahead = (refl, refl)

disciplined : All (l.IsDisciplined x) x.threads
disciplined zero d h =
    l.then _ _ (l.lock (at 40) (record { mutex = 0; key = None }) refl) (l.then _ _ (l.assign (at 51) (e.ToVariable (at 51) 0 kind.Int) sum refl tt)
    (l.then _ _ (l.unlock (at 62) (record { mutex = 0; key = None }) refl) l.no_more))
disciplined (suc k) d h = absurd (omega (arith, h))

invariant : Invariant x ended
invariant = (executions_resume x (start x) ended (0 ∷ 0 ∷ 0 ∷ 0 ∷ []) (start_keeps x disciplined) executions).invariant

settled : map (map durable_number) ended.memory ≡ (pos 1 ∷ []) ∷ []
unfolding source_step reduction.from_least_on reduction.residue
settled = executions_settle x (start x) ended (0 ∷ 0 ∷ 0 ∷ 0 ∷ []) (start_keeps x disciplined) executions (λ u. refl)
