-- Each number that a crash may leave of an element that refers is null or an element's: one of the state where the execution began, or of a store since.
use Rattle.std.proofs.Common.{◌≡◌, ⊎_elim, refl, sym, ◌∙◌, ap, subst, ℕ, zero}
use Rattle.std.proofs.Common.{suc, ◌-◌, ◌<◌, ◌≤◌, List, [], ◌∷◌, ◌++◌, length, map, Option, Some}
use Rattle.std.proofs.Common.{None, arith, length-append}
use Rattle.std.specs.Prelude.{slice_get, slice_index_or, ℤ, pos}
use Rattle.std.specs.List.{AllByRecursion, AllZip}
use Rattle.std.proofs.lemmas.Bool.{cases_eq}
use Rattle.std.proofs.lemmas.Int.{ints}
use Rattle.std.proofs.lemmas.Option.{none-some}
use Rattle.ido_ints.specs.declared.kinds.Kind.TheVariants.{UnsignedLong}
use Rattle.ido_ints.proofs.Public.{Holds-zero}
use Rattle.c_tree.specs.Flats as f
use Rattle.c_tree.specs.Programs.{Variable}
use Rattle.c_tree.specs.References.{variable_refers}
use Rattle.c_tree.specs.Source as m
use Rattle.c_tree.specs.Source.{Pending, source_step}
use Rattle.c_tree.specs.WellFormed.{IsWellFormed}
use Rattle.c_ranges.specs.RunInvariants.{AreElementsReferring, IsStateOf, RefersSo}
use Rattle.c_ranges.proofs.Public.{stays_so, thread_in}
use Rattle.recovery_semantics.specs.ElementHistories.{History, Memory, after_crash, crashed, history_at, history_of, live_number, number_at}
use Rattle.recovery_semantics.specs.ElementHistories.{with_number, IsOther, IsPersisted, IsStable, IsStored}
use Rattle.recovery_semantics.specs.Attempts.{store_ahead}
use Rattle.recovery_semantics.specs.Configs.{Config, now}
use Rattle.recovery_semantics.specs.Events.{ConfigStep, steps_locally, stores, synchronises, persists, commits, crashes}
use Rattle.recovery_semantics.specs.Executions.{Execution, begins, then}
use Rattle.recovery_semantics.proofs.Public.{executions_resume, index_map}
use Rattle.region_attempts.specs.Origins.{Origin}
use Rattle.known_references.specs.DurableReferences.{DurableRefer}

-- ---- Numbers of a state

pub zero_refers : (vs : List Variable) (refers : Option ℕ) → RefersSo vs refers (pos 0)
zero_refers vs None = tt
zero_refers vs (Some array) =
    record { held = Holds-zero UnsignedLong; names = record { from_low = omega (arith, ints); to_high = omega (arith, ints) } }

element_refers : (vs : List Variable) (refers : Option ℕ) (ns : List ℤ) (element : ℕ) → AllByRecursion (RefersSo vs refers) ns →
    RefersSo vs refers (slice_index_or ns element (pos 0))
element_refers vs refers [] element h = zero_refers vs refers
element_refers vs refers (n ∷ ns) zero h = h.0
element_refers vs refers (n ∷ ns) (suc element) h = element_refers vs refers ns element h.1

-- past the variables and their elements it is 0
number_refers : (all vs : List Variable) (ns : List (List ℤ)) (variable element : ℕ) → AllZip (AreElementsReferring all) vs ns →
    RefersSo all (variable_refers vs variable) (slice_index_or (slice_index_or ns variable []) element (pos 0))
number_refers all [] [] variable element h = tt
number_refers all [] (n ∷ ns) variable element h = absurd h
number_refers all (v ∷ vs) [] variable element h = absurd h
number_refers all (v ∷ vs) (n ∷ ns) zero element h = element_refers all v.refers n element h.0
number_refers all (v ∷ vs) (n ∷ ns) (suc variable) element h = number_refers all vs ns variable element h.1

-- ---- Histories

-- a list with one more at its end, of whose places some count
module _ (P : ℤ → Type 0) where
  each_with : (Counts : ℕ → Type 0) (ns : List ℤ) (n : ℤ) → ((p : ℕ) → Counts p → p < length ns → P (slice_index_or ns p (pos 0))) → P n →
      (p : ℕ) → Counts p → p < length (ns ++ n ∷ []) → P (slice_index_or (ns ++ n ∷ []) p (pos 0))
  each_with Counts [] n each right zero counts within = right
  each_with Counts [] n each right (suc p) counts within = absurd (let none : suc p < 1 = within in omega (arith, none))
  each_with Counts (k ∷ ns) n each right zero counts within = each 0 counts (omega arith)
  each_with Counts (k ∷ ns) n each right (suc p) counts within =
      each_with (λ (q : ℕ). Counts (suc q)) ns n (λ q c low. each (suc q) c (omega (arith, low))) right p counts
      (let inner : suc p < suc (length (ns ++ n ∷ [])) = within in omega (arith, inner))

  -- each number that a crash may leave
  record IsRightFrom (h : History) : Type 0 where
    there : h.durable < length h.values
    each : (p : ℕ) → h.durable ≤ p → p < length h.values → P (slice_index_or h.values p (pos 0))

  right_stable : (h : History) (n : ℤ) → IsStable h n → P n → IsRightFrom h
  right_stable h n stable right = record { there = stable.there; each = λ p low within. subst P (sym (stable.each p low within)) right }

  right_live : (h : History) → IsRightFrom h → P (live_number h)
  right_live h right = let there = right.there in right.each (length h.values - 1) (omega (arith, there)) (omega (arith, there))

  right_with : (h : History) (n : ℤ) → IsRightFrom h → P n → IsRightFrom (with_number h n)
  right_with h n right new = record {
    there = (let there = right.there in omega (arith, there, length-append h.values (n ∷ [])));
    each = λ p low within. each_with (λ (q : ℕ). h.durable ≤ q) h.values n right.each new p low within;
  }

  right_persisted : (old new : History) → IsPersisted old new → IsRightFrom old → IsRightFrom new
  right_persisted old new persisted right =
      let values = persisted.values in
      let lower = persisted.no_lower in
      let size : length new.values ≡ length old.values = ap length values in
      let inside = persisted.within right.there in
      record {
        there = omega (arith, inside, size);
        each = λ p low within. subst (λ (ns : List ℤ). P (slice_index_or ns p (pos 0))) (sym values)
            (right.each p (omega (arith, low, lower)) (omega (arith, within, size)));
      }

  right_crashed : (h : History) → IsRightFrom h → IsRightFrom (after_crash h)
  right_crashed h right = record { there = omega arith; each = by }
    where
      by : (p : ℕ) → 0 ≤ p → p < length (after_crash h).values → P (slice_index_or (after_crash h).values p (pos 0))
      by zero low within = right.each h.durable (omega arith) right.there
      by (suc p) low within = absurd (omega (arith, within))

crashed_at : (memory : Memory) (v e : ℕ) → history_at (crashed memory) v e ≡ after_crash (history_at memory v e)
crashed_at memory v e =
    ap (λ (hs : List History). slice_index_or hs e (history_of (pos 0))) (index_map (map after_crash) memory v [])
    ∙ index_map after_crash (slice_index_or memory v []) e (history_of (pos 0))

-- ---- States of an execution

module _ (x : f.Flat) (w : IsWellFormed x) where
  abbrev after_by : List ℕ → m.State → Option m.State → m.State
  after_by ts s o = elim o [
    | None ↦ s
    | Some next ↦ m.after_from next ts
  ]

  run_by : (s : m.State) (t : ℕ) (ts : List ℕ) (o : Option m.State) → source_step s t ≡ o → IsStateOf x s →
      ((next : m.State) → IsStateOf x next → IsStateOf x (m.after_from next ts)) → IsStateOf x (after_by ts s o)
  run_by s t ts None e is more = is
  run_by s t ts (Some next) e is more = more next (stays_so x s next t w is e)

  after_so : (ts : List ℕ) (s : m.State) → IsStateOf x s → IsStateOf x (m.after_from s ts)
  after_so [] s is = is
  after_so (t ∷ ts) s is = run_by s t ts (source_step s t) refl is (after_so ts)

  abbrev Right : (variable : ℕ) → ℤ → Type 0
  Right variable n = RefersSo x.variables (variable_refers x.variables variable) n

  -- ---- A store

  store_by : (s : m.State) (t : ℕ) (store : Pending) (o : Option m.Thread) → IsStateOf x s → slice_get s.threads t ≡ o →
      (let ahead : Option Pending = elim o [ Some found ↦ found.pending | None ↦ None ] in ahead ≡ Some store) → Right store.variable store.number
  store_by s t store None is there ahead = absurd (none-some store ahead)
  store_by s t store (Some thread) is there ahead = (thread_in x s is t thread there).refers.pending store ahead

  store_right : (s : m.State) (t : ℕ) (store : Pending) → IsStateOf x s → store_ahead s t ≡ Some store → Right store.variable store.number
  store_right s t store is ahead = store_by s t store (slice_get s.threads t) is refl ahead

  -- ---- Memory

  -- in all histories
  abbrev AreRight : Memory → Type 0
  AreRight memory = (v e : ℕ) → IsRightFrom (Right v) (history_at memory v e)

  module _ (old new : Memory) (store : Pending) (stored : IsStored old new store.variable store.element store.number)
      (number : Right store.variable store.number) (right : AreRight old) where
    own : IsRightFrom (Right store.variable) (history_at new store.variable store.element)
    own =
        subst (IsRightFrom (Right store.variable)) (sym stored.own)
        (right_with (Right store.variable) (history_at old store.variable store.element) store.number (right store.variable store.element) number)

    own_at : (v e : ℕ) → v ≡ store.variable → e ≡ store.element → IsRightFrom (Right v) (history_at new v e)
    own_at v e same is =
        subst (λ (j : ℕ). IsRightFrom (Right v) (history_at new v j)) (sym is)
        (subst (λ (i : ℕ). IsRightFrom (Right i) (history_at new i store.element)) (sym same) own)

    other_at : (v e : ℕ) → IsOther store.variable store.element v e → IsRightFrom (Right v) (history_at new v e)
    other_at v e other = ⊎_elim
        (λ same. subst (IsRightFrom (Right v)) (sym same) (right v e))
        (λ again.
        subst (IsRightFrom (Right v)) (sym again)
        (right_with (Right v) (history_at old v e) (live_number (history_at old v e)) (right v e) (right_live (Right v) (history_at old v e) (right v e))))
        (stored.others v e other)

    stored_right : AreRight new
    stored_right v e = ⊎_elim
        (λ same. ⊎_elim
        (λ is. own_at v e same is)
        (λ apart. other_at v e (λ variable element. apart element))
        (cases_eq e store.element))
        (λ apart. other_at v e (λ variable element. apart variable))
        (cases_eq v store.variable)

  right_then : (old next : Config) → IsStateOf x (now old) → ConfigStep old next → AreRight old.memory → AreRight next.memory
  right_then old _ is (steps_locally t attempts h) right = right
  right_then old _ is (stores t memory attempts h) right =
      stored_right old.memory memory h.store h.stored (store_right (now old) t h.store is h.ahead) right
  right_then old _ is (synchronises t h) right = right
  right_then old _ is (persists memory h) right =
      λ v e. right_persisted (Right v) (history_at old.memory v e) (history_at memory v e) (h.each v e) (right v e)
  right_then old _ is (commits t attempts h) right = right
  right_then old _ is (crashes attempts h) right =
      λ v e. subst (IsRightFrom (Right v)) (sym (crashed_at old.memory v e)) (right_crashed (Right v) (history_at old.memory v e) (right v e))

  -- ---- An execution

  module _ (o : Origin x) where
    state_now : (c : Config) (schedule : List ℕ) → Execution x o.source c schedule → IsStateOf x (now c)
    state_now c schedule l =
        let r = executions_resume x o.source c schedule o.keeps l in
        after_so c.uncommitted c.kept (subst (IsStateOf x) r.kept.is (after_so schedule o.source o.formed))

    all_right : {c : Config} {schedule : List ℕ} → Execution x o.source c schedule → AreRight c.memory
    all_right (begins memory stable) v e =
        right_stable (Right v) (history_at memory v e) (number_at o.source v e) (stable.each v e)
        (number_refers x.variables x.variables o.source.variables v e o.formed.references.variables)
    all_right (then {m = old} {next = next} {schedule = schedule} l h) v e = right_then old next (state_now old schedule l) h (all_right l) v e

pub durable_refer : DurableRefer
durable_refer x o c schedule w l variable element =
    let right = all_right x w o l variable element in right.each (history_at c.memory variable element).durable (omega arith) right.there
