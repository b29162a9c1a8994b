-- What a step of a hart completes, where it has stored last and what it has accessed first then, and that what is durable stays so.
use Rattle.crash_simulation.proofs.Common.{◌≡◌, ◌≢◌, ℕ, List, sym, ◌∙◌, ap, ap₂, arith, subst, true, false, Option, Some, None, refl, Bool, inl, inr, ◌==◌}
use Rattle.crash_simulation.proofs.Common.{slice_get, ◌&&◌, if◌then◌else◌, ◌≤◌, and_from, and_left, and_right, and_parts, cond-true, cond-false}
use Rattle.crash_simulation.proofs.Common.{nat_tests, none-some, same_Some, AreChanged, word_number, Word, word_at}
use Rattle.crash_simulation.proofs.Common.{last_position, Step, Slot, IsWellFormedWorld, Hart, World, after_event, reply_to, has_moved, is_running, completing}
use Rattle.crash_simulation.proofs.Common.{effect_at, Effect, Stores, steps_touch, equal_self, unequal_of, same_or_other, IsNext}
use Rattle.crash_simulation.proofs.Common.{is_store, one_effect, last_store_after, ◌⊎◌, ◌+◌, [], ◌∷◌, length, length-append, eqb-true, same_last}
use Rattle.crash_simulation.proofs.Common.{Event, Evict, Crash, evictions_touch, IsOfOthers}
use Rattle.machine_events.specs.declared.event.Event.TheVariants.{Start}
use Rattle.machine_model.specs.Schedule.{completes}
use Rattle.crash_simulation.proofs.Common.{true≢false, ◌<◌, Calls, Cleans, Continues, Fences, Loads, Log, is_point_store, stores_point}
use Rattle.crash_simulation.specs.Accesses.{Access, first_access_after, first_of, is_among, load, loads_from, store, stores_to}
use Rattle.crash_simulation.specs.StorePositions.{stores_into}

-- ---- What a step completes

-- nothing of another hart
pub completes_other : (test : Effect → Bool) (program : List (List Slot)) (w : World) (h n : ℕ) → n ≢ h → completes test program w (Step h) n ≡ false
completes_other test program w h n apart = and_left (h == n) _ (unequal_of h n (λ e. apart (sym e)))

abbrev test_of : (test : Effect → Bool) → Option Effect → Bool
test_of test o = elim o [
  | None ↦ false
  | Some effect ↦ test effect
]

abbrev completed_by : (test : Effect → Bool) (program : List (List Slot)) (h : ℕ) → Option Hart → Bool
completed_by test program h o = elim o [
  | None ↦ false
  | Some hart ↦ elim (effect_at program h hart) [
    | None ↦ false
    | Some effect ↦ test effect
  ]
]

-- nothing of any hart where its step completes no instruction
pub completes_none : (test : Effect → Bool) (program : List (List Slot)) (w : World) (h n : ℕ) → completing program w h ≡ None →
    completes test program w (Step h) n ≡ false
completes_none test program w h n none = elim (same_or_other n h) [
  | inl same ↦
      subst (λ (k : ℕ). completes test program w (Step h) k ≡ false) (sym same)
      (and_right (h == h) (completed_by test program h (completing program w h)) (ap (completed_by test program h) none))
  | inr apart ↦ completes_other test program w h n apart
]

module _ (test : Effect → Bool) (program : List (List Slot)) (w : World) (h : ℕ) where
  abbrev if_moved : Option Hart → Option Hart
  if_moved o = elim o [
    | Some hart ↦ if is_running hart.phase && has_moved (reply_to program w (Step h)) then Some hart else None
    | None ↦ None
  ]

  -- the hart whose step completes an instruction is there, and runs
  completes_there : (hart : Hart) → completing program w h ≡ Some hart → (slice_get w.harts h ≡ Some hart) × (is_running hart.phase ≡ true)
  completes_there hart is = by (slice_get w.harts h) refl
    where
      by_test : (other : Hart) → slice_get w.harts h ≡ Some other → (b : Bool) →
          (is_running other.phase && has_moved (reply_to program w (Step h))) ≡ b →
          (if b then Some other else None) ≡ Some hart → (slice_get w.harts h ≡ Some hart) × (is_running hart.phase ≡ true)
      by_test other there true e one =
          let same : other ≡ hart = same_Some other hart one in
          subst (λ (x : Hart). (slice_get w.harts h ≡ Some x) × (is_running x.phase ≡ true)) same (there, (and_parts (is_running other.phase) _ e).0)
      by_test other there false e one = absurd (none-some hart one)

      by : (o : Option Hart) → slice_get w.harts h ≡ o → (slice_get w.harts h ≡ Some hart) × (is_running hart.phase ≡ true)
      by None there = absurd (none-some hart (sym (ap if_moved there) ∙ is))
      by (Some other) there =
          by_test other there (is_running other.phase && has_moved (reply_to program w (Step h))) refl (sym (ap if_moved there) ∙ is)

  -- nothing, where the next effect isn't such
  pub none_completed : ((hart : Hart) (effect : Effect) → IsNext program w h hart effect → test effect ≡ false) → completes test program w (Step h) h ≡ false
  none_completed none = and_right (h == h) (completed_by test program h (completing program w h)) (by_hart (completing program w h) refl)
    where
      by_effect : (hart : Hart) → slice_get w.harts h ≡ Some hart → is_running hart.phase ≡ true → (o : Option Effect) → effect_at program h hart ≡ o →
          test_of test o ≡ false
      by_effect hart here runs None is = refl
      by_effect hart here runs (Some effect) is = none hart effect (record { here = here; runs = runs; is = is })

      by_hart : (o : Option Hart) → completing program w h ≡ o → completed_by test program h o ≡ false
      by_hart None is = refl
      by_hart (Some hart) is = let there = completes_there hart is in by_effect hart there.0 there.1 (effect_at program h hart) refl

  -- the next effect, where the step makes that
  pub next_completed : (hart : Hart) (effect : Effect) → IsNext program w h hart effect → has_moved (reply_to program w (Step h)) ≡ true →
      completes test program w (Step h) h ≡ test effect
  next_completed hart effect next moves =
      let moved : completing program w h ≡ Some hart =
      ap if_moved next.here
      ∙ cond-true (is_running hart.phase && has_moved (reply_to program w (Step h))) (Some hart) None (and_from (is_running hart.phase) _ next.runs moves) in
      ap₂ (λ (a b : Bool). a && b) (equal_self h) (ap (completed_by test program h) moved ∙ ap (test_of test) next.is)

  -- none but such effects are completed
  pub completed_is : (hart : Hart) (effect : Effect) → IsNext program w h hart effect → completes test program w (Step h) h ≡ true → test effect ≡ true
  completed_is hart effect next is = by (test effect) refl
    where
      by : (b : Bool) → test effect ≡ b → test effect ≡ true
      by true e = e
      by false e =
          absurd (true≢false (sym is ∙ none_completed (λ other made there.
          ap test (sym (one_effect program w h hart other effect made next there)) ∙ e)))

-- ---- Where it has stored last

-- what stores nothing stores into no word
pub stores_none : (word : ℕ) (effect : Effect) → is_store effect ≡ false → stores_into word effect ≡ false
stores_none word effect none = grind (arith, nat_tests)

module _ (program : List (List Slot)) (w : World) (h word : ℕ) (before : Option ℕ) where
  -- where it had, where the step completes no store into the word
  pub last_unless : (n : ℕ) → completes (stores_into word) program w (Step h) n ≡ false → before ≡ last_store_after program w (Step h) n word before
  last_unless n none =
      sym (cond-false (completes (stores_into word) program w (Step h) n) (Some (last_position (word_at (after_event program w (Step h)).words word)))
      before none)

  pub last_by : (hart : Hart) (effect : Effect) → IsNext program w h hart effect → stores_into word effect ≡ false →
      before ≡ last_store_after program w (Step h) h word before
  last_by hart effect next none =
      last_unless h (none_completed (stores_into word) program w h (λ other made is.
      subst (λ (e : Effect). stores_into word e ≡ false) (one_effect program w h hart other effect made next is) none))

  -- what is last after a store was so before, or is the store's own
  pub last_store_is : (hart : Hart) (address bytes value position : ℕ) → IsNext program w h hart (Stores address bytes value) →
      last_store_after program w (Step h) h word before ≡ Some position →
      (before ≡ Some position) ⊎ ((word ≡ word_number address) × (position ≤ last_position (word_at (after_event program w (Step h)).words word)))
  last_store_is hart address bytes value position next is = by (word_number address == word) refl
    where
      by_step : word ≡ word_number address → (b : Bool) → completes (stores_into word) program w (Step h) h ≡ b →
          (before ≡ Some position) ⊎ ((word ≡ word_number address) × (position ≤ last_position (word_at (after_event program w (Step h)).words word)))
      by_step same false none = inl (last_unless h none ∙ is)
      by_step same true completes_it =
          let made : Some (last_position (word_at (after_event program w (Step h)).words word)) ≡ Some position =
          sym (cond-true (completes (stores_into word) program w (Step h) h) (Some (last_position (word_at (after_event program w (Step h)).words word)))
          before completes_it) ∙ is in
          let position_is = same_Some _ _ made in
          inr (same, omega (arith, position_is))

      by : (b : Bool) → (word_number address == word) ≡ b →
          (before ≡ Some position) ⊎ ((word ≡ word_number address) × (position ≤ last_position (word_at (after_event program w (Step h)).words word)))
      by false other = inl (last_by hart (Stores address bytes value) next other ∙ is)
      by true same = by_step (sym (eqb-true (word_number address) word same)) (completes (stores_into word) program w (Step h) h) refl

-- ---- What it has accessed first

-- an effect that is no access to memory
abbrev pub makes_access : Effect → Bool
makes_access (Stores address bytes value) = true
makes_access (Loads address bytes signed register) = true
makes_access (Continues registers pc) = false
makes_access (Cleans address) = false
makes_access Fences = false
makes_access Calls = false

no_load : (byte : ℕ) (effect : Effect) → makes_access effect ≡ false → loads_from byte effect ≡ false
no_load byte effect none = grind (arith, nat_tests)

no_store : (byte : ℕ) (effect : Effect) → makes_access effect ≡ false → stores_to byte effect ≡ false
no_store byte effect none = grind (arith, nat_tests)

none_of_point : (log : Log) (thread : ℕ) (effect : Effect) → makes_access effect ≡ false → is_point_store log thread effect ≡ false
none_of_point log thread effect none = grind (arith, nat_tests)

abbrev then_first : (point loads stores : Bool) → Option Access → Option Access
then_first point loads stores before = if point then None else first_of before loads stores

still_first : (before : Option Access) → before ≡ first_of before false false
still_first None = refl
still_first (Some access) = refl

module _ (program : List (List Slot)) (w : World) (h byte : ℕ) (before : Option Access) where
  -- what it was, where the step completes no such instruction of the hart
  accessed_unless : (n : ℕ) → stores_point program w (Step h) n ≡ false → completes (loads_from byte) program w (Step h) n ≡ false →
      completes (stores_to byte) program w (Step h) n ≡ false → before ≡ first_access_after program w (Step h) n byte before
  accessed_unless n point loads stores = still_first before ∙ sym (λ i. then_first (point i) (loads i) (stores i) before)

  -- where it completes none
  pub accessed_none : (n : ℕ) → ((test : Effect → Bool) → completes test program w (Step h) n ≡ false) →
      before ≡ first_access_after program w (Step h) n byte before
  accessed_none n none = accessed_unless n (none (is_point_store w.log n)) (none (loads_from byte)) (none (stores_to byte))

  -- or one that accesses nothing
  pub accessed_by : (hart : Hart) (effect : Effect) → IsNext program w h hart effect → makes_access effect ≡ false →
      before ≡ first_access_after program w (Step h) h byte before
  accessed_by hart effect next none =
      let completes_no = λ (test : Effect → Bool) (fails : test effect ≡ false). none_completed test program w h (λ other made is.
      subst (λ (e : Effect). test e ≡ false) (one_effect program w h hart other effect made next is) fails) in
      accessed_unless h (completes_no (is_point_store w.log h) (none_of_point w.log h effect none)) (completes_no (loads_from byte) (no_load byte effect none))
      (completes_no (stores_to byte) (no_store byte effect none))

-- a byte that is loaded first has been so before, or hadn't been accessed and is loaded now
pub loaded_first : (point loads stores : Bool) (before : Option Access) → then_first point loads stores before ≡ Some load →
    (point ≡ false) × ((before ≡ Some load) ⊎ ((before ≡ None) × (loads ≡ true)))
loaded_first true loads stores before e = absurd (none-some load e)
loaded_first false loads stores (Some access) e = (refl, inl e)
loaded_first false true stores None e = (refl, inr (refl, refl))
loaded_first false false true None e = absurd (let same : store ≡ load = same_Some store load e in cc)
loaded_first false false false None e = absurd (none-some load e)

-- one that has been accessed, or is stored to now, has been accessed then, where no point is stored
pub accessed_then : (point loads stores : Bool) (before : Option Access) → point ≡ false → (before ≢ None) ⊎ (stores ≡ true) →
    then_first point loads stores before ≢ None
accessed_then true loads stores before none some e = true≢false none
accessed_then false loads stores (Some access) none some e = none-some access (sym e)
accessed_then false true stores None none some e = none-some load (sym e)
accessed_then false false true None none some e = none-some store (sym e)
accessed_then false false false None none some e = elim some [
  | inl there ↦ there refl
  | inr stores ↦ true≢false (sym stores)
]

-- a load that is made of the byte
pub record IsLoadOf (byte : ℕ) (effect : Effect) : Type 0 where
  pub address : ℕ
  pub bytes : ℕ
  pub signed : Bool
  pub register : ℕ
  pub is : effect ≡ Loads address bytes signed register
  pub from : address ≤ byte
  pub to : byte < address + bytes

among : (address bytes byte : ℕ) → is_among address bytes byte ≡ true → (address ≤ byte) × (byte < address + bytes)
among address bytes byte is = grind (arith, nat_tests, and_parts)

pub is_among_by : (address bytes byte : ℕ) → address ≤ byte → byte < address + bytes → is_among address bytes byte ≡ true
is_among_by address bytes byte from to = grind (arith, nat_tests, and_from)

pub loads_it : (byte : ℕ) (effect : Effect) → loads_from byte effect ≡ true → IsLoadOf byte effect
loads_it byte (Loads address bytes signed register) e =
    let within = among address bytes byte e in
    record { address = address; bytes = bytes; signed = signed; register = register; is = refl; from = within.0; to = within.1 }
loads_it byte (Stores address bytes value) e = absurd (true≢false (sym e))
loads_it byte (Continues registers pc) e = absurd (true≢false (sym e))
loads_it byte (Cleans address) e = absurd (true≢false (sym e))
loads_it byte Fences e = absurd (true≢false (sym e))
loads_it byte Calls e = absurd (true≢false (sym e))

-- ---- What is durable stays so, and no position is lost

pub changed_last : (old new : List Word) → AreChanged old new → (j position : ℕ) → position ≤ last_position (word_at old j) →
    position ≤ last_position (word_at new j)
changed_last old new changed j position low = elim (changed.each j) [
  | inl persisted ↦ let same : last_position (word_at new j) ≡ last_position (word_at old j) = same_last _ _ persisted in omega (arith, low, same)
  | inr appended ↦
      let long : length (word_at new j).values ≡ length (word_at old j).values + 1 =
      ap (λ (x : Word). length x.values) appended.1 ∙ length-append (word_at old j).values (appended.0 ∷ []) in
      omega (arith, low, long)
]

pub step_last : (program : List (List Slot)) (w : World) (h : ℕ) → IsWellFormedWorld w → (j position : ℕ) → position ≤ last_position (word_at w.words j) →
    position ≤ last_position (word_at (after_event program w (Step h)).words j)
step_last program w h sound = changed_last w.words (after_event program w (Step h)).words (steps_touch program w h sound).words

-- whoever steps, and by an eviction
pub others_last : (program : List (List Slot)) (w : World) (h : ℕ) (event : Event) → IsWellFormedWorld w → IsOfOthers h event → (j position : ℕ) →
    position ≤ last_position (word_at w.words j) → position ≤ last_position (word_at (after_event program w event).words j)
others_last program w h (Step g) sound other j position low = step_last program w g sound j position low
others_last program w h (Evict line mask) sound other j position low =
    let same : last_position (word_at (after_event program w (Evict line mask)).words j) ≡ last_position (word_at w.words j) =
    same_last _ _ ((evictions_touch program w line mask).0.each j) in
    omega (arith, low, same)
others_last program w h Crash sound other j position low = absurd other
others_last program w h Start sound other j position low = absurd other

pub changed_durable : (old new : List Word) → AreChanged old new → (j position : ℕ) → position ≤ (word_at old j).durable → position ≤ (word_at new j).durable
changed_durable old new changed j position low = elim (changed.each j) [
  | inl persisted ↦ omega (arith, low, persisted.no_lower)
  | inr appended ↦ let same : (word_at new j).durable ≡ (word_at old j).durable = ap (λ (x : Word). x.durable) appended.1 in omega (arith, low, same)
]

pub step_durable : (program : List (List Slot)) (w : World) (h : ℕ) → IsWellFormedWorld w → (j position : ℕ) → position ≤ (word_at w.words j).durable →
    position ≤ (word_at (after_event program w (Step h)).words j).durable
step_durable program w h sound = changed_durable w.words (after_event program w (Step h)).words (steps_touch program w h sound).words
