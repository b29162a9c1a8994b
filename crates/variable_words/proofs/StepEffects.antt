-- What each step of a hart does, effect by effect.
use Rattle.std.proofs.Common.{◌≡◌, ℕ, ◌/◌, List, [], ◌∷◌, ◌++◌, length, refl, sym, ◌∙◌, subst, set, true, Option, Some, None}
use Rattle.std.specs.Prelude.{slice_get, nat_lt, ◌==◌}
use Rattle.std.proofs.lemmas.Bool.{cond_both}
use Rattle.machine_events.specs.declared.event.Event.TheVariants.{Step}
use Rattle.machine_events.specs.declared.event.Reply.TheVariants.{Waits}
use Rattle.ido_base.specs.Words.{Entry, entry_of}
use Rattle.ido_base.specs.Locks.{is_held_by, least_held, least_missing}
use Rattle.ido_base.specs.Layout.{aligned, byte_number}
use Rattle.log_schemes.specs.Layout.{in_range}
use Rattle.rv64_isa.specs.declared.object.Slot.{Slot}
use Rattle.rv64_isa.specs.declared.object.Slot.TheVariants.{Row, NoRow}
use Rattle.machine_model.specs.declared.phase.Phase.{Phase}
use Rattle.machine_model.specs.declared.phase.Phase.TheVariants.{Take, Wait, Resume, Run, Done, Ended}
use Rattle.rv64_isa.specs.Rows.{Effect, Continues, Loads, Stores, Cleans, Fences, Calls, row, read, next}
use Rattle.rv64_isa.specs.Programs.{fetched}
use Rattle.machine_model.specs.Machine.{Hart, World, Outcome, moved, with_hart, with_holder, drain_one}
use Rattle.machine_model.specs.Machine.{access, cleaned, fenced, acquired, released, ended, called}
use Rattle.machine_model.specs.Machine.{applied, executed, hart_step, taken, waited, taking_from, record_of, over_after, done_if_over, run_step, phase_step}
use Rattle.machine_model.specs.Machine.{stepped, happens, after_event}
use Rattle.machine_model.proofs.Public.{get-set_same}
use Rattle.variable_words.specs.MemoryEffects.{MayMakeStore, IsWork, Rests, Queues, WritesBack, Makes, StepsWork}

-- what the hart is in the world after a step
record Does (program : List (List Slot)) (w : World) (h : ℕ) (before : Hart) (new : World) : Type 0 where
  after : Hart
  there : slice_get new.harts h ≡ Some after
  work : IsWork program w h new.words before.queue after.queue

module _ (program : List (List Slot)) (w : World) (h : ℕ) (hart : Hart) (here : slice_get w.harts h ≡ Some hart) where
  abbrev Gives : World → Type 0
  Gives new = Does program w h hart new

  there_after : (after : Hart) → slice_get (set w.harts h after) h ≡ Some after
  there_after after = get-set_same w.harts h after hart here

  stays : Gives w
  stays = record { after = hart; there = here; work = Rests refl refl }

  moves : (after : Hart) → after.queue ≡ hart.queue → Gives (with_hart w h after)
  moves after same = record { after = after; there = there_after after; work = Rests refl same }

  locks : (lock : ℕ) (holder : Option ℕ) (after : Hart) → after.queue ≡ hart.queue → Gives (with_hart (with_holder w lock holder) h after)
  locks lock holder after same = record { after = after; there = there_after after; work = Rests refl same }

  drains : (queue : List Entry) → hart.queue ≡ queue → Gives (drain_one w h hart queue).0
  drains [] is = stays
  drains (e ∷ es) is = record { after = record hart { queue = es }; there = there_after (record hart { queue = es }); work = WritesBack e refl is }

  fences : (queue : List Entry) → hart.queue ≡ queue → Gives (fenced w h hart queue).0
  fences [] is = moves (record hart { pc = next hart.pc }) refl
  fences (e ∷ es) is = drains (e ∷ es) is

  accesses : (address bytes : ℕ) (outcome : Outcome) → (in_range w.log (length w.harts) address bytes ≡ true → aligned address bytes ≡ true → Gives outcome.0) →
      Gives (access w address bytes outcome).0
  accesses address bytes outcome goes_on =
      cond_both (in_range w.log (length w.harts) address bytes) _ _ (λ (o : Outcome). Gives o.0)
      (λ inside. cond_both (aligned address bytes) _ _ (λ (o : Outcome). Gives o.0) (λ even. goes_on inside even) (λ _. stays))
      (λ _. stays)

  cleans : (line : ℕ) → Gives (cleaned w h hart line).0
  cleans line =
      let queued : Hart = record hart { pc = next hart.pc; queue = hart.queue ++ entry_of w.words line ∷ [] } in
      cond_both (nat_lt (length hart.queue) 16) _ _ (λ (o : Outcome). Gives o.0)
      (λ _. record { after = queued; there = there_after queued; work = Queues line refl refl })
      (λ _. drains hart.queue refl)

  acquires : (lock : ℕ) (holder : Option (Option ℕ)) → Gives (acquired w h hart lock holder).0
  acquires lock None = stays
  acquires lock (Some None) = locks lock (Some h) (record hart { pc = next hart.pc }) refl
  acquires lock (Some (Some holder)) = stays

  releases : (lock : ℕ) (holder : Option (Option ℕ)) → Gives (released w h hart lock holder).0
  releases lock None = stays
  releases lock (Some holder) =
      cond_both (is_held_by h holder) _ _ (λ (o : Outcome). Gives o.0) (λ _. locks lock None (record hart { pc = next hart.pc }) refl) (λ _. stays)

  ends : (lock : Option ℕ) → Gives (ended w h hart lock).0
  ends None = moves (record hart { pc = next hart.pc; phase = Ended }) refl
  ends (Some lock) = stays

  calls : (number lock : ℕ) → Gives (called w h hart number lock).0
  calls number lock =
      cond_both (number == 1) _ _ (λ (o : Outcome). Gives o.0) (λ _. acquires lock (slice_get w.holders lock))
      (λ _. cond_both (number == 2) _ _ (λ (o : Outcome). Gives o.0) (λ _. releases lock (slice_get w.holders lock))
      (λ _. cond_both (number == 3) _ _ (λ (o : Outcome). Gives o.0) (λ _. ends (least_held w.holders h)) (λ _. stays)))

  applies : (effect : Effect) → ((address bytes value : ℕ) → effect ≡ Stores address bytes value → in_range w.log (length w.harts) address bytes ≡ true →
      aligned address bytes ≡ true → MayMakeStore program w h address bytes value) → Gives (applied w h hart effect).0
  applies (Continues registers pc) makes = moves (record hart { registers = registers; pc = pc }) refl
  applies (Loads address bytes signed register) makes = accesses address bytes _ (λ _ _. moves _ refl)
  applies (Stores address bytes value) makes = accesses address bytes _ (λ inside even. record {
    after = record hart { pc = next hart.pc };
    there = there_after (record hart { pc = next hart.pc });
    work = Makes address bytes value (makes address bytes value refl inside even) refl refl;
  })
  applies (Cleans address) makes = accesses address 1 _ (λ _ _. cleans (byte_number address / 64))
  applies Fences makes = fences hart.queue refl
  applies Calls makes = calls (read hart.registers 17) (read hart.registers 10)

  executes : hart.phase ≡ Run → (slot : Option Slot) → fetched program h hart.pc ≡ slot → Gives (executed w h hart slot).0
  executes runs None e = stays
  executes runs (Some (NoRow word)) e = stays
  executes runs (Some (Row instr)) e = applies (row instr hart.registers hart.pc) (λ address bytes value is inside even. record {
    executes = record { hart = hart; there = here; runs = runs; instr = instr; fetches = e; effect_is = is };
    inside = inside;
    is_aligned = even;
  })

  abbrev took : (lock : ℕ) → Option (Option ℕ) → Outcome
  took lock holder = elim holder [
    | Some (Some other) ↦ (w, Waits lock other)
    | _ ↦ moved (with_holder w lock (Some h)) h hart
  ]

  by_holder : (lock : ℕ) (holder : Option (Option ℕ)) → Gives (took lock holder).0
  by_holder lock None = locks lock (Some h) hart refl
  by_holder lock (Some None) = locks lock (Some h) hart refl
  by_holder lock (Some (Some holder)) = stays

  takes : (lock : Option ℕ) → Gives (taken w h hart lock).0
  takes None = moves (record hart { phase = Wait }) refl
  takes (Some lock) = by_holder lock (slice_get w.holders lock)

  waits : (taking : Option ℕ) → Gives (waited w h hart taking).0
  waits None = moves (record hart { phase = Resume }) refl
  waits (Some taking) = stays

  -- in recovery the last release makes it done
  settles : (new : World) → Gives new → (after : Option Hart) → slice_get new.harts h ≡ after → Gives (done_if_over w h after new)
  settles new gives None e = gives
  settles new gives (Some after) e =
      let done : Hart = record after { phase = Done } in
      let some : Some gives.after ≡ Some after = sym gives.there ∙ e in
      let same : gives.after ≡ after = cc in
      cond_both (over_after w new h) _ _ (λ (u : World). Gives u)
      (λ _. record {
        after = done;
        there = get-set_same new.harts h done after e;
        work = subst (λ (x : Hart). IsWork program w h new.words hart.queue x.queue) same gives.work;
      })
      (λ _. gives)

  runs : hart.phase ≡ Run → Gives (run_step program w h hart).0
  runs running =
      let outcome = hart_step program w h hart in
      settles outcome.0 (executes running (fetched program h hart.pc) refl) (slice_get outcome.0.harts h) refl

  by_phase : (phase : Phase) → hart.phase ≡ phase → Gives (phase_step program w h hart phase).0
  by_phase Take e = takes (least_missing w.holders (record_of w.log w.words h) h)
  by_phase Wait e = waits (taking_from 0 w.harts)
  by_phase Resume e = moves _ refl
  by_phase Run e = runs e
  by_phase Done e = stays
  by_phase Ended e = stays

  steps : Gives (after_event program w (Step h))
  unfolding happens
  steps = subst (λ (x : Option Hart). Gives (stepped program w h x).0) (sym here) (by_phase hart.phase refl)

pub steps_work : StepsWork
steps_work program w h hart here =
    let does = steps program w h hart here in
    record { after = does.after; there = does.there; work = does.work }
