-- No queue has more entries than it may.
use Rattle.std.proofs.Common.{◌≡◌, ◌⊎◌, inl, inr, ℕ, zero, suc, ◌+◌, ◌/◌, ◌<◌, ◌≤◌, List, [], ◌∷◌, ◌++◌}
use Rattle.std.proofs.Common.{length, map, refl, ap, arith, sym, ◌∙◌, subst, set, Option, Some, None}
use Rattle.std.specs.Prelude.{slice_get, nat_lt, ◌==◌}
use Rattle.std.proofs.lemmas.Bool.{cases_eq, cond_both, ltb-true}
use Rattle.std.proofs.Math.ListN.{length-append}
use Rattle.log_schemes.specs.declared.log.Log.{Log}
use Rattle.machine_events.specs.declared.event.Event.{Event}
use Rattle.machine_events.specs.declared.event.Event.TheVariants.{Step, Evict, Crash, Start}
use Rattle.ido_base.specs.Words.{Entry, entry_of, drained, stored, word_of, durable_value}
use Rattle.ido_base.specs.Layout.{aligned, byte_number}
use Rattle.log_schemes.specs.Layout.{in_range}
use Rattle.ido_base.specs.Locks.{is_held_by, least_held, least_missing}
use Rattle.rv64_isa.specs.declared.object.Slot.{Slot}
use Rattle.rv64_isa.specs.declared.object.Slot.TheVariants.{Row, NoRow}
use Rattle.machine_model.specs.declared.phase.Phase.{Phase}
use Rattle.machine_model.specs.declared.phase.Phase.TheVariants.{Take, Wait, Resume, Run, Done, Ended}
use Rattle.rv64_isa.specs.Rows.{Effect, Continues, Loads, Stores, Cleans, Fences, Calls, row, read, next}
use Rattle.rv64_isa.specs.Programs.{fetched}
use Rattle.machine_model.specs.Machine.{Hart, World, Outcome, with_hart, with_holder, drain_one, access, cleaned, fenced, acquired, released, ended, called}
use Rattle.machine_model.specs.Machine.{applied, executed, hart_step, taken, waited, taking_from, record_of, resumed, over_after, done_if_over, phase_step}
use Rattle.machine_model.specs.Machine.{stepped, happens, after_event, durable_point, phase_after_crash, start_of, after_crash_of, fresh_hart}
use Rattle.log_schemes.specs.Schemes.{numbers_from}
use Rattle.machine_model.proofs.Public.{after_start, anew_found, get-set_same, get-set_other}
use Rattle.hart_runs.specs.Laws.{AreShort}
use Rattle.hart_runs.proofs.Worlds.{none_some, some_same, same_there, took}

-- the harts are as they were, or one is another, with such a queue
KeepsQueues : (h : ℕ) → (old new : World) → Type 0
KeepsQueues h old new = (new.harts ≡ old.harts) ⊎ ((x : Hart) × (length x.queue ≤ 16) × (new.harts ≡ set old.harts h x))

kept_short : (h : ℕ) (old new : World) → KeepsQueues h old new → AreShort old → AreShort new
unfolding KeepsQueues
kept_short h old new (inl e) short g hart there = short g hart (sym (ap (λ (hs : List Hart). slice_get hs g) e) ∙ there)
kept_short h old new (inr k) short g hart there = elim (cases_eq g h) [
  | inl is ↦ own (slice_get old.harts h) refl (sym (ap (λ (hs : List Hart). slice_get hs h) k.2) ∙ (ap (λ (i : ℕ). slice_get new.harts i) (sym is) ∙ there))
  | inr other ↦ short g hart (sym (get-set_other old.harts h g k.0 other) ∙ (sym (ap (λ (hs : List Hart). slice_get hs g) k.2) ∙ there))
]
  where
    past : (xs : List Hart) (i : ℕ) (x : Hart) → slice_get xs i ≡ None → slice_get (set xs i x) i ≡ None
    past [] i x e = e
    past (y ∷ ys) zero x e = absurd (none_some y (sym e))
    past (y ∷ ys) (suc i) x e = past ys i x e

    own : (o : Option Hart) → slice_get old.harts h ≡ o → slice_get (set old.harts h k.0) h ≡ Some hart → length hart.queue ≤ 16
    own None e here = absurd (none_some hart (sym (past old.harts h k.0 e) ∙ here))
    own (Some y) e here = subst (λ (x : Hart). length x.queue ≤ 16)
        (same_there (slice_get (set old.harts h k.0) h) k.0 hart (get-set_same old.harts h k.0 y e) here) k.1

module _ (h : ℕ) (w : World) (hart : Hart) (short : length hart.queue ≤ 16) where
  stays : KeepsQueues h w w
  unfolding KeepsQueues
  stays = inl refl

  moves : (v : World) (x : Hart) → v.harts ≡ w.harts → length x.queue ≤ 16 → KeepsQueues h w (with_hart v h x)
  unfolding KeepsQueues
  moves v x e l = inr (x, l, ap (λ (hs : List Hart). set hs h x) e)

  drains : (queue : List Entry) → length queue ≤ 16 → KeepsQueues h w (drain_one w h hart queue).0
  drains [] l = stays
  drains (e ∷ es) l = moves (record w { words = drained w.words e }) (record hart { queue = es }) refl (omega (arith, l))

  fences : (queue : List Entry) → length queue ≤ 16 → KeepsQueues h w (fenced w h hart queue).0
  fences [] l = moves w (record hart { pc = next hart.pc }) refl short
  fences (e ∷ es) l = drains (e ∷ es) l

  accesses : (address bytes : ℕ) (o : Outcome) → KeepsQueues h w o.0 → KeepsQueues h w (access w address bytes o).0
  accesses address bytes o k =
      cond_both (in_range w.log (length w.harts) address bytes) _ _ (λ (x : Outcome). KeepsQueues h w x.0)
      (λ _. cond_both (aligned address bytes) _ _ (λ (x : Outcome). KeepsQueues h w x.0) (λ _. k) (λ _. stays))
      (λ _. stays)

  cleans : (line : ℕ) → KeepsQueues h w (cleaned w h hart line).0
  cleans line =
      cond_both (nat_lt (length hart.queue) 16) _ _ (λ (x : Outcome). KeepsQueues h w x.0)
      (λ e. moves w _ refl (let l : length hart.queue < 16 = ltb-true _ _ e in
      let n : length (hart.queue ++ entry_of w.words line ∷ []) ≡ length hart.queue + 1 =
      length-append hart.queue (entry_of w.words line ∷ []) in omega (arith, l, n)))
      (λ _. drains hart.queue short)

  acquires : (lock : ℕ) (holder : Option (Option ℕ)) → KeepsQueues h w (acquired w h hart lock holder).0
  acquires lock None = stays
  acquires lock (Some None) = moves (with_holder w lock (Some h)) (record hart { pc = next hart.pc }) refl short
  acquires lock (Some (Some holder)) = stays

  releases : (lock : ℕ) (holder : Option (Option ℕ)) → KeepsQueues h w (released w h hart lock holder).0
  releases lock None = stays
  releases lock (Some holder) =
      cond_both (is_held_by h holder) _ _ (λ (x : Outcome). KeepsQueues h w x.0)
      (λ _. moves (with_holder w lock None) (record hart { pc = next hart.pc }) refl short) (λ _. stays)

  ends : (lock : Option ℕ) → KeepsQueues h w (ended w h hart lock).0
  ends None = moves w (record hart { pc = next hart.pc; phase = Ended }) refl short
  ends (Some lock) = stays

  calls : (number lock : ℕ) → KeepsQueues h w (called w h hart number lock).0
  calls number lock =
      cond_both (number == 1) _ _ (λ (x : Outcome). KeepsQueues h w x.0) (λ _. acquires lock (slice_get w.holders lock))
      (λ _. cond_both (number == 2) _ _ (λ (x : Outcome). KeepsQueues h w x.0) (λ _. releases lock (slice_get w.holders lock))
      (λ _. cond_both (number == 3) _ _ (λ (x : Outcome). KeepsQueues h w x.0) (λ _. ends (least_held w.holders h)) (λ _. stays)))

  applies : (effect : Effect) → KeepsQueues h w (applied w h hart effect).0
  applies (Continues registers pc) = moves w (record hart { registers = registers; pc = pc }) refl short
  applies (Loads address bytes signed register) = accesses address bytes _ (moves w _ refl short)
  applies (Stores address bytes value) =
      accesses address bytes _ (moves (record w { words = stored w.words (byte_number address) bytes value }) (record hart { pc = next hart.pc }) refl short)
  applies (Cleans address) = accesses address 1 _ (cleans (byte_number address / 64))
  applies Fences = fences hart.queue short
  applies Calls = calls (read hart.registers 17) (read hart.registers 10)

  executes : (slot : Option Slot) → KeepsQueues h w (executed w h hart slot).0
  executes None = stays
  executes (Some (NoRow word)) = stays
  executes (Some (Row instr)) = applies (row instr hart.registers hart.pc)

  takes : (lock : Option ℕ) → KeepsQueues h w (taken w h hart lock).0
  takes None = moves w (record hart { phase = Wait }) refl short
  takes (Some lock) = by (slice_get w.holders lock)
    where
      by : (o : Option (Option ℕ)) → KeepsQueues h w (took w h hart lock o).0
      by None = moves (with_holder w lock (Some h)) hart refl short
      by (Some None) = moves (with_holder w lock (Some h)) hart refl short
      by (Some (Some holder)) = stays

  waits : (taking : Option ℕ) → KeepsQueues h w (waited w h hart taking).0
  waits None = moves w (record hart { phase = Resume }) refl short
  waits (Some taking) = stays

-- in recovery the last release makes a hart done, with the queue that it has
settles : (h : ℕ) (w v : World) → AreShort v → (o : Option Hart) → slice_get v.harts h ≡ o → AreShort (done_if_over w h o v)
settles h w v short None e = short
settles h w v short (Some hart) e =
    cond_both (over_after w v h) _ _ (λ (u : World). AreShort u)
    (λ _. kept_short h v (with_hart v h (record hart { phase = Done }))
    (moves h v hart (short h hart e) v (record hart { phase = Done }) refl (short h hart e)) short)
    (λ _. short)

module _ (program : List (List Slot)) (h : ℕ) (w : World) (short : AreShort w) where
  by_phase : (hart : Hart) → slice_get w.harts h ≡ Some hart → (phase : Phase) → AreShort (phase_step program w h hart phase).0
  by_phase hart here Take = kept_short h w _ (takes h w hart (short h hart here) (least_missing w.holders (record_of w.log w.words h) h)) short
  by_phase hart here Wait = kept_short h w _ (waits h w hart (short h hart here) (taking_from 0 w.harts)) short
  by_phase hart here Resume = kept_short h w (resumed w h hart).0 (moves h w hart (short h hart here) w _ refl (short h hart here)) short
  by_phase hart here Run =
      let outcome = hart_step program w h hart in
      settles h w outcome.0 (kept_short h w outcome.0 (executes h w hart (short h hart here) (fetched program h hart.pc)) short)
      (slice_get outcome.0.harts h) refl
  by_phase hart here Done = short
  by_phase hart here Ended = short

  by_hart : (o : Option Hart) → slice_get w.harts h ≡ o → AreShort (stepped program w h o).0
  by_hart None e = short
  by_hart (Some hart) e = by_phase hart e hart.phase

all_empty : (program : List (List Slot)) (phase : ℕ → Phase) (at count h : ℕ) (hart : Hart) →
    slice_get (map (λ thread. fresh_hart program (phase thread) thread) (numbers_from at count)) h ≡ Some hart → length hart.queue ≤ 16
all_empty program phase at zero h hart e = absurd (none_some hart e)
all_empty program phase at (suc count) zero hart e = subst (λ (x : Hart). length x.queue ≤ 16) (some_same _ hart e) (omega arith)
all_empty program phase at (suc count) (suc h) hart e = all_empty program phase (at + 1) count h hart e

pub starts_are_short : (log : Log) (program : List (List Slot)) (locks : ℕ) (initial : List ℕ) → AreShort (start_of log program locks initial)
unfolding start_of
starts_are_short log program locks initial = λ h hart e. all_empty program (λ thread. Run) 0 (length program) h hart e

pub crashes_are_short : (log : Log) (program : List (List Slot)) (locks : ℕ) (words : List ℕ) → AreShort (after_crash_of log program locks words)
unfolding after_crash_of
crashes_are_short log program locks words =
    λ h hart e. all_empty program (λ thread. phase_after_crash (durable_point log (map word_of words) thread)) 0 (length program) h hart e

pub queues_stay_short : (program : List (List Slot)) (w : World) (event : Event) → AreShort w → AreShort (after_event program w event)
unfolding happens
queues_stay_short program w (Step h) short = by_hart program h w short (slice_get w.harts h) refl
queues_stay_short program w (Evict line mask) short = short
queues_stay_short program w Crash short = crashes_are_short w.log program (length w.holders) (map durable_value w.words)
queues_stay_short program w Start short =
    after_start program w AreShort
    (λ h hart there.
    let one = anew_found program 0 w.harts h hart there in
    subst (λ (x : Hart). length x.queue ≤ 16) (sym one.is) (short h one.was one.there)) short
