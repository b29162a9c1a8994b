-- What events do to memory, and how far a queue reaches along them.
use Rattle.std.proofs.Common.{◌≡◌, ◌≢◌, ℕ, ◌+◌, ◌*◌, ◌/◌, ◌%◌, ◌<◌, ◌≤◌, List, [], ◌∷◌, ◌++◌, length, refl, ap, sym, ◌∙◌, subst, true, Option, Some, None}
use Rattle.std.proofs.Common.{⊎_elim, arith}
use Rattle.std.specs.Prelude.{slice_get, nat_lt}
use Rattle.std.proofs.lemmas.List.{length-map}
use Rattle.std.proofs.lemmas.Bool.{cond_both, cases_eq, both_ways, eq-eqb, ltb-false}
use Rattle.machine_events.specs.declared.event.Event.{Event}
use Rattle.machine_events.specs.declared.event.Event.TheVariants.{Step, Evict, Crash, Start}
use Rattle.ido_base.specs.Words.{Word, Entry, word_at, last_position, entry_of, stored}
use Rattle.ido_base.specs.Growth as growth
use Rattle.ido_base.specs.Growth.{AreChanged, IsEntry, AreEntries, PersistsThrough}
use Rattle.ido_base.specs.Layout.{aligned, byte_number}
use Rattle.log_schemes.specs.Layout.{in_range}
use Rattle.ido_base.proofs.Public.{last_later, durable_later, are_persisted_refl, changed_refl, changed_by_persisted, stores_change, write_backs_raise}
use Rattle.ido_base.proofs.Public.{evictions_raise, reach_stays, cleans_reach as cleans_reach_words}
use Rattle.rv64_isa.specs.declared.object.Slot.{Slot}
use Rattle.machine_model.specs.declared.phase.Phase.{Phase}
use Rattle.machine_model.specs.declared.phase.Phase.TheVariants.{Done}
use Rattle.rv64_isa.specs.Rows.{Effect, next}
use Rattle.machine_model.specs.Machine.{Hart, World, Outcome, with_hart, access, applied, executed, hart_step, over_after, done_if_over, phase_step, stepped}
use Rattle.machine_model.specs.Machine.{anew, happens, after_event, after_events}
use Rattle.machine_model.specs.Frames.{IsWellFormedWorld}
use Rattle.machine_model.proofs.Public.{after_start, anew_there, get-set_same, steps_touch, step_goes, queues_stand}
use Rattle.recovery_semantics.specs.ElementHistories.{ArePersisted, History}
use Rattle.recovery_semantics.specs.Elements.{number_in}
use Rattle.recovery_semantics.specs.VariableSpots.{Spot, memory_in}
use Rattle.recovery_semantics.proofs.Public.{memory_persisted, memory_stays, at_spot}
use Rattle.variable_words.specs.MemoryEffects.{IsClean, IsWork, Rests, Queues, WritesBack, Makes, IsPowered}
use Rattle.variable_words.specs.MemoryEffects.{IsBeside, PersistsAsOf, HasPositions, PositionsMeet}
use Rattle.variable_words.specs.MemoryEffects.{PositionsGrow, StoresStore, CleansReach, EventsRaise, ReachLasts, EmptyIsDurable, FencesSettle}
use Rattle.variable_words.proofs.StepEffects.{steps_work}

-- ---- A store

access_made : (w : World) (address bytes : ℕ) (outcome : Outcome) → in_range w.log (length w.harts) address bytes ≡ true → aligned address bytes ≡ true →
    access w address bytes outcome ≡ outcome
access_made w address bytes outcome inside even =
    cond_both (in_range w.log (length w.harts) address bytes) _ _ (λ (o : Outcome). o ≡ outcome)
    (λ _. cond_both (aligned address bytes) _ _ (λ (o : Outcome). o ≡ outcome) (λ _. refl) (λ no. absurd (both_ways (aligned address bytes) no even)))
    (λ no. absurd (both_ways (in_range w.log (length w.harts) address bytes) no inside))

done_words : (before new : World) (h : ℕ) (hart : Option Hart) → (done_if_over before h hart new).words ≡ new.words
done_words before new h None = refl
done_words before new h (Some hart) = cond_both (over_after before new h) _ _ (λ (u : World). u.words ≡ new.words) (λ _. refl) (λ _. refl)

pub stores_store : StoresStore
unfolding happens
stores_store program w h address bytes value s =
    let outcome = hart_step program w h s.executes.hart in
    ap (λ (o : Option Hart). (stepped program w h o).0.words) s.executes.there
    ∙ (ap (λ (p : Phase). (phase_step program w h s.executes.hart p).0.words) s.executes.runs
    ∙ (done_words w outcome.0 h (slice_get outcome.0.harts h)
    ∙ (ap (λ (o : Option Slot). (executed w h s.executes.hart o).0.words) s.executes.fetches
    ∙ (ap (λ (e : Effect). (applied w h s.executes.hart e).0.words) s.executes.effect_is
    ∙ ap (λ (o : Outcome). o.0.words) (access_made w address bytes _ s.inside s.is_aligned)))))

-- ---- A clean

entries_last : (words : List Word) (queue : List Entry) (e : Entry) → AreEntries words (queue ++ e ∷ []) → IsEntry words e
entries_last words [] e h = h.0
entries_last words (f ∷ fs) e h = entries_last words fs e h.1

module _ (program : List (List Slot)) (w : World) (h address : ℕ) (sound : IsWellFormedWorld w) (s : IsClean program w h address) where
  abbrev line : ℕ
  line = byte_number address / 64

  abbrev entry : Entry
  entry = entry_of w.words line

  abbrev queued : Hart
  queued = record s.executes.hart { pc = next s.executes.hart.pc; queue = s.executes.hart.queue ++ entry ∷ [] }

  abbrev cleaned_world : World
  cleaned_world = with_hart w h queued

  queued_there : slice_get cleaned_world.harts h ≡ Some queued
  queued_there = get-set_same w.harts h queued s.executes.hart s.executes.there

  stepped_is : (hart_step program w h s.executes.hart).0 ≡ cleaned_world
  stepped_is =
      ap (λ (o : Option Slot). (executed w h s.executes.hart o).0) s.executes.fetches
      ∙ (ap (λ (e : Effect). (applied w h s.executes.hart e).0) s.executes.effect_is
      ∙ (ap (λ (o : Outcome). o.0) (access_made w address 1 _ s.inside (eq-eqb (address % 1) 0 (omega arith)))
      ∙ cond_both (nat_lt (length s.executes.hart.queue) 16) _ _ (λ (o : Outcome). o.0 ≡ cleaned_world) (λ _. refl)
      (λ full. absurd (omega (arith, s.has_room, ltb-false (length s.executes.hart.queue) 16 full)))))

  world_is : after_event program w (Step h) ≡ done_if_over w h (Some queued) cleaned_world
  unfolding happens
  world_is =
      ap (λ (o : Option Hart). (stepped program w h o).0) s.executes.there
      ∙ (ap (λ (p : Phase). (phase_step program w h s.executes.hart p).0) s.executes.runs
      ∙ (ap (λ (u : World). done_if_over w h (slice_get u.harts h) u) stepped_is
      ∙ ap (λ (o : Option Hart). done_if_over w h o cleaned_world) queued_there))

  -- what the hart has queued, whether or not the step has made it done
  abbrev HasQueued : World → Type 0
  HasQueued u = (x : Hart) × (slice_get u.harts h ≡ Some x) × (u.words ≡ w.words) × (x.queue ≡ s.executes.hart.queue ++ entry ∷ [])

  has_queued : HasQueued (after_event program w (Step h))
  has_queued =
      let done : Hart = record queued { phase = Done } in
      subst (λ (u : World). HasQueued u) (sym world_is)
      (cond_both (over_after w cleaned_world h) _ _ (λ (u : World). HasQueued u)
      (λ _. (done, get-set_same cleaned_world.harts h done queued queued_there, refl, refl))
      (λ _. (queued, queued_there, refl, refl)))

  line_exists : 8 * line + 8 ≤ length w.words
  line_exists =
      let u = after_event program w (Step h) in
      let own : AreEntries u.words has_queued.0.queue = (step_goes program h w sound).own has_queued.0 has_queued.1 in
      let all : AreEntries w.words (s.executes.hart.queue ++ entry ∷ []) =
      subst (λ (ws : List Word). AreEntries ws (s.executes.hart.queue ++ entry ∷ [])) has_queued.2
      (subst (λ (q : List Entry). AreEntries u.words q) has_queued.3 own) in
      (entries_last w.words s.executes.hart.queue entry all).line

  reached : (word : ℕ) → word / 8 ≡ line → PersistsAsOf (after_event program w (Step h)) h word (last_position (word_at w.words word))
  reached word same =
      let u = after_event program w (Step h) in
      let place : 8 * line + word % 8 ≡ word = omega (arith, same) in
      let below : word % 8 < 8 = omega arith in
      let reach = (cleans_reach_words w.words s.executes.hart.queue line (word % 8) line_exists below (sound.queues h s.executes.hart s.executes.there)).1 in
      let here : PersistsThrough w.words (s.executes.hart.queue ++ entry ∷ []) word (last_position (word_at w.words word)) =
      subst (λ (j : ℕ). PersistsThrough w.words (s.executes.hart.queue ++ entry ∷ []) j (last_position (word_at w.words j))) place reach in
      record {
        hart = has_queued.0;
        there = has_queued.1;
        reaches =
            subst (λ (q : List Entry). PersistsThrough u.words q word (last_position (word_at w.words word))) (sym has_queued.3)
            (subst (λ (ws : List Word). PersistsThrough ws (s.executes.hart.queue ++ entry ∷ []) word (last_position (word_at w.words word)))
            (sym has_queued.2) here);
      }

pub cleans_reach : CleansReach
cleans_reach program w h address word sound s same = reached program w h address sound s word same

-- ---- Memory

module _ (program : List (List Slot)) (w : World) (spots : List Spot) (sound : IsWellFormedWorld w) where
  persisted_by : (new : List Word) → growth.ArePersisted w.words new → ArePersisted (memory_in spots w.words) (memory_in spots new)
  persisted_by new r = memory_persisted spots w.words new r

  stays_by : (new : List Word) → new ≡ w.words → ArePersisted (memory_in spots w.words) (memory_in spots new)
  stays_by new same = persisted_by new (subst (λ (ws : List Word). growth.ArePersisted w.words ws) (sym same) (are_persisted_refl w.words))

  first_entry : (queue : List Entry) (e : Entry) (rest : List Entry) → queue ≡ e ∷ rest → AreEntries w.words queue → IsEntry w.words e
  first_entry queue e rest is entries = let all : AreEntries w.words (e ∷ rest) = subst (λ (q : List Entry). AreEntries w.words q) is entries in all.0

  by_work : (h : ℕ) (hart : Hart) (new : List Word) (after : List Entry) → slice_get w.harts h ≡ Some hart → IsBeside program w spots (Step h) →
      IsWork program w h new hart.queue after → ArePersisted (memory_in spots w.words) (memory_in spots new)
  by_work h hart new after here beside (Rests same q) = stays_by new same
  by_work h hart new after here beside (Queues _ same q) = stays_by new same
  by_work h hart new after here beside (WritesBack e is q) =
      persisted_by new (subst (λ (ws : List Word). growth.ArePersisted w.words ws) (sym is)
      (write_backs_raise w.words e (first_entry hart.queue e after q (sound.queues h hart here))))
  by_work h hart new after here beside (Makes address bytes value s is q) =
      let same : memory_in spots new ≡ memory_in spots w.words = ap (memory_in spots) is
      ∙ memory_stays spots w.words (byte_number address) bytes value (λ v e kind at a. beside address bytes value v e kind at s a) in
      subst (λ m. ArePersisted (memory_in spots w.words) m) (sym same) (stays_by w.words refl)

  by_hart : (h : ℕ) (hart : Option Hart) → slice_get w.harts h ≡ hart → IsBeside program w spots (Step h) →
      ArePersisted (memory_in spots w.words) (memory_in spots (after_event program w (Step h)).words)
  unfolding happens
  by_hart h None here beside = stays_by _ (ap (λ (o : Option Hart). (stepped program w h o).0.words) here)
  by_hart h (Some hart) here beside = let does = steps_work program w h hart here in by_work h hart _ does.after.queue here beside does.work

pub events_raise : EventsRaise
unfolding happens
events_raise program w spots (Step h) sound beside = by_hart program w spots sound h (slice_get w.harts h) refl beside
events_raise program w spots (Evict line mask) sound beside = memory_persisted spots w.words _ (evictions_raise w.words line mask)
events_raise program w spots Crash sound beside = absurd beside
events_raise program w spots Start sound beside =
    let same = memory_persisted spots w.words w.words (are_persisted_refl w.words) in
    after_start program w (λ (v : World). ArePersisted (memory_in spots w.words) (memory_in spots v.words)) same same

-- ---- Positions

pub positions_meet : PositionsMeet
positions_meet spots words v e kind number at =
    let is = at_spot spots words v e kind number at in
    subst (λ (x : History). HasPositions x (word_at words (number / 8))) (sym is)
    (record { long = length-map (word_at words (number / 8)).values (number_in kind (number % 8)); durable = refl })

changed_by : (program : List (List Slot)) (w : World) (event : Event) → IsWellFormedWorld w → IsPowered event →
    AreChanged w.words (after_event program w event).words
unfolding happens
changed_by program w (Step h) sound p = (steps_touch program w h sound).words
changed_by program w (Evict line mask) sound p = changed_by_persisted w.words _ (evictions_raise w.words line mask)
changed_by program w Crash sound p = absurd p
changed_by program w Start sound p = after_start program w (λ (v : World). AreChanged w.words v.words) (changed_refl w.words) (changed_refl w.words)

pub positions_grow : PositionsGrow
positions_grow program w [] j count sound p = record { last = omega arith; durable = omega arith }
positions_grow program w (event ∷ events) j count sound p =
    let next = queues_stand program w event count sound in
    let changed = (changed_by program w event sound p.0).each j in
    let more = positions_grow program (after_event program w event) events j (count ∙ sym next.1) next.0 p.1 in
    record { last = omega (arith, last_later _ _ changed, more.last); durable = omega (arith, durable_later _ _ changed, more.durable) }

-- ---- Reach

append_nil : (q : List Entry) → q ++ [] ≡ q
append_nil [] = refl
append_nil (e ∷ es) = ap (λ (q : List Entry). e ∷ q) (append_nil es)

same_reach : (old new : List Word) (queue : List Entry) (j position : ℕ) → AreChanged old new → PersistsThrough old queue j position →
    PersistsThrough new queue j position
same_reach old new queue j position c r =
    subst (λ (q : List Entry). PersistsThrough new q j position) (append_nil queue) (reach_stays old new queue [] j position c r)

module _ (program : List (List Slot)) (w : World) (h j position : ℕ) (reached : PersistsAsOf w h j position) where
  abbrev hart : Hart
  hart = reached.hart

  reach_by : (new : List Word) (after : List Entry) → IsWork program w h new hart.queue after → PersistsThrough new after j position
  reach_by new after (Rests same q) =
      subst (λ (ws : List Word). PersistsThrough ws after j position) (sym same)
      (subst (λ (x : List Entry). PersistsThrough w.words x j position) (sym q) reached.reaches)
  reach_by new after (Queues line same q) =
      subst (λ (ws : List Word). PersistsThrough ws after j position) (sym same) (subst (λ (x : List Entry). PersistsThrough w.words x j position) (sym q)
      (reach_stays w.words w.words hart.queue (entry_of w.words line ∷ []) j position (changed_refl w.words) reached.reaches))
  reach_by new after (WritesBack e is q) =
      subst (λ (ws : List Word). PersistsThrough ws after j position) (sym is)
      (subst (λ (x : List Entry). PersistsThrough w.words x j position) q reached.reaches)
  reach_by new after (Makes address bytes value s is q) =
      subst (λ (ws : List Word). PersistsThrough ws after j position) (sym is) (subst (λ (x : List Entry). PersistsThrough (stored w.words
      (byte_number address) bytes value) x j position) (sym q)
      (same_reach w.words (stored w.words (byte_number address) bytes value) hart.queue j position (stores_change w.words
      (byte_number address) bytes value) reached.reaches))

  own_step : PersistsAsOf (after_event program w (Step h)) h j position
  own_step =
      let does = steps_work program w h hart reached.there in
      record { hart = does.after; there = does.there; reaches = reach_by _ does.after.queue does.work }

  -- a step of another hart
  other_step : (g : ℕ) → h ≢ g → IsWellFormedWorld w → PersistsAsOf (after_event program w (Step g)) h j position
  other_step g differs sound =
      let t = steps_touch program w g sound in
      record { hart = hart; there = t.others h differs ∙ reached.there; reaches = same_reach w.words _ hart.queue j position t.words reached.reaches }

  by_event : (event : Event) → IsWellFormedWorld w → IsPowered event → PersistsAsOf (after_event program w event) h j position
  unfolding happens
  by_event (Step g) sound p = ⊎_elim
      (λ same. subst (λ (i : ℕ). PersistsAsOf (after_event program w (Step i)) h j position) same own_step)
      (λ differs. other_step g differs sound)
      (cases_eq h g)
  by_event (Evict line mask) sound p = record {
    hart = hart;
    there = reached.there;
    reaches = same_reach w.words _ hart.queue j position (changed_by_persisted w.words _ (evictions_raise w.words line mask)) reached.reaches;
  }
  by_event Crash sound p = absurd p
  by_event Start sound p =
      after_start program w (λ (v : World). PersistsAsOf v h j position)
      (let number : 0 + h ≡ h = omega arith in
      record { hart = anew program (0 + h) hart; there = anew_there program 0 w.harts h hart reached.there; reaches = reached.reaches }) reached

pub reach_lasts : ReachLasts
reach_lasts program w [] h j position count sound p r = r
reach_lasts program w (event ∷ events) h j position count sound p r =
    let next = queues_stand program w event count sound in
    reach_lasts program (after_event program w event) events h j position (count ∙ sym next.1) next.0 p.1 (by_event program w h j position r event sound p.0)

pub empty_is_durable : EmptyIsDurable
empty_is_durable w h j position hart r there empty =
    let some : Some r.hart ≡ Some hart = sym r.there ∙ there in
    let same : r.hart ≡ hart = cc in
    let none : r.hart.queue ≡ [] = ap (λ (x : Hart). x.queue) same ∙ empty in
    subst (λ (q : List Entry). PersistsThrough w.words q j position) none r.reaches

pub fences_settle : FencesSettle
fences_settle program w events h position hart spots v e kind number count sound p r there empty at =
    let new = after_events program w events in
    let durable = empty_is_durable new h (number / 8) position hart (reach_lasts program w events h (number / 8) position count sound p r) there empty in
    subst (λ (x : History). position ≤ x.durable) (sym (at_spot spots new.words v e kind number at)) durable
