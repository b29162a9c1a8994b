-- How far a hart's queue reaches.
use Rattle.std.proofs.Common.{◌≡◌, ℕ, ◌+◌, ◌*◌, ◌/◌, ◌<◌, ◌≤◌, List, [], ◌∷◌, sym, subst, true}
use Rattle.std.specs.Prelude.{length}
use Rattle.std.proofs.lemmas.List.{append-nil}
use Rattle.machine_events.specs.declared.event.Event.{Event}
use Rattle.machine_events.specs.declared.event.Event.TheVariants.{Step, Evict, Crash, Start}
use Rattle.ido_base.specs.Words.{Word, Entry, word_at, last_position, entry_of, stored, drained}
use Rattle.ido_base.specs.Layout.{byte_number}
use Rattle.log_schemes.specs.Layout.{in_range}
use Rattle.ido_base.specs.Growth.{AreChanged, PersistsThrough}
use Rattle.ido_base.proofs.Public.{changed_refl, changed_by_persisted, stores_change, reach_stays, cleans_reach}
use Rattle.rv64_isa.specs.declared.object.Slot.{Slot}
use Rattle.rv64_isa.specs.Rows.{Effect, Continues, Loads, Stores, Cleans, Fences, Calls}
use Rattle.machine_model.specs.Machine.{Hart, World, after_event}
use Rattle.machine_model.specs.Frames.{IsWellFormedWorld}
use Rattle.machine_model.proofs.Public.{steps_touch, evictions_touch}
use Rattle.hart_runs.specs.HartsOnRuns.{may_go, OnRun}
use Rattle.hart_runs.specs.RunSteps.{Contents, Changes, GoesForward, Drains}
use Rattle.hart_runs.specs.Laws.{IsOfOthers}
use Rattle.hart_runs.proofs.Memory.{line_there}
use Rattle.hart_runs.proofs.RunStepEffects.{may_next}

-- where words change, a queue reaches no less far
changed_reaches : (old new : List Word) (queue : List Entry) (j position : ℕ) → AreChanged old new → PersistsThrough old queue j position →
    PersistsThrough new queue j position
changed_reaches old new queue j position c r =
    subst (λ (q : List Entry). PersistsThrough new q j position) (append-nil queue) (reach_stays old new queue [] j position c r)

-- after an instruction
after_reaches : (e : Effect) (old new : Contents) (j position : ℕ) → Changes old e new → PersistsThrough old.words old.queue j position →
    PersistsThrough new.words new.queue j position
after_reaches (Continues registers pc) old new j position c r = subst (λ (x : Contents). PersistsThrough x.words x.queue j position) (sym c) r
after_reaches (Loads address bytes signed register) old new j position c r = subst (λ (x : Contents). PersistsThrough x.words x.queue j position) (sym c) r
after_reaches (Stores address bytes value) old new j position c r =
    subst (λ (x : Contents). PersistsThrough x.words x.queue j position) (sym c)
    (changed_reaches old.words (stored old.words (byte_number address) bytes value) old.queue j position
    (stores_change old.words (byte_number address) bytes value) r)
after_reaches (Cleans address) old new j position c r =
    subst (λ (x : Contents). PersistsThrough x.words x.queue j position) (sym c.1)
    (reach_stays old.words old.words old.queue (entry_of old.words (byte_number address / 64) ∷ []) j position (changed_refl old.words) r)
after_reaches Fences old new j position c r = subst (λ (x : Contents). PersistsThrough x.words x.queue j position) (sym c.1) r
after_reaches Calls old new j position c r = absurd c

module _ (program : List (List Slot)) (w : World) (h : ℕ) (run : OnRun w h) where
  -- from what comes after an instruction to the world
  in_world : (f : GoesForward program w h run) (j position : ℕ) → PersistsThrough f.contents.words f.contents.queue j position →
      PersistsThrough (after_event program w (Step h)).words f.on.hart.queue j position
  in_world f j position r =
      subst (λ (v : World). PersistsThrough v.words f.on.hart.queue j position) (sym f.world)
      (subst (λ (x : Hart). PersistsThrough f.contents.words x.queue j position) (sym f.same) r)

  pub forward_reaches : (f : GoesForward program w h run) (j position : ℕ) → PersistsThrough w.words run.on.hart.queue j position →
      PersistsThrough (after_event program w (Step h)).words f.on.hart.queue j position
  forward_reaches f j position r =
      in_world f j position (after_reaches f.effect (record { words = w.words; queue = run.on.hart.queue }) f.contents j position f.changes r)

  pub drains_reach : (d : Drains program w h run) (j position : ℕ) → PersistsThrough w.words run.on.hart.queue j position →
      PersistsThrough (after_event program w (Step h)).words d.on.hart.queue j position
  drains_reach d j position r =
      let all : PersistsThrough w.words (d.entry ∷ d.rest) j position = subst (λ (q : List Entry). PersistsThrough w.words q j position) d.queue_is r in
      subst (λ (v : World). PersistsThrough v.words d.on.hart.queue j position) (sym d.world)
      (subst (λ (x : Hart). PersistsThrough (drained w.words d.entry) x.queue j position) (sym d.same) all)

  pub cleans_reach_now : IsWellFormedWorld w → (f : GoesForward program w h run) (address k : ℕ) → f.effect ≡ Cleans address → k < 8 →
      PersistsThrough (after_event program w (Step h)).words f.on.hart.queue (8 * (byte_number address / 64) + k)
      (last_position (word_at w.words (8 * (byte_number address / 64) + k)))
  cleans_reach_now sound f address k is l =
      let changes : Changes (record { words = w.words; queue = run.on.hart.queue }) (Cleans address) f.contents =
      subst (λ (e : Effect). Changes (record { words = w.words; queue = run.on.hart.queue }) e f.contents) is f.changes in
      let may : in_range w.log (length w.harts) address 1 ≡ true =
      subst (λ (e : Effect). may_go w.log (length w.harts) e ≡ true) is (may_next program w h run f) in
      let exists : 8 * (byte_number address / 64) + 8 ≤ length w.words =
      subst (λ (n : ℕ). 8 * (byte_number address / 64) + 8 ≤ n) (sym sound.size) (line_there w.log (length w.harts) address may) in
      let r = cleans_reach w.words run.on.hart.queue (byte_number address / 64) k exists l (sound.queues h run.on.hart run.on.here) in
      in_world f (8 * (byte_number address / 64) + k) (last_position (word_at w.words (8 * (byte_number address / 64) + k)))
      (subst (λ (x : Contents). PersistsThrough x.words x.queue (8 * (byte_number address / 64) + k)
      (last_position (word_at w.words (8 * (byte_number address / 64) + k))))
      (sym changes.1) r.1)

  pub fences_settle : (f : GoesForward program w h run) → f.effect ≡ Fences → (j position : ℕ) → PersistsThrough w.words run.on.hart.queue j position →
      position ≤ (word_at (after_event program w (Step h)).words j).durable
  fences_settle f is j position r =
      let changes : Changes (record { words = w.words; queue = run.on.hart.queue }) Fences f.contents =
      subst (λ (e : Effect). Changes (record { words = w.words; queue = run.on.hart.queue }) e f.contents) is f.changes in
      let none : PersistsThrough w.words [] j position = subst (λ (q : List Entry). PersistsThrough w.words q j position) changes.0 r in
      let here : position ≤ (word_at f.contents.words j).durable = subst (λ (x : Contents). position ≤ (word_at x.words j).durable) (sym changes.1) none in
      subst (λ (v : World). position ≤ (word_at v.words j).durable) (sym f.world) here

pub others_reach : (program : List (List Slot)) (w : World) (h : ℕ) (event : Event) → IsWellFormedWorld w → IsOfOthers h event →
    (queue : List Entry) (j position : ℕ) →
    PersistsThrough w.words queue j position → PersistsThrough (after_event program w event).words queue j position
others_reach program w h (Step g) sound other queue j position r =
    changed_reaches w.words (after_event program w (Step g)).words queue j position (steps_touch program w g sound).words r
others_reach program w h (Evict line mask) sound other queue j position r =
    changed_reaches w.words (after_event program w (Evict line mask)).words queue j position
    (changed_by_persisted w.words _ (evictions_touch program w line mask).0) r
others_reach program w h Crash sound other queue j position r = absurd other
others_reach program w h Start sound other queue j position r = absurd other
