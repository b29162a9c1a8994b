-- What a step of a hart touches, and laws of worlds along events.
use Rattle.std.specs.Prelude.{◌≡◌, ◌≢◌, ℕ, List, length, slice_get, Option, Some, None}
use Rattle.machine_events.specs.declared.event.Event.{Event}
use Rattle.log_schemes.specs.declared.log.Log.{Log}
use Rattle.machine_events.specs.declared.event.Event.TheVariants.{Step, Evict}
use Rattle.log_schemes.specs.Layout.{word_count}
use Rattle.ido_base.specs.Growth.{AreChanged, ArePersisted, AreEntries}
use Rattle.rv64_isa.specs.declared.object.Slot.{Slot}
use Rattle.machine_model.specs.Machine.{Hart, World, after_event, start_of, after_crash_of}

-- the holder of a lock, before and after a step of hart h
pub data IsHeldOn (h : ℕ) (old new : Option (Option ℕ)) : Type 0 where
  Stays : new ≡ old → IsHeldOn h old new
  -- the lock was free, and hart h takes it
  Takes : old ≡ Some None → new ≡ Some (Some h) → IsHeldOn h old new
  -- the hart held it
  Gives : old ≡ Some (Some h) → new ≡ Some None → IsHeldOn h old new

-- the other harts are as they were; a lock changes only from free to h or from h to free; each word is persisted, or has one value more
pub record Touches (h : ℕ) (old new : World) : Type 0 where
  pub count : length new.harts ≡ length old.harts
  pub others : (g : ℕ) → g ≢ h → slice_get new.harts g ≡ slice_get old.harts g
  pub locks : length new.holders ≡ length old.holders
  pub holders : (lock : ℕ) → IsHeldOn h (slice_get old.holders lock) (slice_get new.holders lock)
  pub words : AreChanged old.words new.words
  pub recovering : new.recovering ≡ old.recovering
  pub log : new.log ≡ old.log

-- memory is made for the harts, and what they have queued represents positions of its words
pub record IsWellFormedWorld (w : World) : Type 0 where
  pub size : length w.words ≡ word_count w.log (length w.harts)
  pub queues : (h : ℕ) (hart : Hart) → slice_get w.harts h ≡ Some hart → AreEntries w.words hart.queue

-- ---- Laws

-- a step touches its hart, the locks that this one takes or gives back, and words at the end of their histories
abbrev pub StepsTouch : Type 0
StepsTouch = (program : List (List Slot)) (w : World) (h : ℕ) → IsWellFormedWorld w → Touches h w (after_event program w (Step h))

-- an eviction persists words, and touches nothing else
abbrev pub EvictionsTouch : Type 0
EvictionsTouch = (program : List (List Slot)) (w : World) (line mask : ℕ) →
    ArePersisted w.words (after_event program w (Evict line mask)).words × (record (after_event program w (Evict line mask)) { words = w.words } ≡ w)

-- no event changes how threads log
abbrev pub LogStays : Type 0
LogStays = (program : List (List Slot)) (w : World) (event : Event) → IsWellFormedWorld w → (after_event program w event).log ≡ w.log

-- worlds stay well-formed along every event: what the queues of all harts represent stays
abbrev pub QueuesStand : Type 0
QueuesStand = (program : List (List Slot)) (w : World) (event : Event) → length program ≡ length w.harts → IsWellFormedWorld w →
    IsWellFormedWorld (after_event program w event) × (length (after_event program w event).harts ≡ length w.harts)

-- worlds are well-formed at the start, and where a run begins after a crash
abbrev pub StartsStand : Type 0
StartsStand =
    (log : Log) (program : List (List Slot)) (locks : ℕ) (initial : List ℕ) →
    IsWellFormedWorld (start_of log program locks initial) × (length (start_of log program locks initial).harts ≡ length program)

abbrev pub CrashesStand : Type 0
CrashesStand = (log : Log) (program : List (List Slot)) (locks : ℕ) (words : List ℕ) → length words ≡ word_count log (length program) →
    IsWellFormedWorld (after_crash_of log program locks words) × (length (after_crash_of log program locks words).harts ≡ length program)
