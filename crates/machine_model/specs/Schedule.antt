-- What a run of the machine means for the source: which steps of it were begun, and which are kept.
use Rattle.std.specs.Prelude.{ℕ, zero, suc, ◌+◌, List, [], ◌∷◌, ◌++◌, length, map, filter, slice_get, slice_index_or, Option, Some, None, is_none}
use Rattle.std.specs.Prelude.{Bool, true, false, not, nat_le, ◌==◌, ◌&&◌, if◌then◌else◌}
use Rattle.std.specs.List.{list_any}
use Rattle.machine_events.specs.declared.event.Event.{Event}
use Rattle.log_schemes.specs.declared.log.Log.{Log}
use Rattle.machine_events.specs.declared.event.Event.TheVariants.{Step, Evict, Crash, Start}
use Rattle.machine_events.specs.declared.event.Reply.{Reply}
use Rattle.machine_events.specs.declared.event.Reply.TheVariants.{Moved, Drained, Waits, Barrier, Still, Stuck, Device}
use Rattle.ido_base.specs.Words.{Word, word_at, last_position}
use Rattle.ido_base.specs.Layout.{word_number}
use Rattle.log_schemes.specs.Layout.{point_at}
use Rattle.ido_base.specs.Locks.{holds_none}
use Rattle.rv64_isa.specs.declared.object.Slot.{Slot}
use Rattle.rv64_isa.specs.declared.object.Slot.TheVariants.{Row}
use Rattle.machine_model.specs.declared.phase.Phase.{Phase}
use Rattle.machine_model.specs.declared.phase.Phase.TheVariants.{Take, Wait, Resume, Run, Done, Ended}
use Rattle.rv64_isa.specs.Rows.{Effect, Continues, Loads, Stores, Cleans, Fences, Calls, row}
use Rattle.rv64_isa.specs.Programs.{fetched}
use Rattle.machine_model.specs.Machine.{Hart, World, after_event, reply_to, can_start}

-- ---- What a step of a hart does

abbrev pub has_moved : Reply → Bool
has_moved Moved = true
has_moved Drained = false
has_moved (Waits lock holder) = false
has_moved (Barrier hart) = false
has_moved Still = false
has_moved (Stuck cause) = false
has_moved Device = false

abbrev pub is_running : Phase → Bool
is_running Run = true
is_running Take = false
is_running Wait = false
is_running Resume = false
is_running Done = false
is_running Ended = false

-- the hart, where it executes instructions and its step now completes one
abbrev pub completing : List (List Slot) → World → (h : ℕ) → Option Hart
completing program w h = elim (slice_get w.harts h) [
  | Some hart ↦ if is_running hart.phase && has_moved (reply_to program w (Step h)) then Some hart else None
  | None ↦ None
]

-- the effect of the instruction at a hart's pc
abbrev pub effect_at : List (List Slot) → (h : ℕ) → Hart → Option Effect
effect_at program h hart = elim (fetched program h hart.pc) [
  | Some (Row instr) ↦ Some (row instr hart.registers hart.pc)
  | _ ↦ None
]

-- the step now completes an instruction of hart h whose effect is such
abbrev pub completes : (Effect → Bool) → List (List Slot) → World → Event → (h : ℕ) → Bool
completes test program w (Step g) h = (g == h) && elim (completing program w h) [
  | None ↦ false
  | Some hart ↦ elim (effect_at program h hart) [
    | None ↦ false
    | Some effect ↦ test effect
  ]
]
completes test program w (Evict line mask) h = false
completes test program w Crash h = false
completes test program w Start h = false

-- stores into the word of the thread's point
abbrev pub is_point_store : Log → (thread : ℕ) → Effect → Bool
is_point_store log thread (Stores address bytes value) = word_number address == word_number (point_at log thread)
is_point_store log thread (Continues registers pc) = false
is_point_store log thread (Loads address bytes signed register) = false
is_point_store log thread (Cleans address) = false
is_point_store log thread Fences = false
is_point_store log thread Calls = false

abbrev pub is_fence : Effect → Bool
is_fence Fences = true
is_fence (Continues registers pc) = false
is_fence (Loads address bytes signed register) = false
is_fence (Stores address bytes value) = false
is_fence (Cleans address) = false
is_fence Calls = false

-- the event now stores the hart's point
abbrev pub stores_point : List (List Slot) → World → Event → (h : ℕ) → Bool
stores_point program w event h = completes (is_point_store w.log h) program w event h

-- the event now finishes a fence of the hart
abbrev pub finishes_fence : List (List Slot) → World → Event → (h : ℕ) → Bool
finishes_fence program w event h = completes is_fence program w event h

-- ---- Begun and kept steps
-- By three moments: a hart passes a mark of its thread, which is the address of an instruction that begins a step of the source; it stores its point; and that
-- store is durable, by which the step is kept.

-- a step of the source that its hart has begun and that isn't kept
pub record PendingStep : Type 0 where
  pub hart : ℕ
  -- bound to the first store of its point that the hart has made since: the position of that, if there was one
  pub stored : Option ℕ

-- whose steps they are, as a schedule
abbrev pub harts_of : List PendingStep → List ℕ
harts_of steps = map (λ step. step.hart) steps

-- a schedule for each life: those of the lives before, and one of the life that goes on
pub record LifeSchedules : Type 0 where
  pub earlier : List (List ℕ)
  pub schedule : List ℕ

-- all of them, the first life's first
abbrev pub all_lives : LifeSchedules → List (List ℕ)
all_lives lives = lives.earlier ++ lives.schedule ∷ []

-- of a life with none before it
abbrev pub only_life : (schedule : List ℕ) → LifeSchedules
only_life schedule = record { earlier = []; schedule = schedule }

pub record Steps : Type 0 where
  -- a number of a hart for each mark passed in this life
  pub begun : List ℕ
  -- the kept schedules of the lives before this one: a start puts this life's behind them, and no other event changes them
  pub earlier : List (List ℕ)
  -- this life's
  pub kept : List ℕ
  -- the steps begun since this life's start or the last crash and not kept, in their order
  pub pending : List PendingStep

-- the schedules that are kept, this life's so far
abbrev pub kept_lives : Steps → LifeSchedules
kept_lives s = record { earlier = s.earlier; schedule = s.kept }

abbrev pub schedules : Steps → List (List ℕ)
schedules s = all_lives (kept_lives s)

abbrev pub is_mark : List (List ℕ) → (thread pc : ℕ) → Bool
is_mark marks thread pc = list_any (λ mark. mark == pc) (slice_index_or marks thread [])

-- the step passes a mark of hart h
abbrev pub passes_mark : List (List ℕ) → List (List Slot) → World → (h : ℕ) → Bool
passes_mark marks program w h = elim (completing program w h) [
  | Some hart ↦ is_mark marks h hart.pc
  | None ↦ false
]

-- hart h passes a mark: it begins a step
abbrev pub with_begun : (h : ℕ) → Steps → Steps
with_begun h s = record s { begun = s.begun ++ h ∷ []; pending = s.pending ++ record { hart = h; stored = None } ∷ [] }

-- the step, where hart h stores its point at the position
abbrev pub then_stored : (h position : ℕ) → PendingStep → PendingStep
then_stored h position step = if step.hart == h && is_none step.stored then record step { stored = Some position } else step

-- hart h stores its point at the position: its steps that are bound to no store are bound to this one
abbrev pub with_stored : (h position : ℕ) → Steps → Steps
with_stored h position s = record s { pending = map (then_stored h position) s.pending }

-- there is a position, and it is at most the durable one
abbrev pub is_up_to : (durable : ℕ) → Option ℕ → Bool
is_up_to durable None = false
is_up_to durable (Some position) = nat_le position durable

-- the step is one of hart h, and bound to a store of its point that is durable
abbrev pub is_durable : (h durable : ℕ) → PendingStep → Bool
is_durable h durable step = (step.hart == h) && is_up_to durable step.stored

-- the steps of hart h that are bound to a durable store of its point are kept
abbrev pub with_kept : Log → List Word → (h : ℕ) → Steps → Steps
with_kept log words h s =
    let durable = (word_at words (word_number (point_at log h))).durable in
    record s {
      kept = s.kept ++ harts_of (filter (is_durable h durable) s.pending);
      pending = filter (λ step. not (is_durable h durable step)) s.pending;
    }

-- those of each of the first `count` harts are, hart by hart
abbrev pub with_all_kept : Log → List Word → (count : ℕ) → Steps → Steps
with_all_kept log words zero s = s
with_all_kept log words (suc h) s = with_kept log words h (with_all_kept log words h s)

-- what a step of hart h begins, and what it stores after
abbrev pub with_step : List (List ℕ) → List (List Slot) → World → (h : ℕ) → Steps → Steps
with_step marks program w h s =
    let started = if passes_mark marks program w h then with_begun h s else s in
    if stores_point program w (Step h) h
    then with_stored h (last_position (word_at (after_event program w (Step h)).words (word_number (point_at w.log h)))) started else started

-- the event begins another life
abbrev pub begins_life : World → Event → Bool
begins_life w Start = can_start w
begins_life w (Step h) = false
begins_life w (Evict line mask) = false
begins_life w Crash = false

-- the life goes on by the event: it neither takes power away nor begins another one
abbrev pub KeepsOn : Event → Type 0
KeepsOn (Step h) = Unit {0}
KeepsOn (Evict line mask) = Unit {0}
KeepsOn Crash = ⊥
KeepsOn Start = ⊥

-- none of the events is a start
abbrev pub HaveNoStart : List Event → Type 0
HaveNoStart [] = Unit {0}
HaveNoStart (Step h ∷ events) = HaveNoStart events
HaveNoStart (Evict line mask ∷ events) = HaveNoStart events
HaveNoStart (Crash ∷ events) = HaveNoStart events
HaveNoStart (Start ∷ events) = ⊥

-- the steps of another life, before any: those that the last life has not kept are dropped
abbrev pub next_life : Steps → Steps
next_life s = record { begun = []; earlier = s.earlier ++ s.kept ∷ []; kept = []; pending = [] }

-- the steps after an event
unfoldable pub steps_after : List (List ℕ) → List (List Slot) → World → Event → Steps → Steps
steps_after marks program w (Step h) s = with_all_kept w.log (after_event program w (Step h)).words (length program) (with_step marks program w h s)
steps_after marks program w (Evict line mask) s = with_all_kept w.log (after_event program w (Evict line mask)).words (length program) s
steps_after marks program w Crash s = record s { pending = [] }
steps_after marks program w Start s = if can_start w then next_life s else s

-- the steps after a list of events
abbrev pub steps_along : List (List ℕ) → List (List Slot) → World → List Event → Steps → Steps
steps_along marks program w [] s = s
steps_along marks program w (event ∷ events) s = steps_along marks program (after_event program w event) events (steps_after marks program w event s)

-- the steps before any event, with schedules that are kept already
abbrev pub first_steps : (kept : LifeSchedules) → Steps
first_steps kept = record { begun = []; earlier = kept.earlier; kept = kept.schedule; pending = [] }

-- ---- Releases

-- the event is a release that leaves hart h with nothing
abbrev pub releases_last : List (List Slot) → World → Event → (h : ℕ) → Bool
releases_last program w (Step g) h = (g == h) && (not (holds_none w.holders h) && holds_none (after_event program w (Step h)).holders h)
releases_last program w (Evict line mask) h = false
releases_last program w Crash h = false
releases_last program w Start h = false

-- how often hart h was left with nothing by releases of the life that goes on after the event, where it was so often before
abbrev pub released_after : List (List Slot) → World → Event → (h before : ℕ) → ℕ
released_after program w event h before = if begins_life w event then 0 else before + (if releases_last program w event h then 1 else 0)

abbrev pub released_along : List (List Slot) → World → List Event → (h before : ℕ) → ℕ
released_along program w [] h before = before
released_along program w (event ∷ events) h before = released_along program (after_event program w event) events h (released_after program w event h before)

-- how many releases of the life that goes on after the events left hart h with nothing
abbrev pub released_count : List (List Slot) → World → List Event → (h : ℕ) → ℕ
released_count program w events h = released_along program w events h 0
