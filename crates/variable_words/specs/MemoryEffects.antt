-- What a step of a hart does to words and to its own queue, and what events do to memory.
use Rattle.std.specs.Prelude.{◌≡◌, ◌≢◌, ℕ, ◌/◌, ◌<◌, ◌≤◌, List, [], ◌∷◌, ◌++◌, length, slice_get, Some, true}
use Rattle.std.specs.List.{AllByRecursion}
use Rattle.machine_events.specs.declared.event.Event.{Event}
use Rattle.machine_events.specs.declared.event.Event.TheVariants.{Step, Evict, Crash, Start}
use Rattle.ido_base.specs.Words.{Word, Entry, word_at, last_position, entry_of, stored, drained}
use Rattle.ido_base.specs.Growth.{PersistsThrough}
use Rattle.ido_base.specs.Layout.{aligned, byte_number, line_bytes}
use Rattle.log_schemes.specs.Layout.{in_range}
use Rattle.ido_ints.specs.declared.kinds.Kind.{Kind}
use Rattle.rv64_isa.specs.declared.instr.Instr.{Instr}
use Rattle.rv64_isa.specs.declared.object.Slot.{Slot}
use Rattle.rv64_isa.specs.declared.object.Slot.TheVariants.{Row}
use Rattle.machine_model.specs.declared.phase.Phase.TheVariants.{Run}
use Rattle.rv64_isa.specs.Rows.{Effect, Stores, Cleans, row}
use Rattle.rv64_isa.specs.Programs.{fetched}
use Rattle.machine_model.specs.Machine.{Hart, World, queue_limit, after_event, after_events}
use Rattle.machine_model.specs.Frames.{IsWellFormedWorld}
use Rattle.recovery_semantics.specs.ElementHistories.{History, ArePersisted, history_at}
use Rattle.recovery_semantics.specs.VariableSpots.{Spot, memory_in, IsAtSpot}

-- hart h now executes an instruction of this effect
pub record Executes (program : List (List Slot)) (w : World) (h : ℕ) (effect : Effect) : Type 0 where
  pub hart : Hart
  pub there : slice_get w.harts h ≡ Some hart
  pub runs : hart.phase ≡ Run
  pub instr : Instr
  pub fetches : fetched program h hart.pc ≡ Some (Row instr)
  pub effect_is : row instr hart.registers hart.pc ≡ effect

-- hart h now executes this store, and may make it
pub record MayMakeStore (program : List (List Slot)) (w : World) (h address bytes value : ℕ) : Type 0 where
  pub executes : Executes program w h (Stores address bytes value)
  pub inside : in_range w.log (length w.harts) address bytes ≡ true
  pub is_aligned : aligned address bytes ≡ true

-- hart h now executes a clean of the line of this address, and its queue has room for it
pub record IsClean (program : List (List Slot)) (w : World) (h address : ℕ) : Type 0 where
  pub executes : Executes program w h (Cleans address)
  pub inside : in_range w.log (length w.harts) address 1 ≡ true
  pub has_room : length executes.hart.queue < queue_limit

-- words and the hart's queue before a step and after it
pub data IsWork (program : List (List Slot)) (w : World) (h : ℕ) (new : List Word) (before after : List Entry) : Type 0 where
  -- both stay
  Rests : new ≡ w.words → after ≡ before → IsWork program w h new before after
  -- a line is cleaned
  Queues : (line : ℕ) → new ≡ w.words → after ≡ before ++ entry_of w.words line ∷ [] → IsWork program w h new before after
  -- the oldest entry is written back
  WritesBack : (e : Entry) → new ≡ drained w.words e → before ≡ e ∷ after → IsWork program w h new before after
  Makes : (address bytes value : ℕ) → MayMakeStore program w h address bytes value → new ≡ stored w.words (byte_number address) bytes value → after ≡ before →
      IsWork program w h new before after

-- what hart h is after a step of its own
pub record Works (program : List (List Slot)) (w : World) (h : ℕ) (before : Hart) : Type 0 where
  pub after : Hart
  pub there : slice_get (after_event program w (Step h)).harts h ≡ Some after
  pub work : IsWork program w h (after_event program w (Step h)).words before.queue after.queue

-- power stays on, or another life begins
abbrev pub IsPowered : Event → Type 0
IsPowered (Step hart) = Unit {0}
IsPowered (Evict line mask) = Unit {0}
IsPowered Crash = ⊥
IsPowered Start = Unit {0}

-- the event stores to no word that has an element
abbrev pub IsBeside : List (List Slot) → World → List Spot → Event → Type 0
IsBeside program w spots (Step hart) = (address bytes value variable element : ℕ) (kind : Kind) (number : ℕ) → MayMakeStore program w hart address bytes value →
    IsAtSpot spots variable element kind number → number / 8 ≢ byte_number address / 8
IsBeside program w spots (Evict line mask) = Unit {0}
IsBeside program w spots Crash = ⊥
IsBeside program w spots Start = Unit {0}

-- ---- Laws

-- each step of a hart is one of these
abbrev pub StepsWork : Type 0
StepsWork = (program : List (List Slot)) (w : World) (h : ℕ) (hart : Hart) → slice_get w.harts h ≡ Some hart → Works program w h hart

-- a store is what it says
abbrev pub StoresStore : Type 0
StoresStore = (program : List (List Slot)) (w : World) (h address bytes value : ℕ) → MayMakeStore program w h address bytes value →
    (after_event program w (Step h)).words ≡ stored w.words (byte_number address) bytes value

-- what stores to no element does nothing to memory but persist it
abbrev pub EventsRaise : Type 0
EventsRaise = (program : List (List Slot)) (w : World) (spots : List Spot) (event : Event) → IsWellFormedWorld w → IsBeside program w spots event →
    ArePersisted (memory_in spots w.words) (memory_in spots (after_event program w event).words)

-- an element's history has the positions of its word's
pub record HasPositions (h : History) (word : Word) : Type 0 where
  pub long : length h.values ≡ length word.values
  pub durable : h.durable ≡ word.durable

abbrev pub PositionsMeet : Type 0
PositionsMeet = (spots : List Spot) (words : List Word) (variable element : ℕ) (kind : Kind) (number : ℕ) → IsAtSpot spots variable element kind number →
    HasPositions (history_at (memory_in spots words) variable element) (word_at words (number / 8))

-- until power is lost, no position of a word is lost, and what is durable stays so
pub record IsNoEarlier (old new : Word) : Type 0 where
  pub last : last_position old ≤ last_position new
  pub durable : old.durable ≤ new.durable

abbrev pub PositionsGrow : Type 0
PositionsGrow = (program : List (List Slot)) (w : World) (events : List Event) (word : ℕ) → length program ≡ length w.harts → IsWellFormedWorld w →
    AllByRecursion IsPowered events → IsNoEarlier (word_at w.words word) (word_at (after_events program w events).words word)

-- hart h as it is in a world, where once its queue is written back whole, the word is durable as of this position or later
pub record PersistsAsOf (w : World) (h word position : ℕ) : Type 0 where
  pub hart : Hart
  pub there : slice_get w.harts h ≡ Some hart
  pub reaches : PersistsThrough w.words hart.queue word position

-- a clean reaches the last position of each word of its line
abbrev pub CleansReach : Type 0
CleansReach = (program : List (List Slot)) (w : World) (h address word : ℕ) → IsWellFormedWorld w → IsClean program w h address →
    word / 8 ≡ byte_number address / line_bytes → PersistsAsOf (after_event program w (Step h)) h word (last_position (word_at w.words word))

-- how far a hart's queue reaches stays along all events of all harts, until power is lost
abbrev pub ReachLasts : Type 0
ReachLasts = (program : List (List Slot)) (w : World) (events : List Event) (h word position : ℕ) → length program ≡ length w.harts → IsWellFormedWorld w →
    AllByRecursion IsPowered events → PersistsAsOf w h word position → PersistsAsOf (after_events program w events) h word position

-- when a hart's queue is empty, as after each fence, a word that it has reached is durable as of that position or later
abbrev pub EmptyIsDurable : Type 0
EmptyIsDurable = (w : World) (h word position : ℕ) (hart : Hart) → PersistsAsOf w h word position → slice_get w.harts h ≡ Some hart → hart.queue ≡ [] →
    position ≤ (word_at w.words word).durable

-- when a hart's queue is empty, each element in a word that it has reached is durable as of that position or later
abbrev pub FencesSettle : Type 0
FencesSettle = (program : List (List Slot)) (w : World) (events : List Event) (h position : ℕ) (hart : Hart) (spots : List Spot) (variable element : ℕ)
    (kind : Kind) (number : ℕ) → length program ≡ length w.harts → IsWellFormedWorld w → AllByRecursion IsPowered events →
    PersistsAsOf w h (number / 8) position →
    slice_get (after_events program w events).harts h ≡ Some hart → hart.queue ≡ [] → IsAtSpot spots variable element kind number →
    position ≤ (history_at (memory_in spots (after_events program w events).words) variable element).durable
