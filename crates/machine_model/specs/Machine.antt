-- A machine of several harts over one memory: what each event does, and what it is replied.
use Rattle.std.specs.Prelude.{ℕ, zero, suc, ◌+◌, ◌-◌, ◌*◌, ◌/◌, ◌%◌, ◌<◌, ◌≤◌, List, [], ◌∷◌, ◌++◌, map, length, slice_get}
use Rattle.std.specs.Prelude.{slice_set, Option, Some, None, Bool, true, false, not, nat_lt, ◌==◌, ◌&&◌, if◌then◌else◌, replicate}
use Rattle.machine_events.specs.declared.event.Event.{Event}
use Rattle.log_schemes.specs.declared.log.Log.{Log}
use Rattle.log_schemes.specs.Schemes.{keeps_register, locks_read, numbers_from, register_slot}
use Rattle.machine_events.specs.declared.event.Event.TheVariants.{Step, Evict, Crash, Start}
use Rattle.machine_events.specs.declared.event.Reply.{Reply}
use Rattle.machine_events.specs.declared.event.Reply.TheVariants.{Moved, Drained, Waits, Barrier, Still, Stuck, Device}
use Rattle.machine_events.specs.declared.event.Cause.{Cause}
use Rattle.machine_events.specs.declared.event.Cause.TheVariants.{Illegal, Outside, Unaligned, NoCode, NoCall, NoLock, NotHeld, EndHolding}
use Rattle.ido_base.specs.Words.{Word, Entry, word_of, word_at, live_value, durable_value, loaded, stored, entry_of, drained, evicted}
use Rattle.machine_events.specs.Cores.{IsValid, IsValidNow}
use Rattle.ido_base.specs.Locks.{is_held_by, least_held, holds_none, least_missing}
use Rattle.ido_base.specs.Layout.{aligned, byte_number, word_number}
use Rattle.log_schemes.specs.Layout.{in_range, point_at, slot_at}
use Rattle.ido_base.specs.Layout.{line_bytes, spread_words}
use Rattle.log_schemes.specs.Layout.{bank_bytes, line_count, initial_words}
use Rattle.machine_model.specs.declared.object.Object.{Object}
use Rattle.rv64_isa.specs.declared.object.Slot.{Slot}
use Rattle.rv64_isa.specs.declared.object.Slot.TheVariants.{Row, NoRow}
use Rattle.machine_model.specs.declared.phase.Phase.{Phase}
use Rattle.machine_model.specs.declared.phase.Phase.TheVariants.{Take, Wait, Resume, Run, Done, Ended}
use Rattle.rv64_isa.specs.Rows.{Effect, Continues, Loads, Stores, Cleans, Fences, Calls, row, read, written, next, load_result}
use Rattle.rv64_isa.specs.Programs.{code_start, fetched}
use Rattle.machine_model.specs.Objects.{program_of}

pub record Hart : Type 0 where
  pub registers : List ℕ
  pub pc : ℕ
  pub phase : Phase
  -- what it has cleaned and not yet written back, the oldest entry first
  pub queue : List Entry

pub record World : Type 0 where
  pub words : List Word
  pub harts : List Hart
  -- of each lock the hart that holds it, or none
  pub holders : List (Option ℕ)
  -- whether there was a crash in this life
  pub recovering : Bool
  -- how its threads log
  pub log : Log

-- the world after an event, and the reply
abbrev pub Outcome : Type 0
Outcome = World × Reply

-- ---- A step of a hart that executes instructions

abbrev pub with_hart : World → ℕ → Hart → World
with_hart w h hart = record w { harts = slice_set w.harts h hart }

abbrev pub moved : World → ℕ → Hart → Outcome
moved w h hart = (with_hart w h hart, Moved)

-- the pc goes on to the next instruction
abbrev pub gone_on : Hart → Hart
gone_on hart = record hart { pc = next hart.pc }

abbrev pub stuck : World → Cause → Outcome
stuck w cause = (w, Stuck cause)

-- the oldest entry of the queue is written back, and the pc stays
abbrev pub drain_one : World → ℕ → Hart → List Entry → Outcome
drain_one w h hart [] = (w, Drained)
drain_one w h hart (e ∷ es) = (with_hart (record w { words = drained w.words e }) h (record hart { queue = es }), Drained)

-- an access of so many bytes, where it may be made
abbrev pub access : World → (address bytes : ℕ) → Outcome → Outcome
access w address bytes outcome =
    if in_range w.log (length w.harts) address bytes then (if aligned address bytes then outcome else stuck w (Unaligned address))
    else stuck w (Outside address)

-- entries that a queue holds at most
abbrev pub queue_limit : ℕ
queue_limit = 16

abbrev pub cleaned : World → ℕ → Hart → (line : ℕ) → Outcome
cleaned w h hart line =
    if nat_lt (length hart.queue) queue_limit then moved w h (record (gone_on hart) { queue = hart.queue ++ entry_of w.words line ∷ [] })
    else drain_one w h hart hart.queue

abbrev pub fenced : World → ℕ → Hart → List Entry → Outcome
fenced w h hart [] = moved w h (gone_on hart)
fenced w h hart (e ∷ es) = drain_one w h hart (e ∷ es)

abbrev pub with_holder : World → (lock : ℕ) → Option ℕ → World
with_holder w lock holder = record w { holders = slice_set w.holders lock holder }

-- an acquire: by the lock's holder, if it exists
abbrev pub acquired : World → ℕ → Hart → (lock : ℕ) → Option (Option ℕ) → Outcome
acquired w h hart lock None = stuck w (NoLock lock)
acquired w h hart lock (Some None) = moved (with_holder w lock (Some h)) h (gone_on hart)
acquired w h hart lock (Some (Some holder)) = (w, Waits lock holder)

abbrev pub released : World → ℕ → Hart → (lock : ℕ) → Option (Option ℕ) → Outcome
released w h hart lock None = stuck w (NoLock lock)
released w h hart lock (Some holder) = if is_held_by h holder then moved (with_holder w lock None) h (gone_on hart) else stuck w (NotHeld lock)

-- an end: by the least lock that the hart holds
abbrev pub ended : World → ℕ → Hart → Option ℕ → Outcome
ended w h hart None = moved w h (record (gone_on hart) { phase = Ended })
ended w h hart (Some lock) = stuck w (EndHolding lock)

-- ECALL: x17 says what is asked, x10 of which lock
abbrev pub called : World → ℕ → Hart → (number lock : ℕ) → Outcome
called w h hart number lock =
    if number == 1 then acquired w h hart lock (slice_get w.holders lock)
    else if number == 2 then released w h hart lock (slice_get w.holders lock)
    else if number == 3 then ended w h hart (least_held w.holders h)
    else stuck w (NoCall number)

abbrev pub applied : World → ℕ → Hart → Effect → Outcome
applied w h hart (Continues registers pc) = moved w h (record hart { registers = registers; pc = pc })
applied w h hart (Loads address bytes signed register) =
    access w address bytes
    (moved w h (record (gone_on hart) { registers = written hart.registers register (load_result bytes signed (loaded w.words (byte_number address) bytes)) }))
applied w h hart (Stores address bytes value) =
    access w address bytes (moved (record w { words = stored w.words (byte_number address) bytes value }) h (gone_on hart))
applied w h hart (Cleans address) = access w address 1 (cleaned w h hart (byte_number address / line_bytes))
applied w h hart Fences = fenced w h hart hart.queue
applied w h hart Calls = called w h hart (read hart.registers 17) (read hart.registers 10)

abbrev pub executed : World → ℕ → Hart → Option Slot → Outcome
executed w h hart None = stuck w (NoCode hart.pc)
executed w h hart (Some (NoRow word)) = stuck w (Illegal word)
executed w h hart (Some (Row instr)) = applied w h hart (row instr hart.registers hart.pc)

-- a step of hart h, which executes instructions
abbrev pub hart_step : List (List Slot) → World → ℕ → Hart → Outcome
hart_step program w h hart = executed w h hart (fetched program h hart.pc)

-- ---- Recovery

-- the durable word at an address
abbrev pub durable_at : List Word → (address : ℕ) → ℕ
durable_at words address = durable_value (word_at words (word_number address))

abbrev pub live_at : List Word → (address : ℕ) → ℕ
live_at words address = live_value (word_at words (word_number address))

-- the durable point of a thread
abbrev pub durable_point : Log → List Word → (thread : ℕ) → ℕ
durable_point log words thread = durable_at words (point_at log thread)

-- a point is a resume address plus the number of a bank
abbrev pub bank_of : (point : ℕ) → ℕ
bank_of point = point % 2

abbrev pub resume_of : (point : ℕ) → ℕ
resume_of point = point - point % 2

-- what the point's bank holds in a slot
abbrev pub recorded : Log → List Word → (thread slot : ℕ) → ℕ
recorded log words thread slot = durable_at words (slot_at log thread (bank_of (durable_point log words thread)) slot)

-- the record of a thread: the locks that it held at its durable point, in the order in which its bank has them
abbrev pub record_of : Log → List Word → (thread : ℕ) → List ℕ
record_of log words thread = if durable_point log words thread == 0 then [] else locks_read log (recorded log words thread)

-- takes the lock, or waits for it
abbrev pub taken : World → ℕ → Hart → Option ℕ → Outcome
taken w h hart None = moved w h (record hart { phase = Wait })
taken w h hart (Some lock) = elim (slice_get w.holders lock) [
  | Some (Some holder) ↦ (w, Waits lock holder)
  | _ ↦ moved (with_holder w lock (Some h)) h hart
]

abbrev pub is_taking : Phase → Bool
is_taking Take = true
is_taking Wait = false
is_taking Resume = false
is_taking Run = false
is_taking Done = false
is_taking Ended = false

-- the least hart that takes locks, from the number on
abbrev pub taking_from : (at : ℕ) → List Hart → Option ℕ
taking_from at [] = None
taking_from at (hart ∷ harts) = if is_taking hart.phase then Some at else taking_from (at + 1) harts

abbrev pub waited : World → ℕ → Hart → Option ℕ → Outcome
waited w h hart None = moved w h (record hart { phase = Resume })
waited w h hart (Some taking) = (w, Barrier taking)

-- register r as it is resumed: x3 has the bank's offset, those that banks keep what the bank has of them, and all others are 0
abbrev pub resumed_register : Log → List Word → (thread r : ℕ) → ℕ
resumed_register log words thread r =
    if r == 3 then bank_bytes log * bank_of (durable_point log words thread)
    else if keeps_register log r then recorded log words thread (register_slot log r)
    else 0

-- all registers as they are resumed
unfoldable pub resumed_registers : Log → List Word → (thread : ℕ) → List ℕ
resumed_registers log words thread = map (resumed_register log words thread) (numbers_from 0 32)

abbrev pub resumed : World → ℕ → Hart → Outcome
resumed w h hart = moved w h (record hart {
  registers = resumed_registers w.log w.words h;
  pc = resume_of (durable_point w.log w.words h);
  phase = Run;
})

-- in recovery, hart h held a lock before a step and holds none after it
abbrev pub over_after : World → World → ℕ → Bool
over_after before after h = before.recovering && (not (holds_none before.holders h) && holds_none after.holders h)

-- a release in recovery that leaves the hart with nothing makes it done
abbrev pub done_if_over : World → ℕ → Option Hart → World → World
done_if_over before h None after = after
done_if_over before h (Some hart) after = if over_after before after h then with_hart after h (record hart { phase = Done }) else after

-- a step of hart h in the phase Run: in recovery it may be the one that makes it done
abbrev pub run_step : List (List Slot) → World → ℕ → Hart → Outcome
run_step program w h hart =
    let outcome = hart_step program w h hart in
    (done_if_over w h (slice_get outcome.0.harts h) outcome.0, outcome.1)

-- a step of hart h, by its phase
abbrev pub phase_step : List (List Slot) → World → ℕ → Hart → Phase → Outcome
phase_step program w h hart Take = taken w h hart (least_missing w.holders (record_of w.log w.words h) h)
phase_step program w h hart Wait = waited w h hart (taking_from 0 w.harts)
phase_step program w h hart Resume = resumed w h hart
phase_step program w h hart Run = run_step program w h hart
phase_step program w h hart Done = (w, Still)
phase_step program w h hart Ended = (w, Still)

abbrev pub stepped : List (List Slot) → World → ℕ → Option Hart → Outcome
stepped program w h None = (w, Still)
stepped program w h (Some hart) = phase_step program w h hart hart.phase

-- ---- Crashes and starts

-- a hart with all registers 0, at the first word of its code
abbrev pub fresh_hart : List (List Slot) → Phase → (thread : ℕ) → Hart
fresh_hart program phase thread = record { registers = replicate 32 0; pc = code_start program thread; phase = phase; queue = [] }

abbrev pub phase_after_crash : (point : ℕ) → Phase
phase_after_crash point = if point == 0 then Done else Take

-- the world after a crash that left these words
unfoldable pub after_crash_of : Log → List (List Slot) → (locks : ℕ) → (words : List ℕ) → World
after_crash_of log program locks words =
    let kept = map word_of words in
    record {
      words = kept;
      harts = map (λ thread. fresh_hart program (phase_after_crash (durable_point log kept thread)) thread) (numbers_from 0 (length program));
      holders = replicate locks None;
      recovering = true;
      log = log;
    }

-- the world at the start
unfoldable pub start_of : Log → List (List Slot) → (locks : ℕ) → (initial : List ℕ) → World
start_of log program locks initial = record {
  words = map word_of (initial_words log (length program) initial);
  harts = map (fresh_hart program Run) (numbers_from 0 (length program));
  holders = replicate locks None;
  recovering = false;
  log = log;
}

-- ---- Settled worlds, and lives that begin on them

-- the hart holds nothing, and its live and durable points are 0
abbrev pub is_settled_hart : World → (h : ℕ) → Bool
is_settled_hart w h = holds_none w.holders h && ((durable_point w.log w.words h == 0) && (live_at w.words (point_at w.log h) == 0))

-- the first `count` harts hold nothing, and their live and durable points are 0
abbrev pub are_settled : World → (count : ℕ) → Bool
are_settled w zero = true
are_settled w (suc h) = are_settled w h && is_settled_hart w h

-- each hart stands between sections
abbrev pub is_settled : World → Bool
is_settled w = are_settled w (length w.harts)

abbrev pub has_stopped : Phase → Bool
has_stopped Done = true
has_stopped Ended = true
has_stopped Take = false
has_stopped Wait = false
has_stopped Resume = false
has_stopped Run = false

-- each hart has ended, or its recovery is done
abbrev pub have_stopped : List Hart → Bool
have_stopped [] = true
have_stopped (hart ∷ harts) = has_stopped hart.phase && have_stopped harts

-- another life may begin: each hart stands between sections, and has stopped
abbrev pub can_start : World → Bool
can_start w = is_settled w && have_stopped w.harts

-- a hart at the first word of its code again, with what it has queued
abbrev pub anew : List (List Slot) → (thread : ℕ) → Hart → Hart
anew program thread hart = record (fresh_hart program Run thread) { queue = hart.queue }

-- harts from the number on
abbrev pub all_anew : List (List Slot) → (at : ℕ) → List Hart → List Hart
all_anew program at [] = []
all_anew program at (hart ∷ harts) = anew program at hart ∷ all_anew program (at + 1) harts

-- the world in which another life begins: memory is left alone, and so are queues
abbrev pub started_anew : List (List Slot) → World → World
started_anew program w = record w { harts = all_anew program 0 w.harts; recovering = false }

-- ---- Events

-- what an event does, and the reply
unfoldable pub happens : List (List Slot) → World → Event → Outcome
happens program w (Step h) = stepped program w h (slice_get w.harts h)
happens program w (Evict line mask) = (record w { words = evicted w.words line mask }, Device)
happens program w Crash = (after_crash_of w.log program (length w.holders) (map durable_value w.words), Device)
happens program w Start = if can_start w then (started_anew program w, Device) else (w, Still)

abbrev pub after_event : List (List Slot) → World → Event → World
after_event program w event = (happens program w event).0

abbrev pub reply_to : List (List Slot) → World → Event → Reply
reply_to program w event = (happens program w event).1

-- the world after events, from a world on
abbrev pub after_events : List (List Slot) → World → List Event → World
after_events program w [] = w
after_events program w (event ∷ events) = after_events program (after_event program w event) events

-- the line exists, and its mask has eight bits
abbrev pub IsEviction : Log → (threads line mask : ℕ) → Type 0
IsEviction log threads line mask = (line < line_count log threads) × (mask ≤ 255)

-- the event may happen at any time to a machine of so many threads
abbrev pub IsValidEvent : Log → (threads : ℕ) → Event → Type 0
IsValidEvent log threads event = IsValid threads (IsEviction log threads) event

-- the event may happen at the world
abbrev pub IsValidAt : World → Event → Type 0
IsValidAt w event = IsValidNow (length w.harts) (IsEviction w.log (length w.harts)) (can_start w) event

-- the machine of an object at its start
abbrev pub machine_start : Object → World
machine_start object = start_of object.log (program_of object) object.mutexes object.initial.items

-- the machine of an object after events, begun after a crash that left these words of its variables and logs
abbrev pub machine_from : Object → (words : List ℕ) → List Event → World
machine_from object words events =
    after_events (program_of object)
    (after_crash_of object.log (program_of object) object.mutexes (spread_words (length object.initial.items / 8) words)) events
