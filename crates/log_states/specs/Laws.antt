-- What holds of a log at each moment of a boundary, between boundaries, and after a crash.
use Rattle.std.specs.Prelude.{◌≡◌, ◌≢◌, ◌⊎◌, ℕ, ◌+◌, ◌*◌, ◌/◌, ◌%◌, ◌^◌, ◌<◌, List, [], length, replicate, ◌∷◌, true, false, not, nat_le, ◌==◌}
use Rattle.std.specs.Prelude.{if◌then◌else◌}
use Rattle.std.specs.List.{Contains, list_any}
use Rattle.log_schemes.specs.declared.log.Log.{Log}
use Rattle.ido_base.specs.Words.{Word, Entry, last_position, live_value, stored, crashed}
use Rattle.ido_base.specs.Growth.{Stable, AreEntries, PersistsThrough}
use Rattle.ido_base.specs.Layout.{variables_base, variable_lines, line_bytes, byte_number}
use Rattle.log_schemes.specs.Layout.{log_words, point_at}
use Rattle.rv64_isa.specs.declared.object.Slot.{Slot}
use Rattle.rv64_isa.specs.Rows.{Effect, Stores, read}
use Rattle.machine_model.specs.Machine.{durable_point, live_at, resume_of, record_of, resumed_registers, start_of}
use Rattle.machine_model.specs.Schedule.{is_point_store}
use Rattle.log_schemes.specs.Schemes.{may_keep}
use Rattle.boundary_code.specs.Boundaries.{Boundary, boundary_effects, is_empty, IsOnSide, other_side, side_after}
use Rattle.log_states.specs.Logs.{Record, nothing_recorded, side_of, IsSideOf, IsKeepable, IsRecord, log_word}
use Rattle.log_schemes.specs.SchemeFacts.{AreLoggable, slot_index}
use Rattle.log_states.specs.Logs.{bank_word, point_in, HasLog, IsUnstored, IsDurable, IsRecorded}
use Rattle.log_states.specs.Logs.{AreNamed, HasFrame, IsFrameWord, IsTellable, IsUnnamed, KeepsForWrite, frame_in, frame_word}
use Rattle.log_states.specs.BanksRead.{HasKept, HasTold}
use Rattle.log_states.specs.Stages.{LogConfig, Moves, LogIs, fences_ahead, is_store, is_committed, left_by_crash}

-- ---- Boundaries

-- what a boundary records, where the log was on this side before it, and the words of the frame that it counts on have these values
abbrev pub recorded_by : Boundary → (framed : List ℕ) → (frame : ℕ → ℕ) → (side resume : ℕ) → (registers : List ℕ) → Record
recorded_by b framed frame side resume x = record {
  point = if is_empty b.locks then 0 else (resume + other_side side) % 2 ^ 64;
  locks = b.locks;
  live = b.live;
  registers = x;
  written = b.written;
  framed = framed;
  frame = frame;
}

-- a boundary that can be recovered from: it resumes at an instruction, and its log can keep its locks and its registers, of 64 bits
pub record IsRecoverable (b : Boundary) (resume : ℕ) (x : List ℕ) : Type 0 where
  pub locks : AreLoggable b.log b.locks
  pub live : (register : ℕ) → Contains b.live register → IsKeepable b.log register
  pub registers : (register : ℕ) → Contains b.live register → read x register < 2 ^ 64
  pub told : IsTellable b.log b.written
  pub for_write : KeepsForWrite b.log b.written b.live
  pub aligned : resume % 4 ≡ 0
  pub somewhere : 0 < resume
  pub below : resume < 2 ^ 64

-- a log can keep every register that a boundary may keep
abbrev pub KeptAreKeepable : Type 0
KeptAreKeepable = (log : Log) (register : ℕ) → may_keep log register ≡ true → IsKeepable log register

-- by these registers the log is on this side, which is the record's
pub record IsAtRecord (log : Log) (r : Record) (side : ℕ) (x : List ℕ) : Type 0 where
  pub registers : IsOnSide log side x
  pub is : IsSideOf r side

-- a value of this word of the frame will be durable when the boundary's bank is: it is, or is queued, or the boundary opens a section
pub data WillBeDurable (b : Boundary) (words : List Word) (queue : List Entry) (word value : ℕ) : Type 0 where
  IsThere : IsDurable (frame_in b.log words b.thread word) value → WillBeDurable b words queue word value
  IsQueued : live_value (frame_in b.log words b.thread word) ≡ value →
      PersistsThrough words queue (frame_word b.log b.thread word) (last_position (frame_in b.log words b.thread word)) →
      WillBeDurable b words queue word value
  IsCleaned : live_value (frame_in b.log words b.thread word) ≡ value → b.opens ≡ true → WillBeDurable b words queue word value

-- a word of the frame on which the boundary's record is to count
pub record FrameComes (b : Boundary) (words : List Word) (queue : List Entry) (word value : ℕ) : Type 0 where
  pub in_frame : IsFrameWord b.log word
  pub comes : WillBeDurable b words queue word value

-- where the boundary ends no section
abbrev pub FrameIsComing : (b : Boundary) (framed : List ℕ) (frame : ℕ → ℕ) (words : List Word) (queue : List Entry) → Type 0
FrameIsComing b framed frame words queue = b.locks ≢ [] → (word : ℕ) → Contains framed word → FrameComes b words queue word (frame word)

-- a log begins a boundary from its record
abbrev pub BoundaryBegins : Type 0
BoundaryBegins = (b : Boundary) (framed : List ℕ) (frame : ℕ → ℕ) (old : Record) (side resume : ℕ) (x : List ℕ) (words : List Word) (queue : List Entry) →
    HasLog b.log b.thread words → AreEntries words queue → IsRecord b.log old → IsRecorded b.log b.thread old words → IsAtRecord b.log old side x →
    IsRecoverable b resume x → FrameIsComing b framed frame words queue →
    LogIs b.log b.thread old (recorded_by b framed frame side resume x) (record { words = words; queue = queue; rest = boundary_effects b side resume x })

-- a log that has a record is one on its way that has arrived
abbrev pub Rests : Type 0
Rests =
    (log : Log) (thread : ℕ) (r : Record) (m : LogConfig) → m.rest ≡ [] → HasLog log thread m.words → AreEntries m.words m.queue → IsRecord log r →
    IsRecorded log thread r m.words →
    LogIs log thread nothing_recorded r m

-- the side goes with the record: the one after a boundary is that of what it has recorded
abbrev pub SideFollows : Type 0
SideFollows = (b : Boundary) (framed : List ℕ) (frame : ℕ → ℕ) (side resume : ℕ) (x : List ℕ) → IsRecoverable b resume x →
    IsSideOf (recorded_by b framed frame side resume x) (side_after b side)

-- ---- Every event

-- whatever happens in a boundary, its log stays on its way from the one record to the other: nobody stores to words of the frame that either counts on
abbrev pub Keeps : Type 0
Keeps = (log : Log) (thread : ℕ) (named : List ℕ) (old new : Record) (m n : LogConfig) → AreNamed named old → AreNamed named new →
    LogIs log thread old new m → Moves log thread named m n →
    LogIs log thread old new n

-- between boundaries the log keeps its record
abbrev pub StaysRecorded : Type 0
StaysRecorded =
    (log : Log) (thread : ℕ) (named : List ℕ) (r : Record) (m n : LogConfig) → AreNamed named r → IsRecord log r → m.rest ≡ [] → HasLog log thread m.words →
    AreEntries m.words m.queue → IsRecorded log thread r m.words → Moves log thread named m n →
    HasLog log thread n.words × AreEntries n.words n.queue × IsRecorded log thread r n.words

-- what is recorded is stable: its bytes are these whatever a crash leaves
abbrev pub DurableIsStable : Type 0
DurableIsStable = (w : Word) (value : ℕ) → value < 2 ^ 64 → IsDurable w value → Stable w 0 8 value

-- a boundary ends with its record
abbrev pub BoundaryEnds : Type 0
BoundaryEnds = (log : Log) (thread : ℕ) (old new : Record) (m : LogConfig) → LogIs log thread old new m → m.rest ≡ [] → IsRecorded log thread new m.words

-- a store of so many bytes from the byte of this number on is made to no word of the thread's log, or to a whole word of its frame that isn't named
abbrev pub StoresBeside : (log : Log) (thread : ℕ) (named : List ℕ) (number count : ℕ) → Type 0
StoresBeside log thread named number count =
    (i : ℕ) → i < log_words log → number / 8 ≡ log_word log thread i → IsUnnamed log named i × (number % 8 ≡ 0) × (count ≡ 8)

-- such a store leaves a log as it is, as one to another thread's log does
abbrev pub StoresElsewhere : Type 0
StoresElsewhere = (log : Log) (thread : ℕ) (named : List ℕ) (number count value : ℕ) (words : List Word) → StoresBeside log thread named number count →
    IsUnstored log thread named words (stored words number count value)

abbrev pub LogsAreApart : Type 0
LogsAreApart = (log : Log) (thread other i j : ℕ) → other ≢ thread → i < log_words log → j < log_words log → log_word log other j ≢ log_word log thread i

-- the slots of its banks are words of a log
abbrev pub SlotsAreIn : Type 0
SlotsAreIn = (log : Log) (thread bank slot : ℕ) → bank_word log thread bank slot ≡ log_word log thread (slot_index log bank slot)

-- no byte of a variable is in a word of a log
abbrev pub VariablesAreApart : Type 0
VariablesAreApart =
    (log : Log) (thread address i : ℕ) → address < variables_base + line_bytes * variable_lines → byte_number address / 8 ≢ log_word log thread i

-- ---- Commitment

-- the durable point is the old one until the new one's store is durable
abbrev pub PointIs : Type 0
PointIs = (log : Log) (thread : ℕ) (old new : Record) (m : LogConfig) → LogIs log thread old new m →
    durable_point log m.words thread ≡ (left_by_crash log thread old new m).point

-- the live point is the new one, or the old one's where that isn't committed
abbrev pub LivePointIs : Type 0
LivePointIs = (log : Log) (thread : ℕ) (old new : Record) (m : LogConfig) → LogIs log thread old new m →
    (live_at m.words (point_at log thread) ≡ new.point) ⊎ ((live_at m.words (point_at log thread) ≡ old.point) × (is_committed log thread m ≡ false))

-- a boundary isn't committed at its beginning
abbrev pub BeginsUncommitted : Type 0
BeginsUncommitted = (b : Boundary) (side resume : ℕ) (x : List ℕ) (words : List Word) (queue : List Entry) →
    is_committed b.log b.thread (record { words = words; queue = queue; rest = boundary_effects b side resume x }) ≡ false

-- a boundary that is committed stays so
abbrev pub StaysCommitted : Type 0
StaysCommitted =
    (log : Log) (thread : ℕ) (named : List ℕ) (old new : Record) (m n : LogConfig) → LogIs log thread old new m → Moves log thread named m n →
    is_committed log thread m ≡ true →
    is_committed log thread n ≡ true

-- at the latest at its end a boundary is committed
abbrev pub EndsCommitted : Type 0
EndsCommitted = (log : Log) (thread : ℕ) (old new : Record) (m : LogConfig) → LogIs log thread old new m → m.rest ≡ [] → is_committed log thread m ≡ true

-- the last store of a boundary, and no other, is that of its point
abbrev pub PointStoreIsLast : Type 0
PointStoreIsLast = (log : Log) (thread : ℕ) (old new : Record) (m : LogConfig) (address bytes value : ℕ) (later : List Effect) → LogIs log thread old new m →
    m.rest ≡ Stores address bytes value ∷ later → is_point_store log thread (Stores address bytes value) ≡ not (list_any is_store later)

-- from the store of its point on, the last position of the point stays the same
abbrev pub PositionStays : Type 0
PositionStays =
    (log : Log) (thread : ℕ) (named : List ℕ) (old new : Record) (m n : LogConfig) → LogIs log thread old new m → Moves log thread named m n →
    list_any is_store m.rest ≡ false →
    last_position (point_in log n.words thread) ≡ last_position (point_in log m.words thread)

-- once its point is stored, a boundary is committed exactly where the durable position is no less than the last
abbrev pub CommittedWhere : Type 0
CommittedWhere = (log : Log) (thread : ℕ) (old new : Record) (m : LogConfig) → LogIs log thread old new m → list_any is_store m.rest ≡ false →
    is_committed log thread m ≡ nat_le (last_position (point_in log m.words thread)) (point_in log m.words thread).durable

-- a boundary has two
abbrev pub BoundariesFence : Type 0
BoundariesFence = (b : Boundary) (side resume : ℕ) (x : List ℕ) → fences_ahead (boundary_effects b side resume x) ≡ 2

-- a boundary that is committed has passed its first fence: what was queued before that is durable
abbrev pub CommittedAfterFence : Type 0
CommittedAfterFence =
    (log : Log) (thread : ℕ) (old new : Record) (m : LogConfig) → LogIs log thread old new m → is_committed log thread m ≡ true → fences_ahead m.rest < 2

-- ---- Crashes and starts

-- a crash leaves the new record where it is committed, and the old one where it isn't
abbrev pub CrashesLeave : Type 0
CrashesLeave = (log : Log) (thread : ℕ) (old new : Record) (m : LogConfig) → LogIs log thread old new m →
    IsRecorded log thread (left_by_crash log thread old new m) (crashed m.words) × HasLog log thread (crashed m.words)

-- between boundaries a crash leaves the record
abbrev pub CrashesKeep : Type 0
CrashesKeep = (log : Log) (thread : ℕ) (r : Record) (words : List Word) → HasLog log thread words → IsRecorded log thread r words →
    IsRecorded log thread r (crashed words) × HasLog log thread (crashed words)

-- what recovery makes of a record
pub record ResumesRecord (log : Log) (thread : ℕ) (r : Record) (words : List Word) : Type 0 where
  pub point : durable_point log words thread ≡ r.point
  pub live_point : live_at words (point_at log thread) ≡ r.point
  pub locks : record_of log words thread ≡ (if r.point == 0 then [] else r.locks)
  -- the bank that the point names keeps them, and is told of the write that comes
  pub kept : r.point ≢ 0 → HasKept log words thread r.locks
  pub told : r.point ≢ 0 → HasTold log words thread r.written
  pub registers : r.point ≢ 0 → (register : ℕ) → Contains r.live register → read (resumed_registers log words thread) register ≡ read r.registers register
  pub side : IsAtRecord log r (side_of r) (resumed_registers log words thread)
  -- what the record counts on in the frame is there
  pub frame : HasFrame log thread r words

abbrev pub RecordIsResumed : Type 0
RecordIsResumed = (log : Log) (thread : ℕ) (r : Record) (words : List Word) → IsRecord log r → IsRecorded log thread r words → ResumesRecord log thread r words

-- a crash in a boundary is recovered from as the old record says, or as the new one
abbrev pub CrashesResume : Type 0
CrashesResume =
    (log : Log) (thread : ℕ) (old new : Record) (m : LogConfig) → LogIs log thread old new m →
    ResumesRecord log thread (left_by_crash log thread old new m) (crashed m.words)

-- the point of a boundary says its side and where it resumes
abbrev pub PointSays : Type 0
PointSays = (b : Boundary) (framed : List ℕ) (frame : ℕ → ℕ) (side resume : ℕ) (x : List ℕ) → IsRecoverable b resume x → b.locks ≢ [] →
    let new = recorded_by b framed frame side resume x in (new.point ≢ 0) × (side_of new ≡ other_side side) × (resume_of new.point ≡ resume)

-- at the start nothing is recorded, and registers of 0 are on the first side
abbrev pub StartsEmpty : Type 0
StartsEmpty = (log : Log) (program : List (List Slot)) (locks thread : ℕ) (initial : List ℕ) → thread < length program →
    let words = (start_of log program locks initial).words in
    IsRecord log nothing_recorded × HasLog log thread words × IsRecorded log thread nothing_recorded words × IsAtRecord log nothing_recorded 0 (replicate 32 0)
