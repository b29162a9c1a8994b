-- The facts of a log that recovery rests on, by name. One more is none of a log's but of regions, whatever the log: one that is run again reads nothing
-- that an earlier attempt has overwritten (`rerun_reads_nothing_overwritten` of region_attempts).
use Rattle.std.specs.Prelude.{◌≡◌, ◌≢◌, ◌⊎◌, ℕ, ◌/◌, List, [], ◌∷◌, ◌==◌, if◌then◌else◌}
use Rattle.log_schemes.specs.declared.log.Log.{Log}
use Rattle.ido_base.specs.Layout.{byte_number}
use Rattle.log_schemes.specs.Layout.{point_at}
use Rattle.rv64_isa.specs.Rows.{Effect, Stores}
use Rattle.machine_model.specs.Machine.{durable_point, live_at, bank_of, record_of}
use Rattle.log_states.specs.Logs.{Record, bank_word, IsInBank, HasBank, HasFrame}
use Rattle.log_states.specs.Stages.{LogConfig, LogIs, left_by_crash}
use Rattle.log_states.specs.Laws.{PointIs, CommittedAfterFence, RecordIsResumed, CrashesResume}

-- ---- Bank before point

-- where the store of a point is a boundary's next effect, it is that of the record, whose bank is durable, and so are the words of the frame that it counts on
abbrev pub PointsFindBank : Type 0
PointsFindBank = (log : Log) (thread : ℕ) (old new : Record) (m : LogConfig) (point : ℕ) (later : List Effect) → LogIs log thread old new m →
    m.rest ≡ Stores (point_at log thread) 8 point ∷ later → (point ≡ new.point) × HasBank log thread new m.words × HasFrame log thread new m.words

pub record BankBeforePoint : Type 0 where
  pub bank : PointsFindBank
  -- a boundary whose point is durable has passed a fence, and a fence leaves nothing in its hart's queue
  pub fenced : CommittedAfterFence

-- ---- Bank kept

-- the point is the live or the durable one of a thread
abbrev pub IsNamed : Log → LogConfig → (thread point : ℕ) → Type 0
IsNamed log m thread point = (point ≡ live_at m.words (point_at log thread)) ⊎ (point ≡ durable_point log m.words thread)

-- a boundary stores to no word of a bank that the live or the durable point names
abbrev pub BankKept : Type 0
BankKept = (log : Log) (thread : ℕ) (old new : Record) (m : LogConfig) (address bytes value : ℕ) (later : List Effect) → LogIs log thread old new m →
    m.rest ≡ Stores address bytes value ∷ later → (point : ℕ) → IsNamed log m thread point → point ≢ 0 → (slot : ℕ) → IsInBank log slot →
    byte_number address / 8 ≢ bank_word log thread (bank_of point) slot

-- ---- Registers resumed

-- what recovery reads is the record, between boundaries, and after a crash at any moment of one
pub record RegistersResumed : Type 0 where
  pub between : RecordIsResumed
  pub crashed : CrashesResume

-- ---- Record follows locks

-- at each moment the durable locks are those of the record that a crash would leave
abbrev pub LocksAreLeft : Type 0
LocksAreLeft = (log : Log) (thread : ℕ) (old new : Record) (m : LogConfig) → LogIs log thread old new m →
    let left = left_by_crash log thread old new m in record_of log m.words thread ≡ (if left.point == 0 then [] else left.locks)

-- that is the old record until the store of the new one's point is durable, and the new one from then on
pub record RecordFollowsLocks : Type 0 where
  pub point : PointIs
  pub locks : LocksAreLeft

-- ---- All of them

pub record LogFacts : Type 0 where
  pub bank_before_point : BankBeforePoint
  pub bank_kept : BankKept
  pub registers_resumed : RegistersResumed
  pub record_follows_locks : RecordFollowsLocks
