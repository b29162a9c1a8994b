-- What the machine reads of the banks of a thread's log.
use Rattle.std.specs.Prelude.{◌≡◌, ◌≢◌, ℕ, List, Option}
use Rattle.log_schemes.specs.declared.log.Log.{Log}
use Rattle.log_schemes.specs.SchemeFacts.{AreLoggable, HasEach}
use Rattle.log_schemes.specs.Schemes.{kept_locks, register_slot, told}
use Rattle.ido_base.specs.Words.{Word}
use Rattle.rv64_isa.specs.Rows.{read}
use Rattle.machine_model.specs.Machine.{bank_of, durable_point, recorded, record_of, resumed_registers}
use Rattle.boundary_code.specs.Boundaries.{IsOnSide}
use Rattle.log_states.specs.Logs.{IsKeepable}

-- the bank that the durable point names keeps these locks
abbrev pub HasKept : Log → List Word → (thread : ℕ) → (locks : List ℕ) → Type 0
HasKept log words thread locks = HasEach (recorded log words thread) (kept_locks log locks)

-- and is told this of the write that comes
abbrev pub HasTold : Log → List Word → (thread : ℕ) → (written : Option ℕ) → Type 0
HasTold log words thread written = HasEach (recorded log words thread) (told log written)

pub record BanksAreRead (log : Log) : Type 0 where
  pub locks : (words : List Word) (thread : ℕ) (locks : List ℕ) → AreLoggable log locks → durable_point log words thread ≢ 0 →
      HasKept log words thread locks → record_of log words thread ≡ locks
  pub registers : (words : List Word) (thread register : ℕ) → IsKeepable log register →
      read (resumed_registers log words thread) register ≡ recorded log words thread (register_slot log register)
  pub side : (words : List Word) (thread : ℕ) → IsOnSide log (bank_of (durable_point log words thread)) (resumed_registers log words thread)

abbrev pub AllBanksAreRead : Type 0
AllBanksAreRead = (log : Log) → BanksAreRead log
