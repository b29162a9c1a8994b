-- Code that leaves the number of a lock, wherever it stands in a boundary.
use Rattle.std.specs.Prelude.{◌≡◌, ◌≢◌, ℕ, ◌+◌, ◌*◌, ◌^◌, ◌<◌, ◌≤◌, List, [], ◌∷◌, length, false}
use Rattle.log_schemes.specs.declared.log.Log.{Log}
use Rattle.log_schemes.specs.Schemes.{keeping_of}
use Rattle.rv64_isa.specs.declared.instr.Instr.{Instr}
use Rattle.rv64_isa.specs.Rows.{read}
use Rattle.memory_layout.specs.Roles.{bank_offset, is_temporary, lock}
use Rattle.operator_code.specs.ComputingCode.{AreRegisters}
use Rattle.boundary_code.specs.Boundaries.{IsUnderWay, listed_locks}
use Rattle.code_runs.specs.ComputingRuns.{Environment, config, RunsTo, HasCodeAt}

-- from registers y within a boundary, begun with registers x, the code leads from the address to its end, by at most one step a word, where x5 has the number;
-- the registers are within the boundary still
pub record NumberLeft (around : Environment) (code : List Instr) (log : Log) (thread bank : ℕ) (x y : List ℕ) (address number : ℕ) : Type 0 where
  pub registers : List ℕ
  pub run : RunsTo around (config y address) (config registers (address + 4 * length code))
  pub short : run.steps ≤ length code
  pub number_is : read registers 5 ≡ number
  pub under_way : IsUnderWay log thread bank x registers

-- it does, in whatever boundary of the thread that is begun with x, wherever it stands in what is around it
pub record LeavesNumber (around : Environment) (log : Log) (thread : ℕ) (x : List ℕ) (number : ℕ) (code : List Instr) : Type 0 where
  pub leaves : (bank : ℕ) (y : List ℕ) (address : ℕ) → bank < 2 → IsUnderWay log thread bank x y →
      HasCodeAt around address code → address + 4 * length code < 2 ^ 64 → NumberLeft around code log thread bank x y address number

-- each of the lists of instructions leaves the number at its place
abbrev pub LeaveNumbers : (around : Environment) → Log → (thread : ℕ) → (x : List ℕ) → (numbers : List ℕ) → (codes : List (List Instr)) → Type 0
LeaveNumbers around log thread x [] [] = Unit {0}
LeaveNumbers around log thread x [] (code ∷ codes) = ⊥
LeaveNumbers around log thread x (number ∷ numbers) [] = ⊥
LeaveNumbers around log thread x (number ∷ numbers) (code ∷ codes) =
    LeavesNumber around log thread x number code × LeaveNumbers around log thread x numbers codes

-- ---- For a call

-- from registers y the code leads from the address to its end, by at most one step a word, where x10 has the number; but for x10 and temporaries they are as
-- they were
pub record NumberAsked (around : Environment) (code : List Instr) (y : List ℕ) (address number : ℕ) : Type 0 where
  pub registers : List ℕ
  pub run : RunsTo around (config y address) (config registers (address + 4 * length code))
  pub short : run.steps ≤ length code
  pub are : AreRegisters registers
  pub number_is : read registers lock ≡ number
  pub others : (r : ℕ) → is_temporary r ≡ false → r ≢ lock → read registers r ≡ read y r

-- registers y are x, but for x3 and temporaries
abbrev pub IsSame : (x y : List ℕ) → Type 0
IsSame x y = (r : ℕ) → is_temporary r ≡ false → r ≢ bank_offset → read y r ≡ read x r

-- it does, from whatever registers that are x but for these, wherever it stands in what is around it
pub record AsksNumber (around : Environment) (x : List ℕ) (number : ℕ) (code : List Instr) : Type 0 where
  pub asks : (y : List ℕ) (address : ℕ) → AreRegisters y → IsSame x y → HasCodeAt around address code →
      address + 4 * length code < 2 ^ 64 → NumberAsked around code y address number

-- ---- In a boundary

-- registers from which codes leave the numbers of those locks that the log lists
abbrev pub LeaveLocks : Log → (thread : ℕ) → (locks : List ℕ) → (codes : List (List Instr)) → (around : Environment) → (x : List ℕ) → Type 0
LeaveLocks log thread locks codes around x = LeaveNumbers around log thread x (listed_locks (keeping_of log) locks) codes
