-- Code that only goes on, further on.
use Rattle.std.specs.Prelude.{◌≡◌, ℕ, ◌+◌, ◌*◌, ◌^◌, ◌<◌, ◌≤◌, List, length, if◌then◌else◌}
use Rattle.rv64_isa.specs.declared.instr.Instr.{Instr}
use Rattle.rv64_isa.specs.Rows.{Continues, row}
use Rattle.operator_code.specs.declared.branches.Test.{Test}
use Rattle.operator_code.specs.ComputingCode.{passes}
use Rattle.code_runs.specs.ComputingRuns.{Environment, LocalConfig, config, RunsTo, HasCodeAt}

-- skips so many words after it
pub record Skips (words : ℕ) (instr : Instr) : Type 0 where
  pub goes : (x : List ℕ) (pc : ℕ) → pc + 4 * (words + 1) < 2 ^ 64 → row instr x pc ≡ Continues x (pc + 4 * (words + 1))

-- skips them where the test is passed
pub record SkipsWhere (words : ℕ) (test : Test) (instr : Instr) : Type 0 where
  pub goes : (x : List ℕ) (pc : ℕ) → pc + 4 * (words + 1) < 2 ^ 64 →
      row instr x pc ≡ Continues x (if passes test x then pc + 4 * (words + 1) else pc + 4)

-- leads there by at most so many steps
pub record LeadsBy (r : Environment) (m to : LocalConfig) (most : ℕ) : Type 0 where
  pub leads : RunsTo r m to
  pub short : leads.steps ≤ most

-- goes on after itself where the test is passed, else skips so many words
pub record IsGuard (words : ℕ) (test : Test) (code : List Instr) : Type 0 where
  pub leads : (r : Environment) (x : List ℕ) (pc : ℕ) → HasCodeAt r pc code → pc + 4 * (length code + words) < 2 ^ 64 →
      LeadsBy r (config x pc) (config x (if passes test x then pc + 4 * length code else pc + 4 * (length code + words))) (length code)
