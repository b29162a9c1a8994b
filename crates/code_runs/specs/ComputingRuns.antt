-- Runs of code that only computes and loads. Every step goes forward.
use Rattle.std.specs.Prelude.{◌≡◌, ℕ, zero, suc, ◌+◌, ◌<◌, List, [], ◌∷◌, Option, Some, None}
use Rattle.std.specs.Option.{option_map}
use Rattle.rv64_isa.specs.declared.instr.Instr.{Instr}
use Rattle.rv64_isa.specs.Rows.{Effect, Continues, Loads, Stores, Cleans, Fences, Calls, row, written, next, load_result}

-- what is around a run: the instructions by their addresses, and what a load of so many bytes at an address gives, where it may be made
pub record Environment : Type 0 where
  pub fetch : (address : ℕ) → Option Instr
  pub loads : (address bytes : ℕ) → Option ℕ

pub record LocalConfig : Type 0 where
  pub registers : List ℕ
  pub pc : ℕ

abbrev pub config : (registers : List ℕ) → (pc : ℕ) → LocalConfig
config registers pc = record { registers = registers; pc = pc }

-- the local config after an effect: a load is made only where it may be, and nothing is stored, cleaned, fenced or called
abbrev pub after : Environment → LocalConfig → Effect → Option LocalConfig
after s m (Continues registers to) = Some (config registers to)
after s m (Loads address bytes signed register) =
    option_map (λ (value : ℕ). config (written m.registers register (load_result bytes signed value)) (next m.pc)) (s.loads address bytes)
after s m (Stores address bytes value) = None
after s m (Cleans address) = None
after s m Fences = None
after s m Calls = None

-- an instruction stands at the pc, and this is the local config after it, further on
pub record StepsTo (s : Environment) (m to : LocalConfig) : Type 0 where
  pub instr : Instr
  pub stands : s.fetch m.pc ≡ Some instr
  pub does : after s m (row instr m.registers m.pc) ≡ Some to
  pub forward : m.pc < to.pc

-- a number of steps leads from the one local config to the other
abbrev pub LeadsIn : Environment → (steps : ℕ) → (m to : LocalConfig) → Type 0
LeadsIn s zero m to = m ≡ to
LeadsIn s (suc steps) m to = (by : LocalConfig) × StepsTo s m by × LeadsIn s steps by to

pub record RunsTo (s : Environment) (m to : LocalConfig) : Type 0 where
  pub steps : ℕ
  pub leads : LeadsIn s steps m to

-- the code stands word after word from the address
abbrev pub HasCodeAt : Environment → (address : ℕ) → List Instr → Type 0
HasCodeAt s address [] = Unit {0}
HasCodeAt s address (instr ∷ code) = (s.fetch address ≡ Some instr) × HasCodeAt s (address + 4) code
