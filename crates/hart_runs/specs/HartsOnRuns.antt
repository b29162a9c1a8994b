-- A hart in the middle of a run: what the code and memory around it give, and where in the run it stands.
use Rattle.std.specs.Prelude.{◌≡◌, ℕ, suc, List, [], ◌∷◌, length, slice_get, Option, Some, None, Bool, true, ◌==◌, ◌&&◌, ◌||◌, if◌then◌else◌}
use Rattle.log_schemes.specs.declared.log.Log.{Log}
use Rattle.ido_base.specs.Words.{loaded}
use Rattle.ido_base.specs.Layout.{aligned, byte_number}
use Rattle.log_schemes.specs.Layout.{in_range}
use Rattle.rv64_isa.specs.declared.instr.Instr.{Instr}
use Rattle.rv64_isa.specs.declared.object.Slot.{Slot}
use Rattle.rv64_isa.specs.declared.object.Slot.TheVariants.{Row, NoRow}
use Rattle.machine_model.specs.declared.phase.Phase.TheVariants.{Run}
use Rattle.rv64_isa.specs.Programs.{fetched}
use Rattle.rv64_isa.specs.Rows.{Effect, Continues, Loads, Stores, Cleans, Fences, Calls}
use Rattle.machine_model.specs.Machine.{Hart, World}
use Rattle.code_runs.specs.ComputingRuns.{LocalConfig, config}
use Rattle.code_runs.specs.CodeTraces.{MarkedEnvironment, Observation, Mark, Does, Trace}

-- the instruction of a slot, where it has one
abbrev pub instr_of : Option Slot → Option Instr
instr_of None = None
instr_of (Some (NoRow word)) = None
instr_of (Some (Row instr)) = Some instr

-- the instruction at a pc of the hart's own code
abbrev pub instr_at : List (List Slot) → (h pc : ℕ) → Option Instr
instr_at program h pc = instr_of (fetched program h pc)

-- an access has 1, 2, 4 or 8 bytes
abbrev pub is_width : (bytes : ℕ) → Bool
is_width bytes = (bytes == 1 || bytes == 2) || (bytes == 4 || bytes == 8)

-- an access that a machine of so many threads lets pass
abbrev pub is_access : Log → (threads address bytes : ℕ) → Bool
is_access log threads address bytes = is_width bytes && (in_range log threads address bytes && aligned address bytes)

-- what loads give in a world, at those addresses and widths that may be read
abbrev pub live_loads : (reads : ℕ → ℕ → Bool) → World → (address bytes : ℕ) → Option ℕ
live_loads reads w address bytes =
    if reads address bytes && is_access w.log (length w.harts) address bytes then Some (loaded w.words (byte_number address) bytes) else None

-- what a run of hart h meets in a world
abbrev pub environment_of : List (List Slot) → (marks : List ℕ) → (reads : ℕ → ℕ → Bool) → World → (h : ℕ) → MarkedEnvironment
environment_of program marks reads w h = record { around = record { fetch = instr_at program h; loads = live_loads reads w }; marks = marks }

-- a load of the world that may be made, and what it gives
pub record LoadGives (w : World) (address bytes value : ℕ) : Type 0 where
  pub may : is_access w.log (length w.harts) address bytes ≡ true
  pub is : loaded w.words (byte_number address) bytes ≡ value

-- what an environment answers, the hart's code and memory give
pub record Agrees (program : List (List Slot)) (w : World) (h : ℕ) (s : MarkedEnvironment) : Type 0 where
  pub fetches : (address : ℕ) (instr : Instr) → s.around.fetch address ≡ Some instr → instr_at program h address ≡ Some instr
  pub loads : (address bytes value : ℕ) → s.around.loads address bytes ≡ Some value → LoadGives w address bytes value

-- what goes to memory goes where it may: a store is an access, and the line of a clean is there
abbrev pub may_go : Log → (threads : ℕ) → Effect → Bool
may_go log threads (Continues registers pc) = true
may_go log threads (Loads address bytes signed register) = true
may_go log threads (Stores address bytes value) = is_access log threads address bytes
may_go log threads (Cleans address) = in_range log threads address 1
may_go log threads Fences = true
may_go log threads Calls = true

abbrev pub MayGo : Log → (threads : ℕ) → List Observation → Type 0
MayGo log threads [] = Unit {0}
MayGo log threads (Mark ∷ seen) = MayGo log threads seen
MayGo log threads (Does effect ∷ seen) = (may_go log threads effect ≡ true) × MayGo log threads seen

-- hart h executes instructions, and is at a local config
pub record IsRunningAt (w : World) (h : ℕ) (m : LocalConfig) : Type 0 where
  pub hart : Hart
  pub here : slice_get w.harts h ≡ Some hart
  pub runs : hart.phase ≡ Run
  pub is : config hart.registers hart.pc ≡ m

-- hart h executes instructions, and from where it stands so many of them lead to a local config; this is seen on the way
pub record IsOnTrace (w : World) (h : ℕ) (s : MarkedEnvironment) (steps : ℕ) (seen : List Observation) (to : LocalConfig) : Type 0 where
  pub hart : Hart
  pub here : slice_get w.harts h ≡ Some hart
  pub runs : hart.phase ≡ Run
  pub walks : Trace s steps (config hart.registers hart.pc) seen to
  pub may : MayGo w.log (length w.harts) seen

-- a run that hart h stands on, before its end, with so many instructions after the next one
pub record OnRun (w : World) (h : ℕ) : Type 0 where
  pub environment : MarkedEnvironment
  pub steps : ℕ
  pub seen : List Observation
  pub to : LocalConfig
  pub on : IsOnTrace w h environment (suc steps) seen to
