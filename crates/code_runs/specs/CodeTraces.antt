-- Runs of a thread's code, apart from memory and locks: where they lead, what its registers hold, and what is seen of them from
-- outside the registers, in order. A call ends a run.
use Rattle.std.specs.Prelude.{◌≡◌, ℕ, zero, suc, ◌+◌, ◌*◌, ◌^◌, ◌<◌, ◌≤◌, List, [], ◌∷◌, ◌++◌, length, map, Option, Some, None, Bool, true, false}
use Rattle.std.specs.Prelude.{◌==◌, if◌then◌else◌}
use Rattle.std.specs.List.{list_any}
use Rattle.rv64_isa.specs.declared.instr.Instr.{Instr}
use Rattle.rv64_isa.specs.declared.object.Slot.{Slot}
use Rattle.rv64_isa.specs.Rows.{Effect, Continues, Loads, Stores, Cleans, Fences, Calls, row, next}
use Rattle.rv64_link.specs.LinkedCode.{IsInstructionAt}
use Rattle.operator_code.specs.StraightLineCode.{effects, registers_after}
use Rattle.code_runs.specs.ComputingRuns as r
use Rattle.code_runs.specs.ComputingRuns.{Environment, LocalConfig, config, after, LeadsIn}

-- a thread's program: its words from an address on, the mark of each of its nodes, and where it may be resumed
pub record Program : Type 0 where
  pub start : ℕ
  pub code : List Slot
  pub nodes : List ℕ
  pub resumes : List ℕ

-- what a run meets: the instructions by their addresses, what loads give, and the marks
pub record MarkedEnvironment : Type 0 where
  pub around : Environment
  pub marks : List ℕ

-- the program's instructions are met where they stand, and its marks
pub record Meets (program : Program) (s : MarkedEnvironment) : Type 0 where
  pub fetches : (address : ℕ) (instr : Instr) → IsInstructionAt program.start program.code address instr → s.around.fetch address ≡ Some instr
  pub marks : s.marks ≡ program.nodes

-- what is seen of a run: a mark that is passed, a store, a clean, a fence
pub data Observation : Type 0 where
  Mark : Observation
  Does : Effect → Observation

-- what is seen of an effect: all but what it does to registers. Loads aren't seen: a run says which ones it makes by
-- standing wherever these are answered.
abbrev pub outside : Effect → List Observation
outside (Continues registers pc) = []
outside (Loads address bytes signed register) = []
outside (Stores address bytes value) = Does (Stores address bytes value) ∷ []
outside (Cleans address) = Does (Cleans address) ∷ []
outside Fences = Does Fences ∷ []
outside Calls = []

-- a mark is passed by the instruction at its address
abbrev pub marked : (marks : List ℕ) → (pc : ℕ) → List Observation
marked marks pc = if list_any (λ mark. mark == pc) marks then Mark ∷ [] else []

-- the local config after an effect; what goes to memory leaves the registers as they are
abbrev pub passed : Environment → LocalConfig → Effect → Option LocalConfig
passed s m (Continues registers to) = after s m (Continues registers to)
passed s m (Loads address bytes signed register) = after s m (Loads address bytes signed register)
passed s m (Stores address bytes value) = Some (config m.registers (next m.pc))
passed s m (Cleans address) = Some (config m.registers (next m.pc))
passed s m Fences = Some (config m.registers (next m.pc))
passed s m Calls = None

-- an instruction stands at the pc; this is seen of it, and this is the local config after it
pub record IsTraceStep (s : MarkedEnvironment) (m : LocalConfig) (seen : List Observation) (to : LocalConfig) : Type 0 where
  pub instr : Instr
  pub stands : s.around.fetch m.pc ≡ Some instr
  pub does : passed s.around m (row instr m.registers m.pc) ≡ Some to
  pub sees : seen ≡ marked s.marks m.pc ++ outside (row instr m.registers m.pc)

-- a trace: a number of instructions leads from the one local config to the other, and this is seen on the way
abbrev pub Trace : MarkedEnvironment → (steps : ℕ) → LocalConfig → (seen : List Observation) → LocalConfig → Type 0
Trace s zero m seen to = (m ≡ to) × (seen ≡ [])
Trace s (suc steps) m seen to =
    (by : LocalConfig) × (first later : List Observation) × IsTraceStep s m first by × Trace s steps by later to × (seen ≡ first ++ later)

-- a fragment: from registers at an address, with at most so many instructions
pub record Fragment : Type 0 where
  pub registers : List ℕ
  pub from : ℕ
  pub to : ℕ
  pub most : ℕ

-- the code goes through the fragment, this is seen of it, and at its end the registers have the property
pub record GoesThrough (s : MarkedEnvironment) (fragment : Fragment) (seen : List Observation) (has : List ℕ → Type 0) : Type 0 where
  pub registers : List ℕ
  pub steps : ℕ
  pub walks : Trace s steps (config fragment.registers fragment.from) seen (config registers fragment.to)
  pub short : steps ≤ fragment.most
  pub are : has registers

-- stores, cleans and fences, in order
abbrev pub seen_effects : List Effect → List Observation
seen_effects effects = map Does effects

-- an effect on memory that leaves the registers
abbrev pub is_memory : Effect → Bool
is_memory (Continues registers pc) = false
is_memory (Loads address bytes signed register) = false
is_memory (Stores address bytes value) = true
is_memory (Cleans address) = true
is_memory Fences = true
is_memory Calls = false

abbrev pub AreMemory : List Effect → Type 0
AreMemory [] = Unit {0}
AreMemory (e ∷ es) = (is_memory e ≡ true) × AreMemory es

-- no mark stands at these words
abbrev pub AreUnmarked : MarkedEnvironment → (pc words : ℕ) → Type 0
AreUnmarked s pc zero = Unit {0}
AreUnmarked s pc (suc words) = (marked s.marks pc ≡ []) × AreUnmarked s (pc + 4) words

-- ---- Laws

-- the one environment has the code and the marks of the other, and answers all loads that the other answers, with the same values
pub record Answers (s z : MarkedEnvironment) : Type 0 where
  pub fetches : (address : ℕ) → z.around.fetch address ≡ s.around.fetch address
  pub marks : z.marks ≡ s.marks
  pub loads : (address bytes value : ℕ) → s.around.loads address bytes ≡ Some value → z.around.loads address bytes ≡ Some value

-- one run after another is a run, of which both are seen
abbrev pub RunsCompose : Type 0
RunsCompose = (s : MarkedEnvironment) (n k : ℕ) (m by to : LocalConfig) (first later : List Observation) → Trace s n m first by → Trace s k by later to →
    Trace s (n + k) m (first ++ later) to

-- a run is one wherever its loads are answered with the same values
abbrev pub RunsStay : Type 0
RunsStay = (s z : MarkedEnvironment) → Answers s z → (n : ℕ) (m to : LocalConfig) (seen : List Observation) → Trace s n m seen to → Trace z n m seen to

-- where no mark stands on the way, nothing is seen of code that only computes
abbrev pub ComputingIsUnseen : Type 0
ComputingIsUnseen =
    (s : MarkedEnvironment) (n : ℕ) (m to : LocalConfig) → ((pc : ℕ) → m.pc ≤ pc → pc < to.pc → marked s.marks pc ≡ []) → LeadsIn s.around n m to →
    Trace s n m [] to

-- straight code that goes to memory and on is a run of its effects, where no mark stands
abbrev pub StraightIsSeen : Type 0
StraightIsSeen = (s : MarkedEnvironment) (code : List Instr) (x : List ℕ) (pc : ℕ) → r.HasCodeAt s.around pc code → pc + 4 * length code < 2 ^ 64 →
    AreMemory (effects code x pc) → AreUnmarked s pc (length code) →
    Trace s (length code) (config x pc) (seen_effects (effects code x pc)) (config (registers_after code x pc) (pc + 4 * length code))

-- ---- Laws: code whose first word may have a mark

-- where no mark stands after the first instruction, nothing else is seen of code that only computes
abbrev pub ComputingIsUnseenFrom : Type 0
ComputingIsUnseenFrom =
    (s : MarkedEnvironment) (n : ℕ) (m to : LocalConfig) → ((pc : ℕ) → m.pc < pc → pc < to.pc → marked s.marks pc ≡ []) → LeadsIn s.around (suc n) m to →
    Trace s (suc n) m (marked s.marks m.pc) to

-- where no mark stands after the first instruction, only its own mark and the effects are seen of straight code
abbrev pub StraightIsSeenFrom : Type 0
StraightIsSeenFrom = (s : MarkedEnvironment) (instr : Instr) (code : List Instr) (x : List ℕ) (pc : ℕ) → r.HasCodeAt s.around pc (instr ∷ code) →
    pc + 4 * length (instr ∷ code) < 2 ^ 64 →
    AreMemory (effects (instr ∷ code) x pc) → AreUnmarked s (pc + 4) (length code) →
    Trace s (length (instr ∷ code)) (config x pc) (marked s.marks pc ++ seen_effects (effects (instr ∷ code) x pc))
    (config (registers_after (instr ∷ code) x pc) (pc + 4 * length (instr ∷ code)))
