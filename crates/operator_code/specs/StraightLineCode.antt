-- What straight-line code does, apart from memory and locks: what it stores, cleans and fences, in order, and what its
-- registers hold after it. Code stands word after word from an address.
use Rattle.std.specs.Prelude.{◌≡◌, ℕ, ◌+◌, List, [], ◌∷◌, ◌++◌, length, slice_set, ◌==◌, if◌then◌else◌}
use Rattle.rv64_isa.specs.declared.instr.Instr.{Instr}
use Rattle.rv64_isa.specs.Rows.{Effect, Continues, Loads, Stores, Cleans, Fences, Calls, row, read, next}

-- an effect as it is seen from outside the registers: to go on to the next instruction isn't
abbrev pub seen : (pc : ℕ) → Effect → List Effect
seen pc (Continues registers to) = if to == next pc then [] else Continues registers to ∷ []
seen pc (Loads address bytes signed register) = Loads address bytes signed register ∷ []
seen pc (Stores address bytes value) = Stores address bytes value ∷ []
seen pc (Cleans address) = Cleans address ∷ []
seen pc Fences = Fences ∷ []
seen pc Calls = Calls ∷ []

-- the registers after an effect
abbrev pub left_by : (registers : List ℕ) → Effect → List ℕ
left_by x (Continues registers to) = registers
left_by x (Loads address bytes signed register) = x
left_by x (Stores address bytes value) = x
left_by x (Cleans address) = x
left_by x Fences = x
left_by x Calls = x

-- all that is seen of code, in order; a load, a call or a jump would be seen too
abbrev pub effects : List Instr → (registers : List ℕ) → (pc : ℕ) → List Effect
effects [] x pc = []
effects (i ∷ is) x pc = seen pc (row i x pc) ++ effects is (left_by x (row i x pc)) (pc + 4)

-- the registers after it
abbrev pub registers_after : List Instr → (registers : List ℕ) → (pc : ℕ) → List ℕ
registers_after [] x pc = x
registers_after (i ∷ is) x pc = registers_after is (left_by x (row i x pc)) (pc + 4)

-- from any registers in which x0 is 0, the code only computes: one register gets this value
pub record IsConstant (register value : ℕ) (code : List Instr) : Type 0 where
  pub unseen : (x : List ℕ) (pc : ℕ) → length x ≡ 32 → read x 0 ≡ 0 → effects code x pc ≡ []
  pub changes : (x : List ℕ) (pc : ℕ) → length x ≡ 32 → read x 0 ≡ 0 → registers_after code x pc ≡ slice_set x register value
