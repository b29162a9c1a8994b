-- Code of the numbers of locks, in boundaries and for calls.
use Rattle.std.specs.Prelude.{◌≡◌, ℕ, ◌*◌, ◌<◌, ◌≤◌, List, [], ◌∷◌, ◌++◌, length, Option, Some, None}
use Rattle.std.specs.List.{AllZip}
use Rattle.log_schemes.specs.Layout.{log_of}
use Rattle.ido_base.specs.declared.limits.TheConstants.{MOST_PRICE, MOST_TEMPORARIES}
use Rattle.log_schemes.specs.declared.log.Log.{Log}
use Rattle.log_schemes.specs.declared.keeping.Keeping.{Keeping}
use Rattle.log_schemes.specs.declared.keeping.Keeping.TheVariants.{Masked, Listed}
use Rattle.log_schemes.specs.Schemes.{keeping_of}
use Rattle.c_tree.specs.Exprs as e
use Rattle.c_tree.specs.Prices.{need_of, node_price, nodes_of}
use Rattle.rv64_isa.specs.declared.instr.Instr.{Instr}
use Rattle.rv64_isa.specs.declared.instr.Instr.TheVariants.{Op, OpImmediate}
use Rattle.rv64_isa.specs.declared.instr.ImmediateOperation.TheVariants.{Addi}
use Rattle.rv64_isa.specs.declared.instr.Operation.TheVariants.{Add}
use Rattle.operator_code.specs.StraightLineCode.{IsConstant}
use Rattle.expr_code.specs.EvaluationCode.{AreAtHome, Homes, IsValueCode, impure_among}
use Rattle.node_code.specs.links.BoundaryCode.{call_code, number_code}

-- ---- What may be made

-- a key has homes for its locals, needs few enough temporaries and doesn't cost too much
abbrev pub IsKeyReady : Homes → Option e.Placed → Type 0
IsKeyReady h None = Unit {0}
IsKeyReady h (Some key) = AreAtHome h key.expr × (need_of key.expr ≤ MOST_TEMPORARIES) × (node_price (nodes_of key.expr) ≤ MOST_PRICE)

abbrev pub IsReady : Homes → e.LockName → Type 0
IsReady h x = (x.mutex < 2048) × IsKeyReady h x.key

-- ---- In a boundary

-- the key's value, the number of the array's first lock added to it; then the log's address and the base of the bank are made anew
abbrev pub key_code : (code : List Instr) → (first : ℕ) → (address : List Instr) → List Instr
key_code code first address = ((code ++ OpImmediate Addi 5 5 first ∷ []) ++ address) ++ Op Add 30 31 3 ∷ []

-- code of a key's value
pub record IsKeyValue (h : Homes) (key : e.Expr) (code : List Instr) : Type 0 where
  pub is_value : IsValueCode h key 5 code
  pub short : length code ≤ 16 * nodes_of key
  pub pure : impure_among code ≡ 0

-- the code of a key's number
pub record IsKeyCode (h : Homes) (address : List Instr) (first : ℕ) (key : e.Expr) (code : List Instr) : Type 0 where
  pub of_value : List Instr
  pub value : IsKeyValue h key of_value
  pub is : code ≡ key_code of_value first address

abbrev pub IsNumberBy : Homes → (address : List Instr) → (mutex : ℕ) → Option e.Placed → List Instr → Type 0
IsNumberBy h address mutex None code = code ≡ number_code mutex
IsNumberBy h address mutex (Some key) code = IsKeyCode h address mutex key.expr code

-- the code of a name's number, where the instructions get the address of the log: one instruction where it has no key
abbrev pub IsNumberCode : Homes → (address : List Instr) → e.LockName → List Instr → Type 0
IsNumberCode h address x code = IsNumberBy h address x.mutex x.key code

-- of each of the names, where the log lists locks
abbrev pub AreCodesAs : Keeping → Log → Homes → (thread : ℕ) → List e.LockName → List (List Instr) → Type 0
AreCodesAs Masked log h thread names codes = codes ≡ []
AreCodesAs Listed log h thread names codes = (address : List Instr) × IsConstant 31 (log_of log thread) address × (length address ≤ 2) ×
    AllZip (IsNumberCode h address) names codes

abbrev pub AreNumberCodes : Log → Homes → (thread : ℕ) → List e.LockName → List (List Instr) → Type 0
AreNumberCodes log h thread names codes = AreCodesAs (keeping_of log) log h thread names codes

-- ---- For a call

pub record IsKeyCall (h : Homes) (first : ℕ) (key : e.Expr) (code : List Instr) : Type 0 where
  pub of_value : List Instr
  pub value : IsKeyValue h key of_value
  pub is : code ≡ of_value ++ OpImmediate Addi 10 5 first ∷ []

abbrev pub IsCallBy : Homes → (mutex : ℕ) → Option e.Placed → List Instr → Type 0
IsCallBy h mutex None code = code ≡ call_code mutex
IsCallBy h mutex (Some key) code = IsKeyCall h mutex key.expr code

-- the code of a name's number for a call
abbrev pub IsCallCode : Homes → e.LockName → List Instr → Type 0
IsCallCode h x code = IsCallBy h x.mutex x.key code
