-- Code that evaluates expressions: locals stand in their homes, variables in memory, and every value in its register form.
use Rattle.std.specs.Prelude.{◌≡◌, ℕ, ◌+◌, ◌*◌, ◌^◌, ◌<◌, ◌≤◌, List, length, map, slice_index, slice_index_or, Option, Some, Bool, true, false, not, nat_lt, ◌==◌}
use Rattle.std.specs.Prelude.{◌||◌, ℤ, pos, sum_by}
use Rattle.ido_base.specs.Layout.{variable_at, end_from}
use Rattle.ido_base.specs.declared.limits.TheConstants.{MOST_VARIABLE_BYTES, MOST_ELEMENTS}
use Rattle.ido_ints.specs.declared.kinds.Kind.{Kind}
use Rattle.ido_ints.specs.declared.kinds.Kind.TheVariants.{UnsignedLong}
use Rattle.ido_ints.specs.Kinds.{Holds, bytes_of, bits_of}
use Rattle.ido_ints.specs.Reduction.{residue}
use Rattle.ido_ints.specs.Operators.{is_zero}
use Rattle.ido_ints.specs.TypedNumbers.{Typed, typed, converted, register_form_of}
use Rattle.c_tree.specs.Exprs as e
use Rattle.c_tree.specs.Programs as p
use Rattle.c_tree.specs.Values.{value, element_number, element_at}
use Rattle.c_tree.specs.Ranges.{elements_of}
use Rattle.c_tree.specs.WellFormed.{IsExpr, IsDeclared, IndexFits, Fits, shape_of}
use Rattle.c_ranges.specs.Laws.{IsReference}
use Rattle.rv64_isa.specs.declared.instr.Instr.{Instr}
use Rattle.rv64_isa.specs.declared.instr.Instr.TheVariants.{Store, CboClean, Fence, Ecall}
use Rattle.rv64_isa.specs.Rows.{read}
use Rattle.memory_layout.specs.Roles.{is_temporary, is_local}
use Rattle.operator_code.specs.declared.branches.Test.{Test}
use Rattle.operator_code.specs.ComputingCode.{AreRegisters, Carries, passes}
use Rattle.expr_code.specs.declared.frame.Frame as frame
use Rattle.expr_code.specs.declared.home.Home.{Home}
use Rattle.expr_code.specs.declared.home.Home.TheVariants.{InRegister, InFrame}
use Rattle.code_runs.specs.ComputingRuns.{Environment, LocalConfig, config, RunsTo, HasCodeAt}

-- ---- Where things are, and what they are

-- where the local of that number stands, of a list of where each does
abbrev pub home_of : List Home → (local : ℕ) → Home
home_of homes local = slice_index_or homes local (InRegister 0)

-- locals may stand there: in one of their registers, or in a word of memory whose address an instruction's upper part reaches
abbrev pub is_home : Home → Bool
is_home (InRegister register) = is_local register
is_home (InFrame address) = nat_lt address (2 ^ 30)

-- a load of eight bytes at the address gives the value, in its register form
pub record IsFramed (loads : (address bytes : ℕ) → Option ℕ) (address : ℕ) (v : Typed) : Type 0 where
  pub held : Holds v.kind v.number
  pub answer : loads address 8 ≡ Some (register_form_of v)

-- what stands there is the value, in its register form
abbrev pub HomeCarries : (loads : (address bytes : ℕ) → Option ℕ) → (registers : List ℕ) → Home → Typed → Type 0
HomeCarries loads registers (InRegister register) v = Carries registers register v
HomeCarries loads registers (InFrame address) v = IsFramed loads address v

-- the addresses of the variables, and where the locals are
pub record Homes : Type 0 where
  pub addresses : List ℕ
  pub locals : List Home

abbrev pub homes_of : frame.Frame → Homes
homes_of f = record { addresses = f.addresses.now; locals = f.locals.now }

-- every variable that the expression reads has an address, and every local a home
abbrev pub AreAtHome : Homes → e.Expr → Type 0
AreAtHome h (e.Constant value) = Unit {0}
AreAtHome h (e.Local local kind) = (local < length h.locals) × (is_home (home_of h.locals local) ≡ true)
AreAtHome h (e.Variable place variable kind) = variable < length h.addresses
AreAtHome h (e.Element place variable kind index_place index) = (variable < length h.addresses) × AreAtHome h index
AreAtHome h (e.Address variable index_place index) = AreAtHome h index
AreAtHome h (e.Referent place last local) = (local < length h.locals) × (is_home (home_of h.locals local) ≡ true)
AreAtHome h (e.Unary operator operand) = AreAtHome h operand
AreAtHome h (e.Cast kind operand) = AreAtHome h operand
AreAtHome h (e.Converted kind operand) = AreAtHome h operand
AreAtHome h (e.Binary operator left right) = AreAtHome h left × AreAtHome h right
AreAtHome h (e.Conditional kind condition chosen otherwise) = AreAtHome h condition × AreAtHome h chosen × AreAtHome h otherwise

-- the variables, the kinds of a thread's locals, and the numbers of both at a moment
pub record Source : Type 0 where
  pub variables : List p.Variable
  pub kinds : List Kind
  pub locals : List ℤ
  pub numbers : List (List ℤ)

-- the address of an element
abbrev pub place_of : Source → (variable element : ℕ) → ℕ
place_of s variable element = variable_at (map shape_of s.variables) variable element

-- the homes are those of the variables and locals
pub record Suits (h : Homes) (s : Source) : Type 0 where
  pub bytes : end_from 0 (map shape_of s.variables) ≤ MOST_VARIABLE_BYTES
  pub lengths : (variable : ℕ) → elements_of s.variables variable ≤ MOST_ELEMENTS
  pub address : (variable : ℕ) → variable < length s.variables → slice_index h.addresses variable ≡ place_of s variable 0
  pub local : (local : ℕ) → local < length s.kinds → is_home (home_of h.locals local) ≡ true

-- each local that the expression reads stands in its home with its number, which its kind holds
abbrev pub HoldsLocals : Homes → Source → (loads : (address bytes : ℕ) → Option ℕ) → (x : List ℕ) → e.Expr → Type 0
HoldsLocals h s l x (e.Constant value) = Unit {0}
HoldsLocals h s l x (e.Local local kind) = HomeCarries l x (home_of h.locals local) (typed kind (slice_index_or s.locals local (pos 0)))
HoldsLocals h s l x (e.Variable place variable kind) = Unit {0}
HoldsLocals h s l x (e.Element place variable kind index_place index) = HoldsLocals h s l x index
HoldsLocals h s l x (e.Address variable index_place index) = HoldsLocals h s l x index
HoldsLocals h s l x (e.Referent place last local) = HomeCarries l x (home_of h.locals local) (typed UnsignedLong (slice_index_or s.locals local (pos 0)))
HoldsLocals h s l x (e.Unary operator operand) = HoldsLocals h s l x operand
HoldsLocals h s l x (e.Cast kind operand) = HoldsLocals h s l x operand
HoldsLocals h s l x (e.Converted kind operand) = HoldsLocals h s l x operand
HoldsLocals h s l x (e.Binary operator left right) = HoldsLocals h s l x left × HoldsLocals h s l x right
HoldsLocals h s l x (e.Conditional kind condition chosen otherwise) = HoldsLocals h s l x condition × HoldsLocals h s l x chosen × HoldsLocals h s l x otherwise

-- a load of an element gives its number modulo 2 to its width; the kind holds the number
pub record IsLoaded (s : Source) (loads : (address bytes : ℕ) → Option ℕ) (k : Kind) (variable element : ℕ) : Type 0 where
  pub answer : loads (place_of s variable element) (bytes_of k) ≡ Some (residue (bits_of k) (element_number s.numbers variable element))
  pub held : Holds k (element_number s.numbers variable element)

-- loads of the elements that the expression reads do, and each reference that it follows refers to one
abbrev pub AreLoaded : Source → (loads : (address bytes : ℕ) → Option ℕ) → e.Expr → Type 0
AreLoaded s loads (e.Constant value) = Unit {0}
AreLoaded s loads (e.Local local kind) = Unit {0}
AreLoaded s loads (e.Variable place variable kind) = IsLoaded s loads kind variable 0
AreLoaded s loads (e.Element place variable kind index_place index) =
    IsLoaded s loads kind variable (element_at (value s.locals s.numbers index)) × AreLoaded s loads index
AreLoaded s loads (e.Address variable index_place index) = AreLoaded s loads index
AreLoaded s loads (e.Referent place last local) = IsReference last (slice_index_or s.locals local (pos 0))
AreLoaded s loads (e.Unary operator operand) = AreLoaded s loads operand
AreLoaded s loads (e.Cast kind operand) = AreLoaded s loads operand
AreLoaded s loads (e.Converted kind operand) = AreLoaded s loads operand
AreLoaded s loads (e.Binary operator left right) = AreLoaded s loads left × AreLoaded s loads right
AreLoaded s loads (e.Conditional kind condition chosen otherwise) = AreLoaded s loads condition × AreLoaded s loads chosen × AreLoaded s loads otherwise

-- ---- Code

-- 1 for an instruction that stores, cleans, fences or calls; 0 for one that computes, loads or goes elsewhere
abbrev pub impure_of : Instr → ℕ
impure_of (Store kind rs2 rs1 offset) = 1
impure_of (CboClean rs1) = 1
impure_of Fence = 1
impure_of Ecall = 1
impure_of _ = 0

-- how many of the instructions store, clean, fence or call
abbrev pub impure_among : List Instr → ℕ
impure_among code = sum_by impure_of code

-- an expression that may be evaluated, in this environment
pub record IsLegal (h : Homes) (s : Source) (r : Environment) (x : e.Expr) : Type 0 where
  pub suits : Suits h s
  pub formed : IsExpr s.variables s.kinds x
  pub fits : Fits s.variables x
  pub loaded : AreLoaded s r.loads x

-- code stands at the config's pc
pub record HasCodeThere (r : Environment) (code : List Instr) (m : LocalConfig) : Type 0 where
  pub registers : AreRegisters m.registers
  pub stands : HasCodeAt r m.pc code
  pub room : m.pc + 4 * length code < 2 ^ 64

-- the config at which code of the expression begins
pub record IsEvaluationStart (h : Homes) (s : Source) (r : Environment) (x : e.Expr) (code : List Instr) (m : LocalConfig) : Type 0 where
  pub at : HasCodeThere r code m
  pub locals : HoldsLocals h s r.loads m.registers x

-- code leads to its end, by at most one step a word, with registers that have the property; all but those that may be written
-- are as they were
pub record EvaluationEnds (r : Environment) (code : List Instr) (may_write : ℕ → Bool) (wanted : List ℕ → Type 0) (m : LocalConfig) : Type 0 where
  pub registers : List ℕ
  pub leads : RunsTo r m (config registers (m.pc + 4 * length code))
  pub short : leads.steps ≤ length code
  pub are : AreRegisters registers
  pub unchanged : (n : ℕ) → may_write n ≡ false → read registers n ≡ read m.registers n
  pub has : wanted registers

-- Whatever the locals and variables hold, whatever stands around it, and wherever it begins: the code leads to its end, where the
-- registers have the property for the expression's value. Its loads are those of elements that the expression reads.
pub record EvaluatesTo (h : Homes) (x : e.Expr) (code : List Instr) (may_write : ℕ → Bool) (has : Typed → List ℕ → Type 0) : Type 0 where
  pub ends : (s : Source) (r : Environment) (m : LocalConfig) → IsLegal h s r x → IsEvaluationStart h s r x code m →
      EvaluationEnds r code may_write (has (value s.locals s.numbers x)) m

-- rd gets the value; temporaries may change
abbrev pub IsValueCode : Homes → e.Expr → (rd : ℕ) → List Instr → Type 0
IsValueCode h x rd code = EvaluatesTo h x code (λ n. n == rd || is_temporary n) (λ v y. Carries y rd v)

-- rd gets the value, converted to the kind; temporaries may change
abbrev pub IsConvertedCode : Homes → e.Expr → Kind → (rd : ℕ) → List Instr → Type 0
IsConvertedCode h x k rd code = EvaluatesTo h x code (λ n. n == rd || is_temporary n) (λ v y. Carries y rd (converted v k))

-- after the code the test is passed exactly where the value isn't 0; temporaries may change
abbrev pub IsTestCode : Homes → e.Expr → Test → List Instr → Type 0
IsTestCode h x test code = EvaluatesTo h x code is_temporary (λ v y. passes test y ≡ not (is_zero v.number))

-- rd gets the address of the element of a variable that the index names; temporaries may change
pub record IsElementAddressCode (h : Homes) (variable : ℕ) (k : Kind) (index : e.Placed) (rd : ℕ) (code : List Instr) : Type 0 where
  pub ends : (s : Source) (r : Environment) (m : LocalConfig) → IsDeclared s.variables variable k true → IndexFits s.variables variable index.place index.expr →
      IsLegal h s r index.expr → IsEvaluationStart h s r index.expr code m →
      EvaluationEnds r code (λ n. n == rd || is_temporary n) (λ y. read y rd ≡ place_of s variable (element_at (value s.locals s.numbers index.expr))) m

-- rd gets the address of a variable that is no array
pub record IsVariableAddressCode (h : Homes) (variable : ℕ) (rd : ℕ) (code : List Instr) : Type 0 where
  pub ends : (s : Source) (r : Environment) (m : LocalConfig) → Suits h s → variable < length s.variables → HasCodeThere r code m →
      EvaluationEnds r code (λ n. n == rd || is_temporary n) (λ y. read y rd ≡ place_of s variable 0) m
