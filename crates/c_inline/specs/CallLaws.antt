-- Laws of calls: what a call is made into, and what that does to the locals of its caller.
use Rattle.std.specs.Prelude.{◌≡◌, ◌⊎◌, ℕ, ◌+◌, ◌≤◌, ◌<◌, List, [], ◌∷◌, ◌++◌, length, map, Option, Some, None, ℤ, pos, replicate, slice_get, slice_index_or}
use Rattle.std.specs.Option.{option_map}
use Rattle.ido_base.specs.declared.place.Place.{Place}
use Rattle.ido_ints.specs.declared.kinds.Kind.{Kind}
use Rattle.ido_ints.specs.declared.kinds.Kind.TheVariants.{Int}
use Rattle.ido_ints.specs.Reduction.{reduced}
use Rattle.c_tree.specs.Exprs as e
use Rattle.c_tree.specs.Programs as p
use Rattle.c_tree.specs.Flats as f
use Rattle.c_tree.specs.Inlining as i
use Rattle.c_tree.specs.Inlining.{bodies_of}
use Rattle.c_tree.specs.Source.{State, Thread, after_from, opened_all, value_in}
use Rattle.c_tree.specs.AcceptedTexts.{HasNoBack}

-- ---- Locals that are named

-- a local is read, or it is assigned
pub data Use : Type 0 where
  read : Use
  assigned : Use

abbrev pub ExprReads : e.Expr → (local : ℕ) → Type 0
ExprReads (e.Constant value) l = ⊥
ExprReads (e.Local local kind) l = l ≡ local
ExprReads (e.Variable place variable kind) l = ⊥
ExprReads (e.Element place variable kind index_place index) l = ExprReads index l
ExprReads (e.Address variable index_place index) l = ExprReads index l
ExprReads (e.Referent place last local) l = l ≡ local
ExprReads (e.Unary operator operand) l = ExprReads operand l
ExprReads (e.Cast kind operand) l = ExprReads operand l
ExprReads (e.Converted kind operand) l = ExprReads operand l
ExprReads (e.Binary operator left right) l = ExprReads left l ⊎ ExprReads right l
ExprReads (e.Conditional kind condition chosen otherwise) l = ExprReads condition l ⊎ ExprReads chosen l ⊎ ExprReads otherwise l

-- an expression reads
abbrev pub Uses : Use → e.Expr → (local : ℕ) → Type 0
Uses read x l = ExprReads x l
Uses assigned x l = ⊥

abbrev pub ListUses : Use → List e.Placed → (local : ℕ) → Type 0
ListUses u [] l = ⊥
ListUses u (x ∷ xs) l = Uses u x.expr l ⊎ ListUses u xs l

-- a target's local is assigned, and its index reads
abbrev pub TargetUses : Use → e.Lvalue → (local : ℕ) → Type 0
TargetUses u (e.ToVariable place variable kind) l = ⊥
TargetUses u (e.ToElement place variable kind index) l = Uses u index.expr l
TargetUses read (e.ToLocal place local kind) l = ⊥
TargetUses assigned (e.ToLocal place local kind) l = l ≡ local

abbrev pub ResultUses : Use → Option e.Lvalue → (local : ℕ) → Type 0
ResultUses u None l = ⊥
ResultUses u (Some target) l = TargetUses u target l

-- a key reads
abbrev pub KeyUses : Use → Option e.Placed → (local : ℕ) → Type 0
KeyUses u None l = ⊥
KeyUses u (Some key) l = Uses u key.expr l

abbrev mutual
  pub StatementUses : Use → f.Statement → (local : ℕ) → Type 0
  StatementUses u (f.Assign place target value) l = TargetUses u target l ⊎ Uses u value.expr l
  StatementUses u (f.If place arms otherwise) l = ArmsUse u arms l ⊎ StatementsUse u otherwise l
  StatementUses u (f.While place condition body) l = Uses u condition.expr l ⊎ StatementsUse u body l
  StatementUses u (f.Do place body condition) l = StatementsUse u body l ⊎ Uses u condition.expr l
  StatementUses u (f.Lock place name) l = KeyUses u name.key l
  StatementUses u (f.Unlock place name) l = KeyUses u name.key l

  pub StatementsUse : Use → f.Statements → (local : ℕ) → Type 0
  StatementsUse u f.no_statement l = ⊥
  StatementsUse u (f.statement_and x rest) l = StatementUses u x l ⊎ StatementsUse u rest l

  pub ArmsUse : Use → f.Arms → (local : ℕ) → Type 0
  ArmsUse u f.no_arm l = ⊥
  ArmsUse u (f.arm_and condition body rest) l = Uses u condition.expr l ⊎ StatementsUse u body l ⊎ ArmsUse u rest l

-- ---- Functions that name locals of their own alone

abbrev pub AreBelow : (count : ℕ) → e.Expr → Type 0
AreBelow count x = (local : ℕ) → ExprReads x local → local < count

abbrev pub IsKeyBelow : (count : ℕ) → Option e.Placed → Type 0
IsKeyBelow count None = Unit {0}
IsKeyBelow count (Some key) = AreBelow count key.expr

abbrev pub AreAllBelow : (count : ℕ) → List e.Placed → Type 0
AreAllBelow count xs = (local : ℕ) → ListUses read xs local → local < count

abbrev pub IsBelow : (count : ℕ) → e.Lvalue → Type 0
IsBelow count x = (u : Use) (local : ℕ) → TargetUses u x local → local < count

abbrev pub IsResultBelow : (count : ℕ) → Option e.Lvalue → Type 0
IsResultBelow count x = (u : Use) (local : ℕ) → ResultUses u x local → local < count

-- the function takes so many arguments
abbrev pub TakesArguments : List p.Function → (function arguments : ℕ) → Type 0
TakesArguments fs function arguments = (x : p.Function) → slice_get fs function ≡ Some x → arguments ≤ length x.locals

-- all locals that are named are among the first ones, and calls pass no more arguments than there are locals for
abbrev mutual
  pub IsScoped : List p.Function → (count : ℕ) → p.Statement → Type 0
  IsScoped fs count (p.Assign place target value) = IsBelow count target × AreBelow count value.expr
  IsScoped fs count (p.Call place name function arguments result) = TakesArguments fs function
      (length arguments) × AreAllBelow count arguments × IsResultBelow count result
  IsScoped fs count (p.If place arms otherwise) = AreScopedArms fs count arms × AreScoped fs count otherwise
  IsScoped fs count (p.While place condition body) = AreBelow count condition.expr × AreScoped fs count body
  IsScoped fs count (p.Do place body condition) = AreScoped fs count body × AreBelow count condition.expr
  IsScoped fs count (p.Lock place name) = IsKeyBelow count name.key
  IsScoped fs count (p.Unlock place name) = IsKeyBelow count name.key

  pub AreScoped : List p.Function → (count : ℕ) → p.Statements → Type 0
  AreScoped fs count p.no_statement = Unit {0}
  AreScoped fs count (p.statement_and x rest) = IsScoped fs count x × AreScoped fs count rest

  pub AreScopedArms : List p.Function → (count : ℕ) → p.Arms → Type 0
  AreScopedArms fs count p.no_arm = Unit {0}
  AreScopedArms fs count (p.arm_and condition body rest) = AreBelow count condition.expr × AreScoped fs count body × AreScopedArms fs count rest

abbrev pub IsReturnedBelow : (count : ℕ) → Option p.Returned → Type 0
IsReturnedBelow count None = Unit {0}
IsReturnedBelow count (Some x) = AreBelow count x.value.expr

pub record IsFunctionScoped (fs : List p.Function) (x : p.Function) : Type 0 where
  pub body : AreScoped fs (length x.locals) x.body
  pub result : IsReturnedBelow (length x.locals) x.result

abbrev pub AreFunctionsScoped : List p.Function → Type 0
AreFunctionsScoped fs = (function : ℕ) (x : p.Function) → slice_get fs function ≡ Some x → IsFunctionScoped fs x

-- ---- Calls are no deeper than there are functions

-- with calls allowed deeper than there are functions, the bodies are the same
abbrev pub DepthIsEnough : Type 0
DepthIsEnough = (x : p.Program) (deep function : ℕ) (ks : i.Locals) → HasNoBack x → length x.functions ≤ deep →
    bodies_of x.functions deep function ks ≡ bodies_of x.functions (length x.functions) function ks

-- the body made of a function is that of its own statements, where each call in them is again such a body
abbrev pub BodiesAreBodies : Type 0
BodiesAreBodies = (x : p.Program) (function : ℕ) (g : p.Function) (ks : i.Locals) → HasNoBack x → slice_get x.functions function ≡ Some g →
    bodies_of x.functions (length x.functions) function ks
    ≡ i.statements x.functions (bodies_of x.functions (length x.functions)) (length ks.kinds) (i.joined ks (i.locals g.locals g.refers)) g.body

-- ---- Locals of calls are new

-- a call
pub record Site : Type 0 where
  pub place : Place
  pub name : Place
  pub function : ℕ
  pub arguments : List e.Placed
  pub result : Option e.Lvalue

-- what it becomes, where the locals of its caller begin at a number, and there are these locals
abbrev pub call_made : List p.Function → (deep by : ℕ) → i.Locals → Site → i.Made f.Statements
call_made fs deep by ks x = i.statement fs (bodies_of fs deep) by ks (p.Call x.place x.name x.function x.arguments x.result)

-- locals that there are keep their numbers, kinds and what they refer to: new ones come after them
abbrev pub LocalsGrow : Type 0
LocalsGrow = (fs : List p.Function) (deep by : ℕ) (ks : i.Locals) (xs : p.Statements) →
    (more : i.Locals) × ((i.statements fs (bodies_of fs deep) by ks xs).locals ≡ i.joined ks more)

-- the local is one of those that came after the ones before: new, and that of no other call
abbrev pub IsNew : (before after : i.Locals) → (local : ℕ) → Type 0
IsNew before after local = (length before.kinds ≤ local) × (local < length after.kinds)

-- the caller's arguments or its target name the local
abbrev pub IsPassed : Use → (by : ℕ) → Site → (local : ℕ) → Type 0
IsPassed u by x local = ListUses u (map (i.shifted_placed by) x.arguments) local ⊎ ResultUses u (option_map (i.shifted_target by) x.result) local

-- a call reads its arguments, assigns its target, and names no other local that was there before it
abbrev pub NoneIsShared : Type 0
NoneIsShared = (fs : List p.Function) (deep by : ℕ) (ks : i.Locals) (x : Site) (u : Use) (local : ℕ) →
    StatementsUse u (call_made fs deep by ks x).made local → (length ks.kinds ≤ local) ⊎ IsPassed u by x local

-- a call names what it is passed, its arguments to read and its target to assign, and else only locals that are new with it
abbrev pub LocalsAreNew : Type 0
LocalsAreNew = (program : p.Program) (by : ℕ) (ks : i.Locals) (x : Site) (u : Use) (local : ℕ) →
    HasNoBack program → AreFunctionsScoped program.functions → TakesArguments program.functions x.function (length x.arguments) →
    (let m = call_made program.functions (length program.functions) by ks x in
    StatementsUse u m.made local → IsNew ks m.locals local ⊎ IsPassed u by x local)

-- ---- What is done with a caller's locals

abbrev pub left_of : State → (thread : ℕ) → List f.Statement
left_of s thread = elim (slice_get s.threads thread) [ Some x ↦ x.left | None ↦ [] ]

abbrev pub local_of : State → (thread local : ℕ) → ℤ
local_of s thread local = elim (slice_get s.threads thread) [ Some x ↦ slice_index_or x.locals local (pos 0) | None ↦ pos 0 ]

-- the thread has more left than the rest before each step of the schedule
abbrev pub IsBefore : State → (schedule : List ℕ) → (thread : ℕ) → (rest : List f.Statement) → Type 0
IsBefore s schedule thread rest = (first more : List ℕ) (next : ℕ) → schedule ≡ first ++ next ∷ more → ¬ (left_of (after_from s first) thread ≡ rest)

abbrev pub LeftUses : Use → List f.Statement → (local : ℕ) → Type 0
LeftUses u [] l = ⊥
LeftUses u (x ∷ xs) l = StatementUses u x l ⊎ LeftUses u xs l

-- the thread has some statements left and then the rest, and the local is what it was
pub record IsKept (s after : State) (thread local : ℕ) (rest : List f.Statement) : Type 0 where
  pub first : List f.Statement
  pub left : left_of after thread ≡ first ++ rest
  pub kept : local_of after thread local ≡ local_of s thread local

-- until a thread comes to the rest of what it has left, it keeps each local that the statements before the rest don't assign
abbrev pub UnassignedAreKept : Type 0
UnassignedAreKept = (s : State) (schedule : List ℕ) (thread local : ℕ) (first rest : List f.Statement) → left_of s thread ≡ first ++ rest →
    IsBefore s schedule thread rest → ¬ (LeftUses assigned first local) → IsKept s (after_from s schedule) thread local rest

-- until a call is done, at every moment of any run, its caller's locals are what they were, but for the call's target
abbrev pub CallersAreKept : Type 0
CallersAreKept = (fs : List p.Function) (deep by : ℕ) (ks : i.Locals) (x : Site) (s : State) (schedule : List ℕ) (thread local : ℕ) (rest : List f.Statement) →
    left_of s thread ≡ opened_all (call_made fs deep by ks x).made ++ rest → IsBefore s schedule thread rest →
    local < length ks.kinds → ¬ (ResultUses assigned (option_map (i.shifted_target by) x.result) local) → IsKept s (after_from s schedule) thread local rest

-- ---- What parameters begin with

-- where a thread passes arguments to the locals from a number on, and no other thread steps meanwhile, each of these holds
-- what its argument was before the call, converted to its kind
abbrev pub ParametersHold : Type 0
ParametersHold = (place : Place) (by : ℕ) (ks : List Kind) (xs : List e.Placed) (s : State) (t : ℕ) (thread : Thread) (rest : List f.Statement) →
    slice_get s.threads t ≡ Some thread → thread.pending ≡ None → thread.left ≡ opened_all (i.passed place by ks xs) ++ rest →
    AreAllBelow by xs → by + length xs ≤ length thread.locals →
    (parameter : ℕ) (x : e.Placed) → slice_get xs parameter ≡ Some x →
    local_of (after_from s (replicate (length xs) t)) t (by + parameter) ≡ reduced (slice_index_or ks parameter Int) (value_in s thread x.expr).number
