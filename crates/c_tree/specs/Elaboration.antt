-- The program that a tree is: its names resolved, its kinds fixed, its initialisers converted.
use Rattle.std.specs.Prelude.{ℕ, ◌-◌, List, [], ◌∷◌, ◌++◌, length, map, take, replicate, Option, Some, None, ℤ, pos, if◌then◌else◌}
use Rattle.std.specs.Option.{option_map}
use Rattle.ido_base.specs.declared.place.Place.{Place}
use Rattle.ido_ints.specs.declared.kinds.Kind.{Kind}
use Rattle.ido_ints.specs.declared.kinds.Kind.TheVariants as kind
use Rattle.ido_ints.specs.declared.operators.Unary.TheVariants as u
use Rattle.ido_ints.specs.declared.operators.Binary.TheVariants as b
use Rattle.ido_ints.specs.Kinds.{common_of}
use Rattle.ido_ints.specs.Operators.{unary_kind, binary_kind, unary_of}
use Rattle.ido_ints.specs.Reduction.{reduced}
use Rattle.ido_ints.specs.TypedNumbers.{typed}
use Rattle.c_tree.specs.Trees as t
use Rattle.c_tree.specs.Exprs as e
use Rattle.c_tree.specs.Programs as p
use Rattle.c_tree.specs.Names as n
use Rattle.c_tree.specs.Names.{element_count, length_number}

-- ---- Expressions

-- the kind of an expression's value
abbrev pub kind_of : e.Expr → Kind
kind_of (e.Constant value) = value.kind
kind_of (e.Local local kind) = kind
kind_of (e.Variable place variable kind) = kind
kind_of (e.Element place variable kind index_place index) = kind
kind_of (e.Address variable index_place index) = kind.UnsignedLong
kind_of (e.Referent place last local) = kind.UnsignedLong
kind_of (e.Unary operator operand) = unary_kind operator (kind_of operand)
kind_of (e.Cast kind operand) = kind
kind_of (e.Converted kind operand) = kind
kind_of (e.Binary operator left right) = binary_kind operator (kind_of left) (kind_of right)
kind_of (e.Conditional kind condition chosen otherwise) = kind

-- the place of the first token
abbrev pub first_place : t.Expression → Place
first_place (t.Number place value) = place
first_place (t.Named x) = x.place
first_place (t.Element array index) = array.place
first_place (t.Null place) = place
first_place (t.Address place array index) = place
first_place (t.Referent place reference) = place
first_place (t.Parenthesised place inner) = place
first_place (t.Unary place operator operand) = place
first_place (t.Cast place kind operand) = place
first_place (t.Binary operator left right) = first_place left
first_place (t.Conditional condition chosen otherwise) = first_place condition

abbrev pub target_place : t.Lvalue → Place
target_place (t.Target x index) = x.place
target_place (t.Followed place x) = place

-- an `int`
abbrev pub int : ℕ → e.Expr
int n = e.Constant (typed kind.Int (pos n))

-- a conditional, in the common kind of what it chooses from
abbrev pub conditional : (condition chosen otherwise : e.Expr) → e.Expr
conditional condition chosen otherwise = e.Conditional (common_of (kind_of chosen) (kind_of otherwise)) condition chosen otherwise

-- ---- Parts

abbrev pub with_parameters : List n.Global → n.Scope → List t.Parameter → n.Scope
with_parameters gs s [] = s
with_parameters gs s (x ∷ xs) = with_parameters gs (n.declared gs s x.name.text x.type_name) xs

abbrev pub body_of : t.Block → t.Statements
body_of (t.Braced opening xs closing) = xs

abbrev pub closing_of : t.Block → Place
closing_of (t.Braced opening xs closing) = closing

-- what is made of a part, and the scope after it
pub record Made (A : Type 0) : Type 0 where
  pub made : A
  pub scope : n.Scope

abbrev pub statements_and : p.Statements → p.Statements → p.Statements
statements_and p.no_statement more = more
statements_and (p.statement_and x xs) more = p.statement_and x (statements_and xs more)

abbrev pub one : p.Statement → p.Statements
one x = p.statement_and x p.no_statement

-- ---- Initialisers (C11 6.7.9): what isn't given is 0

abbrev pub signed_number : t.Signed → ℤ
signed_number x = if x.negative then (unary_of u.Minus x.value).number else x.value.number

abbrev pub numbers_of : Option t.Initialiser → List ℤ
numbers_of None = []
numbers_of (Some (t.Single x)) = signed_number x ∷ []
numbers_of (Some (t.InBraces place xs)) = map signed_number xs

-- the first `count` numbers, with zeros after the last one given
abbrev pub filled : ℕ → List ℤ → List ℤ
filled count zs = take count zs ++ replicate (count - length zs) (pos 0)

-- where a rule is broken, as by a name that isn't known, these take any expression or target
module _ (gs : List n.Global) where
  abbrev pub named : n.Scope → t.Name → e.Expr
  named s x = elim (n.meaning gs s x.text) [
    | n.IsLocal l ↦ e.Local l.number l.kind
    | n.IsGlobal (n.Variable number type_name length each) ↦ e.Variable x.place number (n.kind_named type_name)
    | _ ↦ int 0
  ]

  abbrev pub element : n.Scope → t.Name → (index_place : Place) → e.Expr → e.Expr
  element s x index_place index = elim (n.meaning gs s x.text) [
    | n.IsGlobal (n.Variable number type_name length each) ↦ e.Element x.place number (n.kind_named type_name) index_place index
    | _ ↦ int 0
  ]

  abbrev pub address : n.Scope → t.Name → (index_place : Place) → e.Expr → e.Expr
  address s x index_place index = elim (n.meaning gs s x.text) [
    | n.IsGlobal (n.Variable number type_name length each) ↦ e.Address number index_place index
    | _ ↦ int 0
  ]

  abbrev pub reference : n.Scope → t.Name → Option n.Reference
  reference s x = elim (n.meaning gs s x.text) [
    | n.IsLocal l ↦ option_map (λ a. record { local = l.number; array = a }) l.refers
    | _ ↦ None
  ]

  -- the index of the element to which it refers, at the place of `*`
  abbrev pub referent : Place → n.Reference → e.Placed
  referent place x = record { place = place; expr = e.Referent place x.array.last x.local }

  abbrev pub followed : n.Scope → Place → t.Name → e.Expr
  followed s place x = elim (reference s x) [
    | Some y ↦ e.Element place y.array.number y.array.kind place (referent place y).expr
    | None ↦ int 0
  ]

  abbrev pub expr : n.Scope → t.Expression → e.Expr
  expr s (t.Number place value) = e.Constant value
  expr s (t.Named x) = named s x
  expr s (t.Element array index) = element s array (first_place index) (expr s index)
  expr s (t.Null place) = e.Constant (typed kind.UnsignedLong (pos 0))
  expr s (t.Address place array index) = address s array (first_place index) (expr s index)
  expr s (t.Referent place x) = followed s place x
  expr s (t.Parenthesised place inner) = expr s inner
  expr s (t.Unary place operator operand) = e.Unary operator (expr s operand)
  expr s (t.Cast place kind operand) = e.Cast kind (expr s operand)
  expr s (t.Binary operator left right) = e.Binary operator (expr s left) (expr s right)
  expr s (t.Conditional condition chosen otherwise) = conditional (expr s condition) (expr s chosen) (expr s otherwise)

  abbrev pub placed : n.Scope → t.Expression → e.Placed
  placed s x = record { place = first_place x; expr = expr s x }

  -- ---- Targets and assignments (C11 6.5.16)

  abbrev pub target_named : n.Scope → t.Name → e.Lvalue
  target_named s x = elim (n.meaning gs s x.text) [
    | n.IsLocal l ↦ e.ToLocal x.place l.number l.kind
    | n.IsGlobal (n.Variable number type_name length each) ↦ e.ToVariable x.place number (n.kind_named type_name)
    | _ ↦ e.ToLocal x.place 0 kind.Int
  ]

  abbrev pub target_element : n.Scope → t.Name → e.Placed → e.Lvalue
  target_element s x index = elim (n.meaning gs s x.text) [
    | n.IsGlobal (n.Variable number type_name length each) ↦ e.ToElement x.place number (n.kind_named type_name) index
    | _ ↦ e.ToLocal x.place 0 kind.Int
  ]

  abbrev pub target_followed : n.Scope → Place → t.Name → e.Lvalue
  target_followed s place x = elim (reference s x) [
    | Some y ↦ e.ToElement place y.array.number y.array.kind (referent place y)
    | None ↦ e.ToLocal x.place 0 kind.Int
  ]

  abbrev pub target : n.Scope → t.Lvalue → e.Lvalue
  target s (t.Target x None) = target_named s x
  target s (t.Target x (Some index)) = target_element s x (placed s index)
  target s (t.Followed place x) = target_followed s place x

  -- what the target has before
  abbrev pub before : n.Scope → t.Lvalue → e.Expr
  before s (t.Target x None) = named s x
  before s (t.Target x (Some index)) = element s x (first_place index) (expr s index)
  before s (t.Followed place x) = followed s place x

  -- the new value; that of `x op= v` is `x op v`, and begins with the target
  abbrev pub changed : n.Scope → t.Lvalue → t.Change → e.Placed
  changed s x (t.Set value) = placed s value
  changed s x (t.Update operator value) = record { place = target_place x; expr = e.Binary operator (before s x) (expr s value) }
  changed s x t.Increment = record { place = target_place x; expr = e.Binary b.Add (before s x) (int 1) }
  changed s x t.Decrement = record { place = target_place x; expr = e.Binary b.Sub (before s x) (int 1) }

  -- the parts of a `for` stand at the `for`
  abbrev pub assignment_at : Place → n.Scope → t.Assignment → p.Statement
  assignment_at place s x = p.Assign place (target s x.target) (changed s x.target x.change)

  abbrev pub call : Place → n.Scope → t.Call → Option e.Lvalue → p.Statement
  call place s x result = elim (n.meaning gs s x.function.text) [
    | n.IsGlobal (n.Function number gives parameters) ↦ p.Call place x.function.place number (map (placed s) x.arguments) result
    | _ ↦ p.Call place x.function.place 0 (map (placed s) x.arguments) result
  ]

  -- the local that a declaration makes takes its value, or 0
  abbrev pub declaration_at : Place → n.Scope → t.Declaration → p.Statement
  declaration_at place s x = let new = e.ToLocal x.place (length s.kinds) (n.kind_named x.type_name) in elim x.initial [
    | t.Absent ↦ p.Assign place new (record { place = x.place; expr = int 0 })
    | t.Value value ↦ p.Assign place new (placed s value)
    | t.Result c ↦ call place s c (Some new)
  ]

  -- ---- Statements (C11 6.8); a block has a scope of its own (6.2.1)

  abbrev pub first_at : Place → n.Scope → t.First → Made p.Statements
  first_at place s t.NoFirst = record { made = p.no_statement; scope = s }
  first_at place s (t.Declared x) = record { made = one (declaration_at place s x); scope = n.declared gs s x.name.text x.type_name }
  first_at place s (t.Assigned x) = record { made = one (assignment_at place s x); scope = s }

  abbrev pub last_at : Place → n.Scope → Option t.Assignment → p.Statements
  last_at place s None = p.no_statement
  last_at place s (Some x) = one (assignment_at place s x)

  -- a missing condition is 1
  abbrev pub condition_at : Place → n.Scope → Option t.Expression → e.Placed
  condition_at place s None = record { place = place; expr = int 1 }
  condition_at place s (Some x) = placed s x

  abbrev pub mutex_number : n.Scope → t.Name → ℕ
  mutex_number s x = elim (n.meaning gs s x.text) [
    | n.IsGlobal (n.Mutex number count) ↦ number
    | _ ↦ 0
  ]

  abbrev pub lock_name : n.Scope → t.Name → (key : Option t.Expression) → e.LockName
  lock_name s x key = record { mutex = mutex_number s x; key = option_map (placed s) key }

  abbrev mutual
    pub statement : n.Scope → t.Statement → Made p.Statements
    statement s (t.BlockOf x) = inside s x
    statement s (t.Empty place) = record { made = p.no_statement; scope = s }
    statement s (t.Declare x) = record { made = one (declaration_at x.place s x); scope = n.declared gs s x.name.text x.type_name }
    statement s (t.Assign x) = record { made = one (assignment_at x.place s x); scope = s }
    statement s (t.AssignResult x c) = record { made = one (call (target_place x) s c (Some (target s x))); scope = s }
    statement s (t.CallOnly c) = record { made = one (call c.function.place s c None); scope = s }
    statement s (t.If place arms otherwise) = let a = arms_of s arms in let o = otherwise_of a.scope otherwise in
        record { made = one (p.If place a.made o.made); scope = o.scope }
    statement s (t.While place x body) = let m = inside s body in
        record { made = one (p.While place (placed s x) m.made); scope = m.scope }
    statement s (t.Do place body x) = let m = inside s body in
        record { made = one (p.Do place m.made (placed m.scope x)); scope = m.scope }
    statement s (t.For place start x last body) =
        let f = first_at place (n.entered s) start in
        let m = inside f.scope body in
        record {
          made = statements_and f.made (one (p.While place (condition_at place f.scope x) (statements_and m.made (last_at place f.scope last))));
          scope = n.left s m.scope;
        }
    statement s (t.Lock place mutex key) = record { made = one (p.Lock place (lock_name s mutex key)); scope = s }
    statement s (t.Unlock place mutex key) = record { made = one (p.Unlock place (lock_name s mutex key)); scope = s }

    -- a block has a scope of its own
    pub inside : n.Scope → t.Block → Made p.Statements
    inside s (t.Braced opening xs closing) = let m = statements (n.entered s) xs in record { made = m.made; scope = n.left s m.scope }

    pub statements : n.Scope → t.Statements → Made p.Statements
    statements s t.no_statement = record { made = p.no_statement; scope = s }
    statements s (t.statement_and x xs) = let m = statement s x in let rest = statements m.scope xs in
        record { made = statements_and m.made rest.made; scope = rest.scope }

    pub arms_of : n.Scope → t.Arms → Made p.Arms
    arms_of s t.no_arm = record { made = p.no_arm; scope = s }
    arms_of s (t.arm_and x body arms) = let m = inside s body in let rest = arms_of m.scope arms in
        record { made = p.arm_and (placed s x) m.made rest.made; scope = rest.scope }

    pub otherwise_of : n.Scope → t.Otherwise → Made p.Statements
    otherwise_of s t.Nothing = record { made = p.no_statement; scope = s }
    otherwise_of s (t.Else body) = inside s body

  -- ---- Functions and threads

  abbrev pub returned : n.Scope → Option Kind → Option t.Return → Option p.Returned
  returned s None x = None
  returned s (Some kind) None = None
  returned s (Some kind) (Some x) = option_map (λ v. record { kind = kind; value = placed s v }) x.value

  -- parameters and the body are one scope
  abbrev pub function : t.Function → p.Function
  function x = let m = statements (with_parameters gs n.no_locals x.parameters) x.body.statements in record {
    name = x.name;
    parameters = length x.parameters;
    locals = m.scope.kinds;
    refers = m.scope.refers;
    body = m.made;
    result = returned m.scope (option_map n.kind_named x.type_name) x.body.returned;
  }

  abbrev pub thread : t.Thread → p.Thread
  thread x = let m = statements n.no_locals (body_of x.block) in record {
    name = x.name;
    locals = m.scope.kinds;
    refers = m.scope.refers;
    body = m.made;
    closing = closing_of x.block;
  }

  -- ---- Variables

  abbrev pub guard : t.Guard → p.Guard
  guard x = let number = mutex_number n.no_locals x.mutex in if x.each then p.Each number else p.By number

  abbrev pub variable : t.Persistent → p.Variable
  variable x = record {
    name = x.name;
    guard = guard x.guard;
    kind = n.kind_named x.type_name;
    refers = option_map (λ (a : n.Array). a.number) (n.referred gs x.type_name);
    length = option_map length_number x.length;
    initial = filled (element_count x.length) (map (reduced (n.kind_named x.type_name)) (numbers_of x.initialiser));
  }

  -- ---- Programs

  -- a mutex, or those of an array
  abbrev pub mutexes : t.Name → (count : Option t.Length) → List p.Mutex
  mutexes x count = replicate (element_count count) (record { name = x; length = option_map length_number count })

  abbrev pub with_item : t.Item → p.Program → p.Program
  with_item (t.MutexItem x count) q = record q { mutexes = mutexes x count ++ q.mutexes }
  with_item (t.PersistentItem x) q = record q { variables = variable x ∷ q.variables }
  with_item (t.FunctionItem x) q = record q { functions = function x ∷ q.functions }
  with_item (t.ThreadItem x) q = record q { threads = thread x ∷ q.threads }

  abbrev pub program_from : List t.Item → p.Program
  program_from [] = record { mutexes = []; variables = []; functions = []; threads = [] }
  program_from (x ∷ xs) = with_item x (program_from xs)

unfoldable pub typed_program : List t.Item → p.Program
typed_program xs = program_from (n.globals_of xs) xs
