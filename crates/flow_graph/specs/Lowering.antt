-- The flow graph of a flat form: one node for each step of the source, numbered through all threads in the order of the text.
use Rattle.std.specs.Prelude.{ℕ, zero, suc, ◌+◌, ◌-◌, ◌^◌, List, [], ◌∷◌, ◌++◌, length, min, Option, Some, None, ℤ, pos, negsuc}
use Rattle.ido_base.specs.declared.place.Place.{Place}
use Rattle.ido_base.specs.declared.location.Location.{Location}
use Rattle.ido_ints.specs.declared.kinds.Kind.{Kind}
use Rattle.c_tree.specs.Exprs as e
use Rattle.c_tree.specs.Programs.{Variable}
use Rattle.c_tree.specs.Flats as f
use Rattle.c_tree.specs.LockNames.{lock_names}
use Rattle.c_tree.specs.LockDiscipline.{variable_guard, expr_locals, key_locals}
use Rattle.c_tree.specs.Ranges.{range_of}
use Rattle.flow_graph.specs.declared.graph.Part.{Part}
use Rattle.flow_graph.specs.HeldKeys.{key_number}
use Rattle.flow_graph.specs.Nodes.{Action, Eval, Store, Test, Lock, Unlock, End, Node, Graph}

-- ---- What an expression reads of variables

-- what guards each variable, and the names of a thread's locks
pub record Table : Type 0 where
  pub variables : List Variable
  pub names : List e.LockName

abbrev pub table_of : f.Flat → f.Thread → Table
table_of x t = record { variables = x.variables; names = lock_names x t }

-- the number of an element: an end of an index's range, which an array's elements hold where the index fits
abbrev pub element_number : ℤ → ℕ
element_number (pos n) = min n (2 ^ 32 - 1)
element_number (negsuc n) = 0

-- the elements that an index may name, and the name whose lock guards the one that it names, where each has a lock of its own
abbrev pub elements : Table → (variable : ℕ) → (index : e.Placed) → Location
elements table variable index = record {
  variable = variable;
  lo = element_number (range_of index.expr).lo;
  hi = element_number (range_of index.expr).hi;
  key = key_number table.names (variable_guard table.variables variable) index;
}

-- a variable that is no array has one element
abbrev pub scalar : (variable : ℕ) → Location
scalar variable = record { variable = variable; lo = 0; hi = 0; key = None }

abbrev pub expr_reads : Table → e.Expr → List Location
expr_reads table (e.Constant value) = []
expr_reads table (e.Local local kind) = []
expr_reads table (e.Variable place variable kind) = scalar variable ∷ []
expr_reads table (e.Element place variable kind index_place index) =
    elements table variable (record { place = index_place; expr = index }) ∷ expr_reads table index
expr_reads table (e.Address variable index_place index) = expr_reads table index
expr_reads table (e.Referent place last local) = []
expr_reads table (e.Unary operator operand) = expr_reads table operand
expr_reads table (e.Cast kind operand) = expr_reads table operand
expr_reads table (e.Converted kind operand) = expr_reads table operand
expr_reads table (e.Binary operator left right) = expr_reads table left ++ expr_reads table right
expr_reads table (e.Conditional kind condition chosen otherwise) = expr_reads table condition ++ expr_reads table chosen ++ expr_reads table otherwise

-- ---- Nodes

-- the index of an element is read before the value
abbrev pub target_locals : e.Lvalue → List ℕ
target_locals (e.ToLocal place local kind) = []
target_locals (e.ToVariable place variable kind) = []
target_locals (e.ToElement place variable kind index) = expr_locals index.expr

abbrev pub target_reads : Table → e.Lvalue → List Location
target_reads table (e.ToLocal place local kind) = []
target_reads table (e.ToVariable place variable kind) = []
target_reads table (e.ToElement place variable kind index) = expr_reads table index.expr

abbrev pub target_local : e.Lvalue → Option ℕ
target_local (e.ToLocal place local kind) = Some local
target_local (e.ToVariable place variable kind) = None
target_local (e.ToElement place variable kind index) = None

abbrev pub eval_node : Table → Place → e.Lvalue → e.Placed → (next : ℕ) → Node
eval_node table place target value next = record {
  place = place;
  action = Eval target value next;
  uses = target_locals target ++ expr_locals value.expr;
  assigns = target_local target;
  reads = target_reads table target ++ expr_reads table value.expr;
  writes = None;
}

abbrev pub test_node : Table → Place → e.Placed → (holds fails : ℕ) → Node
test_node table place condition holds fails = record {
  place = place;
  action = Test condition holds fails;
  uses = expr_locals condition.expr;
  assigns = None;
  reads = expr_reads table condition.expr;
  writes = None;
}

-- a node that reads and writes nothing
abbrev pub plain_node : Place → Action → Node
plain_node place action = record { place = place; action = action; uses = []; assigns = None; reads = []; writes = None }

-- a node that takes a lock or gives it back reads the locals of its key
abbrev pub lock_node : Place → Action → e.LockName → Node
lock_node place action lock = record { place = place; action = action; uses = key_locals lock; assigns = None; reads = []; writes = None }

abbrev pub store_node : Place → (variable : ℕ) → Kind → Location → (next : ℕ) → Node
store_node place variable kind location next =
    record { place = place; action = Store variable kind next; uses = []; assigns = None; reads = []; writes = Some location }

-- an assignment of a variable has a second node, the store
abbrev pub assign_nodes : Table → Place → e.Lvalue → e.Placed → (first next : ℕ) → List Node
assign_nodes table place (e.ToLocal name local kind) value first next = eval_node table place (e.ToLocal name local kind) value next ∷ []
assign_nodes table place (e.ToVariable name variable kind) value first next =
    eval_node table place (e.ToVariable name variable kind) value (suc first) ∷ store_node place variable kind (scalar variable) next ∷ []
assign_nodes table place (e.ToElement name variable kind index) value first next =
    eval_node table place (e.ToElement name variable kind index) value (suc first) ∷
    store_node place variable kind (elements table variable index) next ∷ []

-- ---- How many nodes

abbrev pub assign_count : e.Lvalue → ℕ
assign_count (e.ToLocal place local kind) = 1
assign_count (e.ToVariable place variable kind) = 2
assign_count (e.ToElement place variable kind index) = 2

abbrev mutual
  pub count : f.Statement → ℕ
  count (f.Assign place target value) = assign_count target
  count (f.If place arms otherwise) = arms_count arms + statements_count otherwise
  count (f.While place condition body) = suc (statements_count body)
  count (f.Do place body condition) = suc (statements_count body)
  count (f.Lock place name) = 1
  count (f.Unlock place name) = 1

  pub statements_count : f.Statements → ℕ
  statements_count f.no_statement = 0
  statements_count (f.statement_and x rest) = count x + statements_count rest

  pub arms_count : f.Arms → ℕ
  arms_count f.no_arm = 0
  arms_count (f.arm_and condition body rest) = suc (statements_count body + arms_count rest)

-- the end is the last one
abbrev pub thread_count : f.Thread → ℕ
thread_count t = suc (statements_count t.body)

-- ---- The nodes of a part

-- where a part with so many nodes begins, of which the first has that number: one without nodes is passed over
abbrev pub entry : (nodes first next : ℕ) → ℕ
entry zero first next = next
entry (suc n) first next = first

-- the nodes of a part, of which the first has that number; after the part the thread goes on at `next`
abbrev mutual
  pub statement_nodes : Table → f.Statement → (first next : ℕ) → List Node
  statement_nodes table (f.Assign place target value) first next = assign_nodes table place target value first next
  statement_nodes table (f.If place arms otherwise) first next =
      arms_nodes table arms place (entry (statements_count otherwise) (first + arms_count arms) next) first next
      ++ statements_nodes table otherwise (first + arms_count arms) next
  -- the body goes back to the test
  statement_nodes table (f.While place condition body) first next =
      test_node table place condition (entry (statements_count body) (suc first) first) next ∷ statements_nodes table body (suc first) first
  -- the test stands after the body
  statement_nodes table (f.Do place body condition) first next =
      statements_nodes table body first (first + statements_count body) ++ test_node table place condition first next ∷ []
  statement_nodes table (f.Lock place lock) first next = lock_node place (Lock lock next) lock ∷ []
  statement_nodes table (f.Unlock place lock) first next = lock_node place (Unlock lock next) lock ∷ []

  pub statements_nodes : Table → f.Statements → (first next : ℕ) → List Node
  statements_nodes table f.no_statement first next = []
  statements_nodes table (f.statement_and x rest) first next =
      statement_nodes table x first (entry (statements_count rest) (first + count x) next) ++ statements_nodes table rest (first + count x) next

  -- the conditions of an `if` have the place of its first word; where none holds the thread goes on at `last`
  pub arms_nodes : Table → f.Arms → Place → (last first next : ℕ) → List Node
  arms_nodes table f.no_arm place last first next = []
  arms_nodes table (f.arm_and condition body rest) place last first next =
      test_node table place condition (entry (statements_count body) (suc first) next) (entry (arms_count rest) (suc first + statements_count body) last) ∷
      statements_nodes table body (suc first) next ++ arms_nodes table rest place last (suc first + statements_count body) next

-- the end has the place of the closing brace
abbrev pub thread_nodes : Table → f.Thread → (first : ℕ) → List Node
thread_nodes table t first = statements_nodes table t.body first (first + statements_count t.body) ++ plain_node t.closing End ∷ []

abbrev pub threads_nodes : f.Flat → List f.Thread → (first : ℕ) → List Node
threads_nodes x [] first = []
threads_nodes x (t ∷ ts) first = thread_nodes (table_of x t) t first ++ threads_nodes x ts (first + thread_count t)

-- the thread's own nodes and locals
abbrev pub part : f.Thread → (first : ℕ) → Part
part t first = record { first = first; end = first + thread_count t; locals = length t.locals }

abbrev pub parts : List f.Thread → (first : ℕ) → List Part
parts [] first = []
parts (t ∷ ts) first = part t first ∷ parts ts (first + thread_count t)

-- ---- The graph

unfoldable pub lowered : f.Flat → Graph
lowered x = record { nodes = threads_nodes x x.threads 0; threads = parts x.threads 0 }
