-- What an expression and a thread of the flat form cost.
use Rattle.std.specs.Prelude.{ℕ, ◌+◌, ◌*◌, max, Some, None, Bool, true, false, ◌==◌, if◌then◌else◌}
use Rattle.ido_ints.specs.declared.operators.Binary.{Binary}
use Rattle.ido_ints.specs.declared.operators.Binary.TheVariants as b
use Rattle.c_tree.specs.Exprs as e
use Rattle.c_tree.specs.Flats as f

-- ---- Nodes of an expression: numbers, names, elements and their addresses, operators and casts

abbrev pub nodes_of : e.Expr → ℕ
nodes_of (e.Constant x) = 1
nodes_of (e.Local local kind) = 1
nodes_of (e.Variable place variable kind) = 1
nodes_of (e.Element place variable kind index_place index) = 1 + nodes_of index
nodes_of (e.Address variable index_place index) = 1 + nodes_of index
nodes_of (e.Referent place last local) = 1
nodes_of (e.Unary operator operand) = 1 + nodes_of operand
nodes_of (e.Cast kind operand) = 1 + nodes_of operand
nodes_of (e.Converted kind operand) = nodes_of operand
nodes_of (e.Binary operator left right) = 1 + nodes_of left + nodes_of right
nodes_of (e.Conditional kind condition chosen otherwise) = 1 + nodes_of condition + nodes_of chosen + nodes_of otherwise

-- ---- Temporaries that an expression needs

-- the need of two operands that are held at once
abbrev pub need_of_both : ℕ → ℕ → ℕ
need_of_both left right = if left == right then left + 1 else max left right

-- the right operand of `&&` and `||` is held alone
abbrev pub is_logical : Binary → Bool
is_logical b.LogicalAnd = true
is_logical b.LogicalOr = true
is_logical _ = false

abbrev pub need_of : e.Expr → ℕ
need_of (e.Constant x) = 1
need_of (e.Local local kind) = 1
need_of (e.Variable place variable kind) = 1
need_of (e.Element place variable kind index_place index) = need_of index
need_of (e.Address variable index_place index) = need_of index
need_of (e.Referent place last local) = 1
need_of (e.Unary operator operand) = need_of operand
need_of (e.Cast kind operand) = need_of operand
need_of (e.Converted kind operand) = need_of operand
need_of (e.Binary operator left right) = if is_logical operator then max (need_of left) (need_of right) else need_of_both (need_of left) (need_of right)
need_of (e.Conditional kind condition chosen otherwise) = max (need_of condition) (max (need_of chosen) (need_of otherwise))

-- ---- The price of a thread

-- the price of a node with so many nodes of expressions
abbrev pub node_price : ℕ → ℕ
node_price nodes = 96 + 16 * nodes

-- an assignment of a variable has a second node, the store
abbrev pub assign_price : e.Lvalue → (value : ℕ) → ℕ
assign_price (e.ToLocal place local kind) value = node_price value
assign_price (e.ToVariable place variable kind) value = node_price value + node_price 0
assign_price (e.ToElement place variable kind index) value = node_price (nodes_of index.expr + value) + node_price 0

-- of the key of a lock's name, which is evaluated where it is locked and where it is unlocked
abbrev pub key_nodes : e.LockName → ℕ
key_nodes x = elim x.key [ None ↦ 0 | Some key ↦ nodes_of key.expr ]

abbrev mutual
  pub statement_price : f.Statement → ℕ
  statement_price (f.Assign place x value) = assign_price x (nodes_of value.expr)
  statement_price (f.If place arms otherwise) = arms_price arms + statements_price otherwise
  statement_price (f.While place condition body) = node_price (nodes_of condition.expr) + statements_price body
  statement_price (f.Do place body condition) = node_price (nodes_of condition.expr) + statements_price body
  statement_price (f.Lock place lock) = node_price (key_nodes lock)
  statement_price (f.Unlock place lock) = node_price (key_nodes lock)

  pub statements_price : f.Statements → ℕ
  statements_price f.no_statement = 0
  statements_price (f.statement_and x rest) = statement_price x + statements_price rest

  pub arms_price : f.Arms → ℕ
  arms_price f.no_arm = 0
  arms_price (f.arm_and condition body rest) = (node_price (nodes_of condition.expr) + statements_price body) + arms_price rest

-- the price of a thread, with the node of its end
abbrev pub thread_price : f.Thread → ℕ
thread_price x = statements_price x.body + node_price 0
