-- What parts of a program weigh in the flat form, where each call weighs what its function weighs.
use Rattle.std.specs.Prelude.{ℕ, zero, suc, ◌+◌, ◌*◌, List, [], ◌∷◌, Option, Some, None, slice_get}
use Rattle.c_tree.specs.Exprs as e
use Rattle.c_tree.specs.Programs as p
use Rattle.c_tree.specs.Prices.{key_nodes, nodes_of}
use Rattle.c_inline.specs.declared.weight.Weights.{Weights}

-- the price of a thread is the sum of these
abbrev pub price : Weights
price = record { node = 96; expression = 16; branch = 0 }

-- weights by which a part weighs nothing only where it makes no statement
abbrev pub size : Weights
size = record { node = 1; expression = 0; branch = 1 }

abbrev pub node_weight : Weights → (nodes : ℕ) → ℕ
node_weight w nodes = w.node + w.expression * nodes

abbrev pub assign_weight : Weights → e.Lvalue → (value : ℕ) → ℕ
assign_weight w (e.ToLocal place local kind) value = node_weight w value
assign_weight w (e.ToVariable place variable kind) value = node_weight w value + node_weight w 0
assign_weight w (e.ToElement place variable kind index) value = node_weight w (nodes_of index.expr + value) + node_weight w 0

abbrev pub arguments_weight : Weights → List e.Placed → ℕ
arguments_weight w [] = 0
arguments_weight w (x ∷ xs) = node_weight w (nodes_of x.expr) + arguments_weight w xs

abbrev pub result_weight : Weights → Option p.Returned → Option e.Lvalue → ℕ
result_weight w (Some x) (Some target) = assign_weight w target (nodes_of x.value.expr)
result_weight w (Some x) None = 0
result_weight w None target = 0

-- each call weighs so much by itself, and functions weigh so much
module _ (w : Weights) (call : ℕ) (fs : List p.Function) (weight : (function : ℕ) → ℕ) where
  abbrev pub called_weight : (function : ℕ) → List e.Placed → Option e.Lvalue → ℕ
  called_weight function arguments result = elim (slice_get fs function) [
    | Some x ↦ call + (arguments_weight w arguments + weight function + result_weight w x.result result)
    | None ↦ call
  ]

  abbrev mutual
    pub statement_weight : p.Statement → ℕ
    statement_weight (p.Assign place target value) = assign_weight w target (nodes_of value.expr)
    statement_weight (p.Call place name function arguments result) = called_weight function arguments result
    statement_weight (p.If place arms otherwise) = arms_weight arms + statements_weight otherwise + w.branch
    statement_weight (p.While place condition body) = node_weight w (nodes_of condition.expr) + statements_weight body
    statement_weight (p.Do place body condition) = node_weight w (nodes_of condition.expr) + statements_weight body
    statement_weight (p.Lock place name) = node_weight w (key_nodes name)
    statement_weight (p.Unlock place name) = node_weight w (key_nodes name)

    pub statements_weight : p.Statements → ℕ
    statements_weight p.no_statement = 0
    statements_weight (p.statement_and x rest) = statement_weight x + statements_weight rest

    pub arms_weight : p.Arms → ℕ
    arms_weight p.no_arm = 0
    arms_weight (p.arm_and condition body rest) = (node_weight w (nodes_of condition.expr) + statements_weight body) + arms_weight rest

-- a function, with calls at most so deep
abbrev pub function_weight : Weights → (call : ℕ) → List p.Function → (deep : ℕ) → (function : ℕ) → ℕ
function_weight w call fs zero function = 0
function_weight w call fs (suc deep) function = elim (slice_get fs function) [
  | Some x ↦ statements_weight w call fs (function_weight w call fs deep) x.body
  | None ↦ 0
]

-- what is known of a function's weight
abbrev pub known_weight : List (Option ℕ) → (function : ℕ) → ℕ
known_weight ks function = elim (slice_get ks function) [
  | Some x ↦ elim x [ Some weight ↦ weight | None ↦ 0 ]
  | None ↦ 0
]
