-- A store node writes elements of its variable that are there.
use Rattle.std.proofs.Common.{◌≡◌, refl, ℕ, suc, ◌+◌, ◌<◌, List, [], ◌∷◌, ◌++◌, length, arith, Option, Some, None}
use Rattle.std.specs.Prelude.{slice_get, is_some, ℤ, pos, negsuc, ◌-ℤ◌, ◌≤ℤ◌, true, false}
use Rattle.std.specs.List.{AllByRecursion}
use Rattle.std.proofs.lemmas.Int.{ints}
use Rattle.ido_base.specs.declared.place.Place.{Place}
use Rattle.ido_base.specs.declared.location.Location.{Location}
use Rattle.ido_ints.specs.declared.kinds.Kind.{Kind}
use Rattle.c_tree.specs.Exprs as e
use Rattle.c_tree.specs.Flats as f
use Rattle.c_tree.specs.Programs.{Variable}
use Rattle.c_tree.specs.Ranges as ranges
use Rattle.c_tree.specs.Ranges.{Interval, range_of}
use Rattle.c_tree.specs.WellFormed.{elements_in, IsDeclared, IsVariable, IndexFits, IsFlatTarget, IsFlatStatement, AreFlatStatements, AreFlatArms}
use Rattle.c_ranges.proofs.Public.{elements_is}
use Rattle.flow_graph.specs.Nodes.{Action, Eval, Store, Test, Lock, Unlock, End, Node}
use Rattle.c_tree.specs.LockNames.{lock_names}
use Rattle.flow_graph.specs.Lowering.{Table, table_of, scalar, elements, element_number, test_node, plain_node}
use Rattle.flow_graph.specs.Lowering.{assign_nodes, count, statements_count, arms_count, thread_count}
use Rattle.flow_graph.specs.Lowering.{entry, statement_nodes, statements_nodes, arms_nodes, thread_nodes, threads_nodes}
use Rattle.flow_graph.proofs.Public.{all_at}

-- ---- The end of an index's range

upper_end : (i j : Interval) → ranges.lies_in i j ≡ true → i.hi ≤ℤ j.hi
upper_end i j h = grind (arith, ints)

below_count : (hi : ℤ) (count : ℕ) → hi ≤ℤ (pos count -ℤ pos 1) → 0 < count → element_number hi < count
below_count (pos m) count h some = let less : m < count = omega (arith, ints) in omega arith
below_count (negsuc m) count h some = some

one_element : (n : Option ℕ) → is_some n ≡ false → 0 < elements_in n
one_element None h = omega arith
one_element (Some n) h = cc

-- ---- Nodes

module _ (x : f.Flat) (variables : AllByRecursion (IsVariable x.mutexes) x.variables) where
  -- the node writes these elements of the variable, which is of the kind
  pub record StoresElements (n : Node) (variable : ℕ) (kind : Kind) : Type 0 where
    pub location : Location
    pub writes : n.writes ≡ Some location
    pub variable_is : location.variable ≡ variable
    pub it : Variable
    pub found : slice_get x.variables variable ≡ Some it
    pub kind_is : it.kind ≡ kind
    pub within : location.hi < elements_in it.length

  abbrev pub StoresAs : Node → Action → Type 0
  StoresAs n (Eval target value next) = Unit {0}
  StoresAs n (Store variable kind next) = StoresElements n variable kind
  StoresAs n (Test condition holds fails) = Unit {0}
  StoresAs n (Lock lock next) = Unit {0}
  StoresAs n (Unlock lock next) = Unit {0}
  StoresAs n End = Unit {0}

  abbrev AllStore : List Node → Type 0
  AllStore ns = AllByRecursion (λ (n : Node). StoresAs n n.action) ns

  joined : (ns ms : List Node) → AllStore ns → AllStore ms → AllStore (ns ++ ms)
  joined [] ms h k = k
  joined (n ∷ ns) ms h k = (h.0, joined ns ms h.1 k)

  element_within : (variable : ℕ) (kind : Kind) (place : Place) (index : e.Expr) (d : IsDeclared x.variables variable kind true) →
      IndexFits x.variables variable place index → element_number (range_of index).hi < elements_in d.it.length
  element_within variable kind place index d fit =
      let n = ranges.elements_of x.variables variable in
      let count : n ≡ elements_in d.it.length = elements_is x.variables variable d.it d.found d.array in
      let some : 0 < elements_in d.it.length =
      (all_at (IsVariable x.mutexes) x.variables variable d.it variables d.found).not_empty in
      let high = upper_end (range_of index) (ranges.interval (pos 0) (pos n -ℤ pos 1)) fit in
      let small : element_number (range_of index).hi < n = below_count (range_of index).hi n high (omega (arith, count, some)) in
      omega (arith, small, count)

  abbrev with_names : List e.LockName → Table
  with_names names = record { variables = x.variables; names = names }

  module _ (ks : List Kind) where
    stores_assign : (names : List e.LockName) (target : e.Lvalue) (place : Place) (value : e.Placed) (first next : ℕ) → IsFlatTarget x ks target →
        AllStore (assign_nodes (with_names names) place target value first next)
    stores_assign names (e.ToLocal name local kind) place value first next t = (tt, tt)
    stores_assign names (e.ToVariable name variable kind) place value first next t = (
      tt,
      (
        record {
          location = scalar variable;
          writes = refl;
          variable_is = refl;
          it = t.0.it;
          found = t.0.found;
          kind_is = t.0.kind;
          within = one_element t.0.it.length t.0.array;
        },
        tt,
      ),
    )
    stores_assign names (e.ToElement name variable kind index) place value first next t = (
      tt,
      (
        record {
          location = elements (with_names names) variable index;
          writes = refl;
          variable_is = refl;
          it = t.0.0.it;
          found = t.0.0.found;
          kind_is = t.0.0.kind;
          within = element_within variable kind index.place index.expr t.0.0 t.1.0;
        },
        tt,
      ),
    )

    mutual
      stored : (names : List e.LockName) (y : f.Statement) (first next : ℕ) → IsFlatStatement x ks y →
          AllStore (statement_nodes (with_names names) y first next)
      stored names (f.Assign place target value) first next w = stores_assign names target place value first next w.0
      stored names (f.If place arms otherwise) first next w =
          let last = entry (statements_count otherwise) (first + arms_count arms) next in
          joined (arms_nodes (with_names names) arms place last first next) (statements_nodes (with_names names) otherwise (first + arms_count arms) next)
          (stored_arms names arms place last first next w.1) (stored_all names otherwise (first + arms_count arms) next w.2)
      stored names (f.While place condition body) first next w = (tt, stored_all names body (suc first) first w.1)
      stored names (f.Do place body condition) first next w =
          joined (statements_nodes (with_names names) body first (first + statements_count body)) (test_node (with_names names) place condition first next ∷ [])
          (stored_all names body first (first + statements_count body) w.0) (tt, tt)
      stored names (f.Lock place name) first next w = (tt, tt)
      stored names (f.Unlock place name) first next w = (tt, tt)

      stored_all : (names : List e.LockName) (ys : f.Statements) (first next : ℕ) → AreFlatStatements x ks ys →
          AllStore (statements_nodes (with_names names) ys first next)
      stored_all names f.no_statement first next w = tt
      stored_all names (f.statement_and y rest) first next w =
          let further = entry (statements_count rest) (first + count y) next in
          joined (statement_nodes (with_names names) y first further) (statements_nodes (with_names names) rest (first + count y) next)
          (stored names y first further w.0) (stored_all names rest (first + count y) next w.1)

      stored_arms : (names : List e.LockName) (arms : f.Arms) (place : Place) (last first next : ℕ) → AreFlatArms x ks arms →
          AllStore (arms_nodes (with_names names) arms place last first next)
      stored_arms names f.no_arm place last first next w = tt
      stored_arms names (f.arm_and condition body rest) place last first next w =
          let further = suc first + statements_count body in (
            tt,
            joined (statements_nodes (with_names names) body (suc first) next) (arms_nodes (with_names names) rest place last further next)
                (stored_all names body (suc first) next w.1) (stored_arms names rest place last further next w.2),
          )

  stored_threads : (ts : List f.Thread) (first : ℕ) → AllByRecursion (λ (t : f.Thread). AreFlatStatements x t.locals t.body) ts →
      AllStore (threads_nodes x ts first)
  stored_threads [] first w = tt
  stored_threads (t ∷ ts) first w =
      let end = first + statements_count t.body in
      joined (thread_nodes (table_of x t) t first) (threads_nodes x ts (first + thread_count t))
      (joined (statements_nodes (table_of x t) t.body first end) (plain_node t.closing End ∷ [])
      (stored_all t.locals (lock_names x t) t.body first end w.0) (tt, tt))
      (stored_threads ts (first + thread_count t) w.1)

  pub stores_elements : (node : ℕ) (n : Node) → AllByRecursion (λ (t : f.Thread). AreFlatStatements x t.locals t.body) x.threads →
      slice_get (threads_nodes x x.threads 0) node ≡ Some n → StoresAs n n.action
  stores_elements node n w at = all_at (λ (m : Node). StoresAs m m.action) (threads_nodes x x.threads 0) node n (stored_threads x.threads 0 w) at
