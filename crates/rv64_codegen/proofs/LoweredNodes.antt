-- Nodes of a well formed flat form's graph: what they name is there, they lead to nodes of their thread, and their prices are no more than the thread's.
use Rattle.std.proofs.Common.{◌≡◌, ⊎_elim, refl, ℕ, zero, suc, ◌+◌, ◌-◌, ◌<◌, ◌≤◌, List, [], ◌∷◌, ◌++◌, length, ◌∙◌, ap, ap₂, sym, subst, arith, Some, None}
use Rattle.std.proofs.Common.{true}
use Rattle.std.specs.Prelude.{slice_get, sum_by, map, ℤ, pos, negsuc, ◌-ℤ◌, ◌≤ℤ◌}
use Rattle.std.specs.List.{AllByRecursion}
use Rattle.std.proofs.lemmas.Int.{ints}
use Rattle.std.proofs.lemmas.Bool.{cases_lt}
use Rattle.std.proofs.lemmas.List.Sums.{sum_by-append, sum_by-cons}
use Rattle.ido_base.specs.declared.place.Place.{Place}
use Rattle.ido_base.specs.declared.location.Location.{Location}
use Rattle.ido_base.specs.declared.location.Shape.{Shape}
use Rattle.ido_ints.specs.declared.kinds.Kind.{Kind}
use Rattle.c_tree.specs.Exprs as e
use Rattle.c_tree.specs.Flats as f
use Rattle.c_tree.specs.Programs as p
use Rattle.c_tree.specs.Prices.{node_price, assign_price, statement_price, statements_price, arms_price, thread_price, nodes_of, key_nodes}
use Rattle.c_tree.specs.Ranges as ranges
use Rattle.c_tree.specs.Ranges.{Interval, range_of}
use Rattle.c_tree.specs.WellFormed.{elements_in, shape_of, IsDeclared, IsVariable, IndexFits, IsFlatTarget, IsFlatPlaced, IsFlatStatement, AreFlatStatements}
use Rattle.c_tree.specs.WellFormed.{AreFlatArms, IsFlatLockName}
use Rattle.c_ranges.proofs.Public.{elements_is}
use Rattle.memory_layout.specs.Variables.{elements_of}
use Rattle.flow_graph.specs.declared.graph.Part.{Part}
use Rattle.flow_graph.specs.Nodes.{Action, Eval, Store, Test, Lock, Unlock, End, Node}
use Rattle.flow_graph.specs.Lowering.{table_of, Table, scalar, elements, element_number, test_node, plain_node}
use Rattle.flow_graph.specs.Lowering.{assign_nodes, assign_count, count, statements_count, arms_count}
use Rattle.flow_graph.specs.Lowering.{thread_count, entry, statement_nodes, statements_nodes, arms_nodes, thread_nodes, threads_nodes, part, parts, lock_node}
use Rattle.flow_graph.proofs.Public.{length-thread_nodes}
use Rattle.region_cutter.specs.Places.{WritesAnElement}
use Rattle.thread_code.specs.Programs.{action_nodes}

-- ---- Prices

abbrev pub price_of : Node → ℕ
price_of n = node_price (action_nodes n.action)

abbrev pub prices : List Node → ℕ
prices ns = sum_by price_of ns

prices_append : (ns ms : List Node) → prices (ns ++ ms) ≡ prices ns + prices ms
prices_append ns ms = sum_by-append price_of ns ms

prices_one : (n : Node) → prices (n ∷ []) ≡ price_of n
prices_one n = omega arith

price_assign : (table : Table) (target : e.Lvalue) (place : Place) (value : e.Placed) (first next : ℕ) →
    prices (assign_nodes table place target value first next) ≡ assign_price target (nodes_of value.expr)
price_assign table (e.ToLocal name local kind) place value first next = omega arith
price_assign table (e.ToVariable name variable kind) place value first next = omega arith
price_assign table (e.ToElement name variable kind index) place value first next = omega arith

mutual
  price_statement : (table : Table) (y : f.Statement) (first next : ℕ) → prices (statement_nodes table y first next) ≤ statement_price y
  price_statement table (f.Assign place target value) first next = omega (arith, price_assign table target place value first next)
  price_statement table (f.If place arms otherwise) first next =
      let last = entry (statements_count otherwise) (first + arms_count arms) next in
      omega (
        arith,
        prices_append (arms_nodes table arms place last first next) (statements_nodes table otherwise (first + arms_count arms) next),
        price_arms table arms place last first next,
        price_statements table otherwise (first + arms_count arms) next,
      )
  price_statement table (f.While place condition body) first next =
      omega (
        arith,
        sum_by-cons price_of (test_node table place condition (entry (statements_count body) (suc first) first) next)
            (statements_nodes table body (suc first) first),
        price_statements table body (suc first) first,
      )
  price_statement table (f.Do place body condition) first next =
      omega (
        arith,
        prices_append (statements_nodes table body first (first + statements_count body)) (test_node table place condition first next ∷ []),
        price_statements table body first (first + statements_count body),
        prices_one (test_node table place condition first next),
      )
  price_statement table (f.Lock place name) first next =
      let one : prices (statement_nodes table (f.Lock place name) first next) ≡ node_price (key_nodes name) =
      prices_one (lock_node place (Lock name next) name) in omega (arith, one)
  price_statement table (f.Unlock place name) first next =
      let one : prices (statement_nodes table (f.Unlock place name) first next) ≡ node_price (key_nodes name) =
      prices_one (lock_node place (Unlock name next) name) in omega (arith, one)

  price_statements : (table : Table) (ys : f.Statements) (first next : ℕ) → prices (statements_nodes table ys first next) ≤ statements_price ys
  price_statements table f.no_statement first next = omega arith
  price_statements table (f.statement_and y rest) first next =
      let after = entry (statements_count rest) (first + count y) next in
      omega (
        arith,
        prices_append (statement_nodes table y first after) (statements_nodes table rest (first + count y) next),
        price_statement table y first after,
        price_statements table rest (first + count y) next,
      )

  price_arms : (table : Table) (arms : f.Arms) (place : Place) (last first next : ℕ) → prices (arms_nodes table arms place last first next) ≤ arms_price arms
  price_arms table f.no_arm place last first next = omega arith
  price_arms table (f.arm_and condition body rest) place last first next =
      let more = suc first + statements_count body in
      omega (
        arith,
        sum_by-cons price_of (test_node table place condition (entry (statements_count body) (suc first) next) (entry (arms_count rest) more last))
            (statements_nodes table body (suc first) next ++ arms_nodes table rest place last more next),
        prices_append (statements_nodes table body (suc first) next) (arms_nodes table rest place last more next),
        price_statements table body (suc first) next,
        price_arms table rest place last more next,
      )

pub price_thread : (table : Table) (t : f.Thread) (first : ℕ) → prices (thread_nodes table t first) ≤ thread_price t
price_thread table t first =
    omega (
      arith,
      prices_append (statements_nodes table t.body first (first + statements_count t.body)) (plain_node t.closing End ∷ []),
      price_statements table t.body first (first + statements_count t.body),
      prices_one (plain_node t.closing End),
    )

-- ---- What is written

pub elements_there : (vs : List p.Variable) (v : ℕ) (it : p.Variable) → slice_get vs v ≡ Some it → elements_of (map shape_of vs) v ≡ elements_in it.length
elements_there [] v it g = cc
elements_there (w ∷ vs) zero it g = let same : w ≡ it = cc in ap (λ (z : p.Variable). elements_in z.length) same
elements_there (w ∷ vs) (suc v) it g = elements_there vs v it g

pub shape_there : (vs : List p.Variable) (v : ℕ) (it : p.Variable) → slice_get vs v ≡ Some it → v < length (map shape_of vs)
shape_there [] v it g = cc
shape_there (w ∷ vs) zero it g = omega arith
shape_there (w ∷ vs) (suc v) it g = omega (arith, shape_there vs v it g)

none_written : (shapes : List Shape) (n : Node) → n.writes ≡ None → WritesAnElement shapes n
none_written shapes n none = record {
  variable = λ written is _. absurd (let both : None ≡ Some written = sym none ∙ is in cc);
  element = λ written is _. absurd (let both : None ≡ Some written = sym none ∙ is in cc);
}

one_written : (shapes : List Shape) (n : Node) (l : Location) → n.writes ≡ Some l → l.variable < length shapes →
    (l.lo ≡ l.hi → l.lo < elements_of shapes l.variable) →
    WritesAnElement shapes n
one_written shapes n l there v within = record {
  variable = λ written is _. let same : l ≡ written = (let both : Some l ≡ Some written = sym there ∙ is in cc) in
      let P : Location → Type 0 = λ z. z.variable < length shapes in subst P same v;
  element = λ written is single. let same : l ≡ written = (let both : Some l ≡ Some written = sym there ∙ is in cc) in
      let P : Location → Type 0 = λ z. z.lo ≡ z.hi → z.lo < elements_of shapes z.variable in subst P same within single;
}

-- a range whose end is below the count of elements
upper_end : (i j : Interval) → ranges.lies_in i j ≡ true → i.hi ≤ℤ j.hi
upper_end i j h = grind (arith, ints)

below_count : (hi : ℤ) (count : ℕ) → hi ≤ℤ (pos count -ℤ pos 1) → 0 < count → element_number hi < count
below_count (pos m) count h some = let less : m < count = omega (arith, ints) in omega arith
below_count (negsuc m) count h some = some

module _ (x : f.Flat) (ks : List Kind) (lo hi : ℕ) (variables : AllByRecursion (IsVariable x.mutexes) x.variables) where
  -- ---- Nodes

  abbrev pub Within : ℕ → Type 0
  Within n = (lo ≤ n) × (n < hi)

  abbrev pub IsFormed : Action → Type 0
  IsFormed (Eval target value next) = IsFlatTarget x ks target × (IsFlatPlaced x ks value × Within next)
  IsFormed (Store variable kind next) = Within next
  IsFormed (Test condition holds fails) = IsFlatPlaced x ks condition × (Within holds × Within fails)
  IsFormed (Lock lock next) = IsFlatLockName x.mutexes ks lock × Within next
  IsFormed (Unlock lock next) = IsFlatLockName x.mutexes ks lock × Within next
  IsFormed End = Unit {0}

  pub record IsLoweredNode (n : Node) : Type 0 where
    pub formed : IsFormed n.action
    pub writes : WritesAnElement (map shape_of x.variables) n

  abbrev pub AllSound : List Node → Type 0
  AllSound ns = AllByRecursion IsLoweredNode ns

  joined : (ns ms : List Node) → AllSound ns → AllSound ms → AllSound (ns ++ ms)
  joined [] ms h k = k
  joined (n ∷ ns) ms h k = (h.0, joined ns ms h.1 k)

  entry_within : (n first next : ℕ) → Within next → lo ≤ first → first + n ≤ hi → Within (entry n first next)
  entry_within zero first next w a b = w
  entry_within (suc n) first next w a b = (a, omega (arith, b))

  variable_at : (vs : List p.Variable) (v : ℕ) (it : p.Variable) → AllByRecursion (IsVariable x.mutexes) vs → slice_get vs v ≡ Some it →
      0 < elements_in it.length
  variable_at [] v it h g = cc
  variable_at (w ∷ vs) zero it h g = let same : w ≡ it = cc in
      let P : p.Variable → Type 0 = λ z. 0 < elements_in z.length in subst P same h.0.not_empty
  variable_at (w ∷ vs) (suc v) it h g = variable_at vs v it h.1 g

  scalar_there : (variable : ℕ) (it : p.Variable) → slice_get x.variables variable ≡ Some it → 0 < elements_of (map shape_of x.variables) variable
  scalar_there variable it found = omega (arith, elements_there x.variables variable it found, variable_at x.variables variable it variables found)

  element_there : (variable : ℕ) (kind : Kind) (place : Place) (index : e.Expr) → IsDeclared x.variables variable kind true →
      IndexFits x.variables variable place index → element_number (range_of index).lo ≡ element_number (range_of index).hi →
      element_number (range_of index).lo < elements_of (map shape_of x.variables) variable
  element_there variable kind place index d fit single =
      let r = range_of index in
      let n = ranges.elements_of x.variables variable in
      let count : n ≡ elements_in d.it.length = elements_is x.variables variable d.it d.found d.array in
      let same : elements_of (map shape_of x.variables) variable ≡ elements_in d.it.length = elements_there x.variables variable d.it d.found in
      let some : 0 < elements_in d.it.length = variable_at x.variables variable d.it variables d.found in
      let high = upper_end r (ranges.interval (pos 0) (pos n -ℤ pos 1)) fit in
      let small : element_number r.hi < n = below_count r.hi n high (omega (arith, count, some)) in
      omega (arith, single, small, count, same)

  sound_assign : (table : Table) (target : e.Lvalue) (place : Place) (value : e.Placed) (first next : ℕ) → IsFlatTarget x ks target →
      IsFlatPlaced x ks value → lo ≤ first →
      first + assign_count target ≤ hi → Within next → AllSound (assign_nodes table place target value first next)
  sound_assign table (e.ToLocal name local kind) place value first next t v a b w =
      (record { formed = (t, (v, w)); writes = none_written _ _ refl }, tt)
  sound_assign table (e.ToVariable name variable kind) place value first next t v a b w = (
    record { formed = (t, (v, (omega (arith, a), omega (arith, b)))); writes = none_written _ _ refl },
    (
      record {
        formed = w;
        writes = one_written _ _ (scalar variable) refl (shape_there x.variables variable t.0.it t.0.found)
            (λ _. scalar_there variable t.0.it t.0.found);
      },
      tt,
    ),
  )
  sound_assign table (e.ToElement name variable kind index) place value first next t v a b w = (
    record { formed = (t, (v, (omega (arith, a), omega (arith, b)))); writes = none_written _ _ refl },
    (
      record {
        formed = w;
        writes = one_written _ _ (elements table variable index) refl (shape_there x.variables variable t.0.0.it t.0.0.found)
            (element_there variable kind index.place index.expr t.0.0 t.1.0);
      },
      tt,
    ),
  )

  sound_test : (table : Table) (place : Place) (condition : e.Placed) (holds fails : ℕ) → IsFlatPlaced x ks condition → Within holds → Within fails →
      IsLoweredNode (test_node table place condition holds fails)
  sound_test table place condition holds fails c h k = record { formed = (c, (h, k)); writes = none_written _ _ refl }

  mutual
    sound : (table : Table) (y : f.Statement) (first next : ℕ) → IsFlatStatement x ks y → lo ≤ first → first + count y ≤ hi → Within next →
        AllSound (statement_nodes table y first next)
    sound table (f.Assign place target value) first next g a b w = sound_assign table target place value first next g.0 g.1 a b w
    sound table (f.If place arms otherwise) first next g a b w =
        let other = first + arms_count arms in
        joined _ _
        (sound_arms table arms place (entry (statements_count otherwise) other next) first next g.1 a (omega (arith, b))
        (entry_within (statements_count otherwise) other next w (omega (arith, a)) (omega (arith, b))) w)
        (sound_all table otherwise other next g.2 (omega (arith, a)) (omega (arith, b)) w)
    sound table (f.While place condition body) first next g a b w =
        let here : Within first = (a, omega (arith, b)) in (
          sound_test table place condition (entry (statements_count body) (suc first) first) next g.0
              (entry_within (statements_count body) (suc first) first here (omega (arith, a)) (omega (arith, b))) w,
          sound_all table body (suc first) first g.1 (omega (arith, a)) (omega (arith, b)) here,
        )
    sound table (f.Do place body condition) first next g a b w =
        let test = first + statements_count body in
        let there : Within test = (omega (arith, a), omega (arith, b)) in
        let here : Within first = (a, omega (arith, b)) in
        joined _ _ (sound_all table body first test g.0 a (omega (arith, b)) there) (sound_test table place condition first next g.1 here w, tt)
    sound table (f.Lock place name) first next g a b w = (record { formed = (g, w); writes = none_written _ _ refl }, tt)
    sound table (f.Unlock place name) first next g a b w = (record { formed = (g, w); writes = none_written _ _ refl }, tt)

    sound_all : (table : Table) (ys : f.Statements) (first next : ℕ) → AreFlatStatements x ks ys → lo ≤ first → first + statements_count ys ≤ hi → Within next →
        AllSound (statements_nodes table ys first next)
    sound_all table f.no_statement first next g a b w = tt
    sound_all table (f.statement_and y rest) first next g a b w =
        let other = first + count y in
        joined _ _
        (sound table y first (entry (statements_count rest) other next) g.0 a (omega (arith, b))
        (entry_within (statements_count rest) other next w (omega (arith, a)) (omega (arith, b))))
        (sound_all table rest other next g.1 (omega (arith, a)) (omega (arith, b)) w)

    sound_arms : (table : Table) (arms : f.Arms) (place : Place) (last first next : ℕ) → AreFlatArms x ks arms → lo ≤ first → first + arms_count arms ≤ hi →
        Within last → Within next → AllSound (arms_nodes table arms place last first next)
    sound_arms table f.no_arm place last first next g a b l w = tt
    sound_arms table (f.arm_and condition body rest) place last first next g a b l w =
        let more = suc first + statements_count body in (
          sound_test table place condition (entry (statements_count body) (suc first) next) (entry (arms_count rest) more last) g.0
              (entry_within (statements_count body) (suc first) next w (omega (arith, a)) (omega (arith, b)))
              (entry_within (arms_count rest) more last l (omega (arith, a)) (omega (arith, b))),
          joined _ _ (sound_all table body (suc first) next g.1 (omega (arith, a)) (omega (arith, b)) w)
              (sound_arms table rest place last more next g.2 (omega (arith, a)) (omega (arith, b)) l w),
        )

  pub sound_thread : (table : Table) (t : f.Thread) (first : ℕ) → AreFlatStatements x ks t.body → lo ≤ first → first + thread_count t ≤ hi →
      AllSound (thread_nodes table t first)
  sound_thread table t first g a b =
      let end = first + statements_count t.body in
      joined _ _ (sound_all table t.body first end g a (omega (arith, b)) (omega (arith, a), omega (arith, b)))
      (record { formed = tt; writes = none_written _ _ refl }, tt)

pub sound_at : (x : f.Flat) (ks : List Kind) (lo hi : ℕ) (v : AllByRecursion (IsVariable x.mutexes) x.variables) (ns : List Node) (k : ℕ) (n : Node) →
    AllSound x ks lo hi v ns → slice_get ns k ≡ Some n → IsLoweredNode x ks lo hi v n
sound_at x ks lo hi v [] k n h g = cc
sound_at x ks lo hi v (m ∷ ns) zero n h g = let same : m ≡ n = cc in subst (IsLoweredNode x ks lo hi v) same h.0
sound_at x ks lo hi v (m ∷ ns) (suc k) n h g = sound_at x ks lo hi v ns k n h.1 g

-- ---- Where threads stand among all nodes

get_prefix : {X : Type 0} (xs ys : List X) (k : ℕ) → k < length xs → slice_get (xs ++ ys) k ≡ slice_get xs k
get_prefix [] ys k h = absurd (omega (arith, h))
get_prefix (y ∷ xs) ys zero h = refl
get_prefix (y ∷ xs) ys (suc k) h = get_prefix xs ys k (omega (arith, h))

get_suffix : {X : Type 0} (xs ys : List X) (n k : ℕ) → n ≡ length xs → slice_get (xs ++ ys) (n + k) ≡ slice_get ys k
get_suffix [] ys n k e = ap (slice_get ys) (omega (arith, e))
get_suffix (y ∷ xs) ys n k e =
    let s : n + k ≡ suc (length xs + k) = omega (arith, e) in
    ap (slice_get (y ∷ (xs ++ ys))) s ∙ get_suffix xs ys (length xs) k refl

pub part_is : (ts : List f.Thread) (first k : ℕ) (t : f.Thread) (q : Part) → slice_get ts k ≡ Some t → slice_get (parts ts first) k ≡ Some q →
    q ≡ part t q.first
part_is [] first k t q g h = cc
part_is (u ∷ us) first zero t q g h =
    let same : u ≡ t = cc in
    let here : part u first ≡ q = cc in
    let there : part t first ≡ q = ap (λ (z : f.Thread). part z first) (sym same) ∙ here in
    subst (λ (z : Part). z ≡ part t z.first) there refl
part_is (u ∷ us) first (suc k) t q g h = part_is us (first + thread_count u) k t q g h

pub part_from : (ts : List f.Thread) (first k : ℕ) (q : Part) → slice_get (parts ts first) k ≡ Some q → first ≤ q.first
part_from [] first k q h = cc
part_from (u ∷ us) first zero q h = let here : part u first ≡ q = cc in let e : first ≡ q.first = ap (λ (z : Part). z.first) here in omega (arith, e)
part_from (u ∷ us) first (suc k) q h = omega (arith, part_from us (first + thread_count u) k q h)

pub node_of_thread : (x : f.Flat) (ts : List f.Thread) (first k : ℕ) (t : f.Thread) (q : Part) (i j : ℕ) → slice_get ts k ≡ Some t →
    slice_get (parts ts first) k ≡ Some q →
    i < thread_count t → first + j ≡ q.first + i → slice_get (threads_nodes x ts first) j ≡ slice_get (thread_nodes (table_of x t) t q.first) i
node_of_thread x [] first k t q i j g h l s = cc
node_of_thread x (u ∷ us) first zero t q i j g h l s =
    let same : u ≡ t = cc in
    let here : part u first ≡ q = cc in
    let e : first ≡ q.first = ap (λ (z : Part). z.first) here in
    let there : j ≡ i = omega (arith, s, e) in
    let short : i < length (thread_nodes (table_of x u) u first) =
    omega (arith, l, length-thread_nodes (table_of x u) u first, ap (λ (z : f.Thread). thread_count z) same) in
    ap (slice_get (thread_nodes (table_of x u) u first ++ threads_nodes x us (first + thread_count u))) there
    ∙ get_prefix (thread_nodes (table_of x u) u first) (threads_nodes x us (first + thread_count u)) i short
    ∙ ap₂ (λ (z : f.Thread) (m : ℕ). slice_get (thread_nodes (table_of x z) z m) i) same e
node_of_thread x (u ∷ us) first (suc k) t q i j g h l s =
    let after : first + thread_count u ≤ q.first = part_from us (first + thread_count u) k q h in
    let rest : ℕ = j - thread_count u in
    let e : j ≡ thread_count u + rest = omega (arith, s, after) in
    ap (slice_get (thread_nodes (table_of x u) u first ++ threads_nodes x us (first + thread_count u))) e
    ∙ get_suffix (thread_nodes (table_of x u) u first) (threads_nodes x us (first + thread_count u)) (thread_count u) rest
    (sym (length-thread_nodes (table_of x u) u first))
    ∙ node_of_thread x us (first + thread_count u) k t q i rest g h l (omega (arith, s, after))

-- a thread of this number that the node is one of
pub record IsIn (ts : List f.Thread) (first k : ℕ) (q : Part) (node : ℕ) : Type 0 where
  pub is : slice_get (parts ts first) k ≡ Some q
  pub from_first : q.first ≤ node
  pub below_end : node < q.end

-- each node is one of a thread's
pub thread_of_node : (x : f.Flat) (ts : List f.Thread) (first j : ℕ) (n : Node) → slice_get (threads_nodes x ts first) j ≡ Some n →
    (k : ℕ) × (q : Part) × IsIn ts first k q (first + j)
thread_of_node x [] first j n g = cc
thread_of_node x (u ∷ us) first j n g = ⊎_elim
    (λ l. (0, part u first, record { is = refl; from_first = omega arith; below_end = omega (arith, l) }))
    (λ l.
    let rest : ℕ = j - thread_count u in
    let e : j ≡ thread_count u + rest = omega (arith, l) in
    let there : slice_get (threads_nodes x us (first + thread_count u)) rest ≡ Some n =
    sym (get_suffix (thread_nodes (table_of x u) u first) (threads_nodes x us (first + thread_count u)) (thread_count u) rest
    (sym (length-thread_nodes (table_of x u) u first)))
    ∙ ap (slice_get (thread_nodes (table_of x u) u first ++ threads_nodes x us (first + thread_count u))) (sym e) ∙ g in
    let h = thread_of_node x us (first + thread_count u) rest n there in
    (suc h.0, h.1, record { is = h.2.is; from_first = omega (arith, h.2.from_first, e); below_end = omega (arith, h.2.below_end, e) }))
    (cases_lt j (thread_count u))

-- each node before a thread is one of an earlier thread's
pub thread_before : (ts : List f.Thread) (first k : ℕ) (q : Part) (node : ℕ) → slice_get (parts ts first) k ≡ Some q → first ≤ node → node < q.first →
    (j : ℕ) × (r : Part) × (j < k) × IsIn ts first j r node
thread_before [] first k q node h a b = cc
thread_before (u ∷ us) first zero q node h a b =
    let here : part u first ≡ q = cc in
    let e : first ≡ q.first = ap (λ (z : Part). z.first) here in absurd (omega (arith, a, b, e))
thread_before (u ∷ us) first (suc k) q node h a b = ⊎_elim
    (λ l. (0, part u first, omega arith, record { is = refl; from_first = a; below_end = l }))
    (λ l.
    let w = thread_before us (first + thread_count u) k q node h l b in
    (suc w.0, w.1, omega (arith, w.2), record { is = w.3.is; from_first = w.3.from_first; below_end = w.3.below_end }))
    (cases_lt node (first + thread_count u))
