-- The nodes of a lowered thread go on to the thread's nodes.
use Rattle.std.proofs.Common.{◌≡◌, ℕ, zero, suc, ◌+◌, ◌-◌, ◌<◌, ◌≤◌, List, [], ◌∷◌, ◌++◌, length, refl, ap, arith, ◌∙◌, subst, length-append, Some}
use Rattle.std.specs.Prelude.{slice_get, slice_index_or, Contains}
use Rattle.ido_base.specs.declared.place.Place.{Place}
use Rattle.c_tree.specs.Exprs as e
use Rattle.c_tree.specs.Flats as f
use Rattle.flow_graph.specs.declared.graph.Part.{Part}
use Rattle.flow_graph.specs.Nodes.{Lock, Unlock, End, Node, successors}
use Rattle.flow_graph.specs.Lowering.{Table, table_of, test_node, plain_node, assign_nodes, assign_count}
use Rattle.flow_graph.specs.Lowering.{count, statements_count, arms_count, thread_count, entry, lock_node}
use Rattle.flow_graph.specs.Lowering.{statement_nodes, statements_nodes, arms_nodes, thread_nodes, threads_nodes, part, parts}
use Rattle.std.proofs.lemmas.Option.{none-some, same_Some}

-- ---- Numbers from the one up to the other

module _ (lo hi : ℕ) where
  abbrev pub AreIn : List ℕ → Type 0
  AreIn [] = Unit {0}
  AreIn (x ∷ xs) = (lo ≤ x) × (x < hi) × AreIn xs

  pub contained : (xs : List ℕ) (x : ℕ) → AreIn xs → Contains xs x → (lo ≤ x) × (x < hi)
  contained [] x h c = absurd (let l : c.0 < 0 = c.1 in omega (arith, l))
  contained (y ∷ ys) x h c = by c.0 c.1 c.2 (λ d. contained ys x h.2 d)
    where
      by : (k : ℕ) → k < length (y ∷ ys) → slice_index_or (y ∷ ys) k x ≡ x → (Contains ys x → (lo ≤ x) × (x < hi)) → (lo ≤ x) × (x < hi)
      by zero l is rest = (subst (λ (z : ℕ). lo ≤ z) is h.0, subst (λ (z : ℕ). z < hi) is h.1)
      by (suc k) l is rest = rest (k, (let m : suc k < suc (length ys) = l in omega (arith, m)), is)

  -- each node goes on to these
  abbrev AllIn : List Node → Type 0
  AllIn [] = Unit {0}
  AllIn (x ∷ xs) = AreIn (successors x.action) × AllIn xs

  pub all_at : (xs : List Node) (k : ℕ) (x : Node) → AllIn xs → slice_get xs k ≡ Some x → AreIn (successors x.action)
  all_at [] k x h g = absurd (none-some x g)
  all_at (y ∷ ys) zero x h g = subst (λ (z : Node). AreIn (successors z.action)) (same_Some y x g) h.0
  all_at (y ∷ ys) (suc k) x h g = all_at ys k x h.1 g

  all_both : (xs ys : List Node) → AllIn xs → AllIn ys → AllIn (xs ++ ys)
  all_both [] ys h g = g
  all_both (x ∷ xs) ys h g = (h.0, all_both xs ys h.1 g)

  -- `n` nodes, each of which goes on to nodes of the thread
  pub record Lies (xs : List Node) (n : ℕ) : Type 0 where
    pub many : length xs ≡ n
    pub all : AllIn xs

  one : (x : Node) → AreIn (successors x.action) → Lies (x ∷ []) 1
  one x h = record { many = refl; all = (h, tt) }

  more : (x : Node) (xs : List Node) (n : ℕ) → AreIn (successors x.action) → Lies xs n → Lies (x ∷ xs) (suc n)
  more x xs n h g = record { many = ap suc g.many; all = (h, g.all) }

  both : (xs ys : List Node) (n m : ℕ) → Lies xs n → Lies ys m → Lies (xs ++ ys) (n + m)
  both xs ys n m h g = record {
    many = (let a : length (xs ++ ys) ≡ length xs + length ys = length-append xs ys in let b : length xs ≡ n = h.many in let c : length ys ≡ m = g.many in
        omega (arith, a, b, c));
    all = all_both xs ys h.all g.all;
  }

  counted : (xs : List Node) (n m : ℕ) → n ≡ m → Lies xs n → Lies xs m
  counted xs n m same h = record { many = h.many ∙ same; all = h.all }

  -- ---- Parts

  entry_in : (n first next : ℕ) → lo ≤ first → first + n ≤ hi → lo ≤ next → next < hi → (lo ≤ entry n first next) × (entry n first next < hi)
  entry_in zero first next a b c d = (c, d)
  entry_in (suc n) first next a b c d = (a, omega arith)

  test_in : (table : Table) (place : Place) (condition : e.Placed) (holds fails : ℕ) → (lo ≤ holds) × (holds < hi) → (lo ≤ fails) × (fails < hi) →
      AreIn (successors (test_node table place condition holds fails).action)
  test_in table place condition holds fails a b = (a.0, a.1, (b.0, b.1, tt))

  assign_lies : (table : Table) (target : e.Lvalue) (place : Place) (value : e.Placed) (first next : ℕ) → lo ≤ first →
      first + assign_count target ≤ hi → lo ≤ next →
      next < hi →
      Lies (assign_nodes table place target value first next) (assign_count target)
  assign_lies table (e.ToLocal name local kind) place value first next a b c d = record { many = refl; all = ((c, d, tt), tt) }
  assign_lies table (e.ToVariable name variable kind) place value first next a b c d =
      record { many = refl; all = ((omega arith, omega arith, tt), ((c, d, tt), tt)) }
  assign_lies table (e.ToElement name variable kind index) place value first next a b c d =
      record { many = refl; all = ((omega arith, omega arith, tt), ((c, d, tt), tt)) }

  mutual
    statement_lies : (table : Table) (x : f.Statement) (first next : ℕ) → lo ≤ first → first + count x ≤ hi → lo ≤ next → next < hi →
        Lies (statement_nodes table x first next) (count x)
    statement_lies table (f.Assign place target value) first next a b c d = assign_lies table target place value first next a b c d
    statement_lies table (f.If place arms otherwise) first next a b c d =
        let whole : first + (arms_count arms + statements_count otherwise) ≤ hi = b in
        let last = entry_in (statements_count otherwise) (first + arms_count arms) next (omega arith) (omega (arith, whole)) c d in
        both (arms_nodes table arms place (entry (statements_count otherwise) (first + arms_count arms) next) first next)
        (statements_nodes table otherwise (first + arms_count arms) next) (arms_count arms) (statements_count otherwise)
        (arms_lie table arms place (entry (statements_count otherwise) (first + arms_count arms) next) first next a (omega (arith, whole)) last.0 last.1 c d)
        (statements_lie table otherwise (first + arms_count arms) next (omega arith) (omega (arith, whole)) c d)
    statement_lies table (f.While place condition body) first next a b c d =
        let whole : first + suc (statements_count body) ≤ hi = b in
        let body_in = entry_in (statements_count body) (suc first) first (omega arith) (omega (arith, whole)) a (omega (arith, whole)) in
        more (test_node table place condition (entry (statements_count body) (suc first) first) next) (statements_nodes table body (suc first) first)
        (statements_count body)
        (test_in table place condition (entry (statements_count body) (suc first) first) next body_in (c, d))
        (statements_lie table body (suc first) first (omega arith) (omega (arith, whole)) a (omega (arith, whole)))
    statement_lies table (f.Do place body condition) first next a b c d =
        let whole : first + suc (statements_count body) ≤ hi = b in
        counted (statements_nodes table body first (first + statements_count body) ++ test_node table place condition first next ∷ [])
        (statements_count body + 1)
        (suc (statements_count body)) (omega arith)
        (both (statements_nodes table body first (first + statements_count body)) (test_node table place condition first next ∷ []) (statements_count body) 1
        (statements_lie table body first (first + statements_count body) a (omega (arith, whole)) (omega arith) (omega (arith, whole)))
        (one (test_node table place condition first next) (test_in table place condition first next (a, omega (arith, whole)) (c, d))))
    statement_lies table (f.Lock place name) first next a b c d = one (lock_node place (Lock name next) name) (c, d, tt)
    statement_lies table (f.Unlock place name) first next a b c d = one (lock_node place (Unlock name next) name) (c, d, tt)

    statements_lie : (table : Table) (xs : f.Statements) (first next : ℕ) → lo ≤ first → first + statements_count xs ≤ hi → lo ≤ next → next < hi →
        Lies (statements_nodes table xs first next) (statements_count xs)
    statements_lie table f.no_statement first next a b c d = record { many = refl; all = tt }
    statements_lie table (f.statement_and x rest) first next a b c d =
        let whole : first + (count x + statements_count rest) ≤ hi = b in
        let after = entry_in (statements_count rest) (first + count x) next (omega arith) (omega (arith, whole)) c d in
        both (statement_nodes table x first (entry (statements_count rest) (first + count x) next))
        (statements_nodes table rest (first + count x) next) (count x)
        (statements_count rest)
        (statement_lies table x first (entry (statements_count rest) (first + count x) next) a (omega (arith, whole)) after.0 after.1)
        (statements_lie table rest (first + count x) next (omega arith) (omega (arith, whole)) c d)

    arms_lie : (table : Table) (xs : f.Arms) (place : Place) (last first next : ℕ) → lo ≤ first → first + arms_count xs ≤ hi → lo ≤ last → last < hi →
        lo ≤ next → next < hi →
        Lies (arms_nodes table xs place last first next) (arms_count xs)
    arms_lie table f.no_arm place last first next a b l m c d = record { many = refl; all = tt }
    arms_lie table (f.arm_and condition body rest) place last first next a b l m c d =
        let whole : first + suc (statements_count body + arms_count rest) ≤ hi = b in
        let body_in = entry_in (statements_count body) (suc first) next (omega arith) (omega (arith, whole)) c d in
        let rest_in = entry_in (arms_count rest) (suc first + statements_count body) last (omega arith) (omega (arith, whole)) l m in
        more (test_node table place condition (entry (statements_count body) (suc first) next)
        (entry (arms_count rest) (suc first + statements_count body) last))
        (statements_nodes table body (suc first) next ++ arms_nodes table rest place last (suc first + statements_count body) next)
        (statements_count body + arms_count rest)
        (test_in table place condition (entry (statements_count body) (suc first) next)
        (entry (arms_count rest) (suc first + statements_count body) last) body_in rest_in)
        (both (statements_nodes table body (suc first) next) (arms_nodes table rest place last (suc first + statements_count body) next) (statements_count body)
        (arms_count rest) (statements_lie table body (suc first) next (omega arith) (omega (arith, whole)) c d)
        (arms_lie table rest place last (suc first + statements_count body) next (omega arith) (omega (arith, whole)) l m c d))

  pub thread_lies : (table : Table) (t : f.Thread) (first : ℕ) → lo ≤ first → first + thread_count t ≤ hi → Lies (thread_nodes table t first) (thread_count t)
  thread_lies table t first a b =
      let whole : first + suc (statements_count t.body) ≤ hi = b in
      counted (thread_nodes table t first) (statements_count t.body + 1) (suc (statements_count t.body)) (omega arith)
      (both (statements_nodes table t.body first (first + statements_count t.body)) (plain_node t.closing End ∷ []) (statements_count t.body) 1
      (statements_lie table t.body first (first + statements_count t.body) a (omega (arith, whole)) (omega arith) (omega (arith, whole)))
      (one (plain_node t.closing End) tt))

-- ---- Nodes of all threads

pub get_first : (xs ys : List Node) (k : ℕ) (x : Node) → k < length xs → slice_get (xs ++ ys) k ≡ Some x → slice_get xs k ≡ Some x
get_first [] ys k x l g = absurd (let m : k < 0 = l in omega (arith, m))
get_first (y ∷ xs) ys zero x l g = g
get_first (y ∷ xs) ys (suc k) x l g = get_first xs ys k x (let m : suc k < suc (length xs) = l in omega (arith, m)) g

pub get_later : (xs ys : List Node) (j : ℕ) (x : Node) → slice_get (xs ++ ys) (length xs + j) ≡ Some x → slice_get ys j ≡ Some x
get_later [] ys j x g = let z : 0 + j ≡ j = omega arith in subst (λ (k : ℕ). slice_get ys k ≡ Some x) z g
get_later (y ∷ xs) ys j x g =
    let z : suc (length xs) + j ≡ suc (length xs + j) = omega arith in
    get_later xs ys j x (subst (λ (k : ℕ). slice_get (y ∷ (xs ++ ys)) k ≡ Some x) z g)

pub parts_begin : (ts : List f.Thread) (first number : ℕ) (own : Part) → slice_get (parts ts first) number ≡ Some own → first ≤ own.first
parts_begin [] first number own g = absurd (none-some own g)
parts_begin (t ∷ ts) first zero own g = let same : first ≡ own.first = ap (λ (x : Part). x.first) (same_Some (part t first) own g) in omega (arith, same)
parts_begin (t ∷ ts) first (suc number) own g =
    let later : first + thread_count t ≤ own.first = parts_begin ts (first + thread_count t) number own g in omega (arith, later)

pub closed_from : (x : f.Flat) (ts : List f.Thread) (first number : ℕ) (own : Part) → slice_get (parts ts first) number ≡ Some own → (k : ℕ) (n : Node) →
    slice_get (threads_nodes x ts first) k ≡ Some n → own.first ≤ first + k → first + k < own.end → AreIn own.first own.end (successors n.action)
closed_from x [] first number own g k n found a b = absurd (none-some own g)
closed_from x (t ∷ ts) first zero own g k n found a b =
    subst (λ (o : Part). o.first ≤ first + k → first + k < o.end → AreIn o.first o.end (successors n.action)) (same_Some (part t first) own g)
    (λ c d.
    let lies : Lies first (first + thread_count t) (thread_nodes (table_of x t) t first) (thread_count t) =
    thread_lies first (first + thread_count t) (table_of x t) t first (omega arith) (omega arith) in
    let below : first + k < first + thread_count t = d in
    let many : length (thread_nodes (table_of x t) t first) ≡ thread_count t = lies.many in
    all_at first (first + thread_count t) (thread_nodes (table_of x t) t first) k n lies.all
    (get_first (thread_nodes (table_of x t) t first) (threads_nodes x ts (first + thread_count t)) k n (omega (arith, below, many)) found))
    a b
closed_from x (t ∷ ts) first (suc number) own g k n found a b =
    let from : first + thread_count t ≤ own.first = parts_begin ts (first + thread_count t) number own g in
    let lies : Lies first (first + thread_count t) (thread_nodes (table_of x t) t first) (thread_count t) =
    thread_lies first (first + thread_count t) (table_of x t) t first (omega arith) (omega arith) in
    let many : length (thread_nodes (table_of x t) t first) ≡ thread_count t = lies.many in
    let split : k ≡ length (thread_nodes (table_of x t) t first) + (k - thread_count t) = omega (arith, from, many, a) in
    let at : slice_get (threads_nodes x ts (first + thread_count t)) (k - thread_count t) ≡ Some n =
    get_later (thread_nodes (table_of x t) t first) (threads_nodes x ts (first + thread_count t)) (k - thread_count t) n
    (subst (λ (i : ℕ). slice_get (thread_nodes (table_of x t) t first ++ threads_nodes x ts (first + thread_count t)) i ≡ Some n) split found) in
    closed_from x ts (first + thread_count t) number own g (k - thread_count t) n at (omega (arith, from, a)) (omega (arith, from, a, b))
