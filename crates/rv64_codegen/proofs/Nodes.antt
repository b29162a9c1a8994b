-- What is known of the nodes of a lowered thread: what they name is formed, what they read and assign, and which nodes follow them.
use Rattle.std.proofs.Common.{◌≡◌, ℕ, zero, suc, ◌+◌, ◌-◌, ◌<◌, ◌≤◌, List, [], ◌∷◌, ◌++◌, length, refl, ap, arith, sym, ◌∙◌, subst, Bool, Some, None}
use Rattle.std.specs.Prelude.{slice_get}
use Rattle.std.specs.List.{AllByRecursion}
use Rattle.std.proofs.lemmas.Option.{none-some, same_Some}
use Rattle.ido_base.specs.declared.place.Place.{Place}
use Rattle.ido_ints.specs.declared.kinds.Kind.{Kind}
use Rattle.c_tree.specs.Exprs as e
use Rattle.c_tree.specs.LockDiscipline.{expr_locals, key_locals}
use Rattle.c_tree.specs.Flats as f
use Rattle.c_tree.specs.WellFormed.{IsFlatPlaced, IsFlatTarget, IsFlatLockName, IsFlatStatement, AreFlatStatements, AreFlatArms, IsDeclared, IsWellFormed}
use Rattle.flow_graph.specs.declared.graph.Part.{Part}
use Rattle.flow_graph.specs.Nodes.{Action, Eval, Store, Test, Lock, Unlock, End, Node}
use Rattle.flow_graph.specs.Lowering.{table_of, Table, target_locals, target_local, test_node, plain_node, assign_nodes, assign_count, count, statements_count}
use Rattle.flow_graph.specs.Lowering.{arms_count, thread_count, entry, statement_nodes, statements_nodes, arms_nodes, thread_nodes}
use Rattle.flow_graph.specs.Lowering.{threads_nodes, part, parts, lowered}
use Rattle.flow_graph.specs.Liveness.{NodeAt}
use Rattle.flow_graph.proofs.Public.{length-statement_nodes, length-statements_nodes, length-arms_nodes, length-thread_nodes, lowered_nodes, lowered_threads}
use Rattle.flow_graph.proofs.Public.{AreThreads}

-- ---- Nodes among others, from a place on

get_prefix : {X : Type 0} (xs ys : List X) (k : ℕ) (x : X) → slice_get xs k ≡ Some x → slice_get (xs ++ ys) k ≡ Some x
get_prefix [] ys k x h = absurd (none-some x h)
get_prefix (y ∷ xs) ys zero x h = h
get_prefix (y ∷ xs) ys (suc k) x h = get_prefix xs ys k x h

get_suffix : {X : Type 0} (xs ys : List X) (k : ℕ) → slice_get (xs ++ ys) (length xs + k) ≡ slice_get ys k
get_suffix [] ys k = let same : 0 + k ≡ k = omega arith in ap (slice_get ys) same
get_suffix (y ∷ xs) ys k =
    let same : suc (length xs) + k ≡ suc (length xs + k) = omega arith in
    ap (slice_get (y ∷ (xs ++ ys))) same ∙ get_suffix xs ys k

get_own : {X : Type 0} (xs ys : List X) (k : ℕ) (x : X) → k < length xs → slice_get (xs ++ ys) k ≡ Some x → slice_get xs k ≡ Some x
get_own [] ys k x l g = absurd (omega (arith, l))
get_own (y ∷ xs) ys zero x l g = g
get_own (y ∷ xs) ys (suc k) x l g = get_own xs ys k x (let m : suc k < suc (length xs) = l in omega (arith, m)) g

at_same : (all : List Node) (n m : ℕ) (s : Node) → n ≡ m → slice_get all n ≡ Some s → slice_get all m ≡ Some s
at_same all n m s h a = ap (slice_get all) (sym h) ∙ a

record Has (all : List Node) (first : ℕ) (xs : List Node) : Type 0 where
  each : (k : ℕ) (s : Node) → slice_get xs k ≡ Some s → slice_get all (first + k) ≡ Some s

has_prefix : (all : List Node) (first : ℕ) (xs ys : List Node) → Has all first (xs ++ ys) → Has all first xs
has_prefix all first xs ys h = record { each = λ k s g. h.each k s (get_prefix xs ys k s g) }

has_suffix : (all : List Node) (first n : ℕ) (xs ys : List Node) → length xs ≡ n → Has all first (xs ++ ys) → Has all (first + n) ys
has_suffix all first n xs ys same h = record {
  each = λ k s g. at_same all (first + (length xs + k)) (first + n + k) s (omega (arith, same)) (h.each (length xs + k) s (get_suffix xs ys k ∙ g));
}

has_tail : (all : List Node) (first : ℕ) (x : Node) (xs : List Node) → Has all first (x ∷ xs) → Has all (suc first) xs
has_tail all first x xs h = record { each = λ k s g. at_same all (first + suc k) (suc first + k) s (omega arith) (h.each (suc k) s g) }

has_head : (all : List Node) (first : ℕ) (x : Node) (xs : List Node) → Has all first (x ∷ xs) → slice_get all first ≡ Some x
has_head all first x xs h = at_same all (first + 0) first x (omega arith) (h.each 0 x refl)

-- ---- What is known

-- the next node is the store of the variable
pub record StoresThere (all : List Node) (next variable : ℕ) (k : Kind) : Type 0 where
  pub node : Node
  pub at : slice_get all next ≡ Some node
  pub after : ℕ
  pub stores : node.action ≡ Store variable k after

module _ (x : f.Flat) (ks : List Kind) (lo hi : ℕ) (all : List Node) where
  -- an evaluation for a variable has its store after it
  abbrev pub IsOwed : e.Lvalue → (next : ℕ) → Type 0
  IsOwed (e.ToLocal place local kind) next = Unit {0}
  IsOwed (e.ToVariable place variable kind) next = StoresThere all next variable kind
  IsOwed (e.ToElement place variable kind index) next = StoresThere all next variable kind

  -- the node is one from the one number up to the other
  abbrev pub IsInside : ℕ → Type 0
  IsInside next = (lo ≤ next) × (next < hi)

  pub record EvalKnown (target : e.Lvalue) (value : e.Placed) (next : ℕ) (n : Node) : Type 0 where
    pub target_is : IsFlatTarget x ks target
    pub value_is : IsFlatPlaced x ks value
    pub uses : n.uses ≡ target_locals target ++ expr_locals value.expr
    pub assigns : n.assigns ≡ target_local target
    pub inside : IsInside next
    pub owed : IsOwed target next

  pub record StoreKnown (variable : ℕ) (k : Kind) (next : ℕ) (n : Node) : Type 0 where
    pub array : Bool
    pub declared : IsDeclared x.variables variable k array
    pub assigns : n.assigns ≡ None
    pub inside : IsInside next

  pub record TestKnown (condition : e.Placed) (holds fails : ℕ) (n : Node) : Type 0 where
    pub condition_is : IsFlatPlaced x ks condition
    pub uses : n.uses ≡ expr_locals condition.expr
    pub assigns : n.assigns ≡ None
    pub holds_inside : IsInside holds
    pub fails_inside : IsInside fails

  pub record CallKnown (lock : e.LockName) (next : ℕ) (n : Node) : Type 0 where
    pub name : IsFlatLockName x.mutexes ks lock
    pub uses : n.uses ≡ key_locals lock
    pub assigns : n.assigns ≡ None
    pub inside : IsInside next

  abbrev pub Known : Node → Action → Type 0
  Known n (Eval target value next) = EvalKnown target value next n
  Known n (Store variable kind next) = StoreKnown variable kind next n
  Known n (Test condition holds fails) = TestKnown condition holds fails n
  Known n (Lock lock next) = CallKnown lock next n
  Known n (Unlock lock next) = CallKnown lock next n
  Known n End = Unit {0}

  abbrev AllKnown : List Node → Type 0
  AllKnown ns = AllByRecursion (λ (n : Node). Known n n.action) ns

  both : (ns ms : List Node) → AllKnown ns → AllKnown ms → AllKnown (ns ++ ms)
  both [] ms h k = k
  both (n ∷ ns) ms h k = (h.0, both ns ms h.1 k)

  known_at : (ns : List Node) (k : ℕ) (n : Node) → AllKnown ns → slice_get ns k ≡ Some n → Known n n.action
  known_at [] k n h g = absurd (none-some n g)
  known_at (m ∷ ns) zero n h g = subst (λ (z : Node). Known z z.action) (same_Some m n g) h.0
  known_at (m ∷ ns) (suc k) n h g = known_at ns k n h.1 g

  -- ---- Parts

  entry_in : (n first next : ℕ) → lo ≤ first → first + n ≤ hi → lo ≤ next → next < hi → IsInside (entry n first next)
  entry_in zero first next a b c d = (c, d)
  entry_in (suc n) first next a b c d = (a, omega arith)

  assign_known : (table : Table) (target : e.Lvalue) (place : Place) (value : e.Placed) (first next : ℕ) → IsFlatTarget x ks target → IsFlatPlaced x ks value →
      Has all first (assign_nodes table place target value first next) → lo ≤ first → first + assign_count target ≤ hi → lo ≤ next → next < hi →
      AllKnown (assign_nodes table place target value first next)
  assign_known table (e.ToLocal name local kind) place value first next w v h a b c d =
      (record { target_is = w; value_is = v; uses = refl; assigns = refl; inside = (c, d); owed = tt }, tt)
  assign_known table (e.ToVariable name variable kind) place value first next w v h a b c d = (
    record {
      target_is = w;
      value_is = v;
      uses = refl;
      assigns = refl;
      inside = (omega arith, omega arith);
      owed = record { node = _; at = has_head all (suc first) _ _ (has_tail all first _ _ h); after = next; stores = refl };
    },
    (record { array = _; declared = w.0; assigns = refl; inside = (c, d) }, tt),
  )
  assign_known table (e.ToElement name variable kind index) place value first next w v h a b c d = (
    record {
      target_is = w;
      value_is = v;
      uses = refl;
      assigns = refl;
      inside = (omega arith, omega arith);
      owed = record { node = _; at = has_head all (suc first) _ _ (has_tail all first _ _ h); after = next; stores = refl };
    },
    (record { array = _; declared = w.0.0; assigns = refl; inside = (c, d) }, tt),
  )

  mutual
    statement_known : (table : Table) (y : f.Statement) (first next : ℕ) → IsFlatStatement x ks y →
        Has all first (statement_nodes table y first next) → lo ≤ first →
        first + count y ≤ hi → lo ≤ next → next < hi → AllKnown (statement_nodes table y first next)
    statement_known table (f.Assign place target value) first next w h a b c d = assign_known table target place value first next w.0 w.1 h a b c d
    statement_known table (f.If place arms otherwise) first next w h a b c d =
        let whole : first + (arms_count arms + statements_count otherwise) ≤ hi = b in
        let last : IsInside (entry (statements_count otherwise) (first + arms_count arms) next) =
        entry_in (statements_count otherwise) (first + arms_count arms) next (omega arith) (omega (arith, whole)) c d in
        let prefix = arms_nodes table arms place (entry (statements_count otherwise) (first + arms_count arms) next) first next in
        let suffix = statements_nodes table otherwise (first + arms_count arms) next in
        both prefix suffix
        (arms_known table arms place (entry (statements_count otherwise) (first + arms_count arms) next) first next w.1 (has_prefix all first prefix suffix h) a
        (omega (arith, whole)) last.0 last.1 c d)
        (statements_known table otherwise (first + arms_count arms) next w.2
        (has_suffix all first (arms_count arms) prefix suffix
        (length-arms_nodes table arms place (entry (statements_count otherwise) (first + arms_count arms) next) first
        next) h)
        (omega arith) (omega (arith, whole)) c d)
    statement_known table (f.While place condition body) first next w h a b c d =
        let whole : first + suc (statements_count body) ≤ hi = b in
        let inner : IsInside (entry (statements_count body) (suc first) first) =
        entry_in (statements_count body) (suc first) first (omega arith) (omega (arith, whole)) a (omega (arith, whole)) in (
          record { condition_is = w.0; uses = refl; assigns = refl; holds_inside = inner; fails_inside = (c, d) },
          statements_known table body (suc first) first w.1 (has_tail all first _ _ h) (omega arith) (omega (arith, whole)) a (omega (arith, whole)),
        )
    statement_known table (f.Do place body condition) first next w h a b c d =
        let whole : first + suc (statements_count body) ≤ hi = b in
        let prefix = statements_nodes table body first (first + statements_count body) in
        both prefix (test_node table place condition first next ∷ [])
        (statements_known table body first (first + statements_count body) w.0
        (has_prefix all first prefix (test_node table place condition first next ∷ []) h) a
        (omega (arith, whole)) (omega arith) (omega (arith, whole)))
        (record { condition_is = w.1; uses = refl; assigns = refl; holds_inside = (a, omega (arith, whole)); fails_inside = (c, d) }, tt)
    statement_known table (f.Lock place name) first next w h a b c d = (record { name = w; uses = refl; assigns = refl; inside = (c, d) }, tt)
    statement_known table (f.Unlock place name) first next w h a b c d = (record { name = w; uses = refl; assigns = refl; inside = (c, d) }, tt)

    statements_known : (table : Table) (ys : f.Statements) (first next : ℕ) → AreFlatStatements x ks ys →
        Has all first (statements_nodes table ys first next) → lo ≤ first →
        first + statements_count ys ≤ hi → lo ≤ next → next < hi → AllKnown (statements_nodes table ys first next)
    statements_known table f.no_statement first next w h a b c d = tt
    statements_known table (f.statement_and y rest) first next w h a b c d =
        let whole : first + (count y + statements_count rest) ≤ hi = b in
        let after : IsInside (entry (statements_count rest) (first + count y) next) =
        entry_in (statements_count rest) (first + count y) next (omega arith) (omega (arith, whole)) c d in
        let prefix = statement_nodes table y first (entry (statements_count rest) (first + count y) next) in
        let suffix = statements_nodes table rest (first + count y) next in
        both prefix suffix
        (statement_known table y first (entry (statements_count rest) (first + count y) next) w.0 (has_prefix all first prefix suffix h) a
        (omega (arith, whole)) after.0
        after.1)
        (statements_known table rest (first + count y) next w.1
        (has_suffix all first (count y) prefix suffix (length-statement_nodes table y first (entry (statements_count rest) (first + count y) next)) h)
        (omega arith)
        (omega (arith, whole)) c d)

    arms_known : (table : Table) (xs : f.Arms) (place : Place) (last first next : ℕ) → AreFlatArms x ks xs →
        Has all first (arms_nodes table xs place last first next) →
        lo ≤ first → first + arms_count xs ≤ hi → lo ≤ last → last < hi → lo ≤ next → next < hi → AllKnown (arms_nodes table xs place last first next)
    arms_known table f.no_arm place last first next w h a b l m c d = tt
    arms_known table (f.arm_and condition body rest) place last first next w h a b l m c d =
        let whole : first + suc (statements_count body + arms_count rest) ≤ hi = b in
        let body_in : IsInside (entry (statements_count body) (suc first) next) =
        entry_in (statements_count body) (suc first) next (omega arith) (omega (arith, whole)) c d in
        let rest_in : IsInside (entry (arms_count rest) (suc first + statements_count body) last) =
        entry_in (arms_count rest) (suc first + statements_count body) last (omega arith) (omega (arith, whole)) l m in
        let prefix = statements_nodes table body (suc first) next in
        let suffix = arms_nodes table rest place last (suc first + statements_count body) next in
        let inner = has_tail all first _ _ h in (
          record { condition_is = w.0; uses = refl; assigns = refl; holds_inside = body_in; fails_inside = rest_in },
          both prefix suffix
              (statements_known table body (suc first) next w.1 (has_prefix all (suc first) prefix suffix inner) (omega arith) (omega (arith, whole)) c d)
              (arms_known table rest place last (suc first + statements_count body) next w.2
              (has_suffix all (suc first) (statements_count body) prefix suffix (length-statements_nodes table body (suc first) next) inner) (omega arith)
              (omega (arith, whole)) l m c d),
        )

  thread_known : (table : Table) (t : f.Thread) (first : ℕ) → AreFlatStatements x ks t.body → Has all first (thread_nodes table t first) → lo ≤ first →
      first + thread_count t ≤ hi → AllKnown (thread_nodes table t first)
  thread_known table t first w h a b =
      let whole : first + suc (statements_count t.body) ≤ hi = b in
      let prefix = statements_nodes table t.body first (first + statements_count t.body) in
      both prefix (plain_node t.closing End ∷ [])
      (statements_known table t.body first (first + statements_count t.body) w (has_prefix all first prefix (plain_node t.closing End ∷ []) h) a
      (omega (arith, whole))
      (omega arith) (omega (arith, whole)))
      (tt, tt)

-- ---- All threads

parts_begin : (ts : List f.Thread) (first number : ℕ) (own : Part) → slice_get (parts ts first) number ≡ Some own → first ≤ own.first
parts_begin [] first number own g = absurd (none-some own g)
parts_begin (t ∷ ts) first zero own g = let same : first ≡ own.first = ap (λ (y : Part). y.first) (same_Some (part t first) own g) in omega (arith, same)
parts_begin (t ∷ ts) first (suc number) own g =
    let later : first + thread_count t ≤ own.first = parts_begin ts (first + thread_count t) number own g in omega (arith, later)

known_from : (x : f.Flat) (all : List Node) (ts : List f.Thread) (first number : ℕ) (own : Part) (text : f.Thread) → AreThreads x ts →
    Has all first (threads_nodes x ts first) → slice_get (parts ts first) number ≡ Some own → slice_get ts number ≡ Some text → (k : ℕ) (n : Node) →
    slice_get (threads_nodes x ts first) k ≡ Some n → own.first ≤ first + k → first + k < own.end →
    Known x text.locals own.first own.end all n n.action
known_from x all [] first number own text w h g i k n found a b = absurd (none-some text i)
known_from x all (t ∷ ts) first zero own text w h g i k n found a b =
    subst (λ (u : f.Thread). Known x u.locals own.first own.end all n n.action) (same_Some t text i)
    (subst (λ (o : Part). o.first ≤ first + k → first + k < o.end → Known x t.locals o.first o.end all n n.action) (same_Some (part t first) own g)
    (λ c d.
    let below : first + k < first + thread_count t = d in
    let many : length (thread_nodes (table_of x t) t first) ≡ thread_count t = length-thread_nodes (table_of x t) t first in
    known_at x t.locals first (first + thread_count t) all (thread_nodes (table_of x t) t first) k n
    (thread_known x t.locals first (first + thread_count t) all (table_of x t) t first w.0
    (has_prefix all first (thread_nodes (table_of x t) t first) (threads_nodes x ts (first + thread_count t)) h) (omega arith) (omega arith))
    (get_own (thread_nodes (table_of x t) t first) (threads_nodes x ts (first + thread_count t)) k n (omega (arith, below, many)) found))
    a b)
known_from x all (t ∷ ts) first (suc number) own text w h g i k n found a b =
    let from : first + thread_count t ≤ own.first = parts_begin ts (first + thread_count t) number own g in
    let many : length (thread_nodes (table_of x t) t first) ≡ thread_count t = length-thread_nodes (table_of x t) t first in
    let split : k ≡ length (thread_nodes (table_of x t) t first) + (k - thread_count t) = omega (arith, from, many, a) in
    let at : slice_get (threads_nodes x ts (first + thread_count t)) (k - thread_count t) ≡ Some n =
    sym (get_suffix (thread_nodes (table_of x t) t first) (threads_nodes x ts (first + thread_count t)) (k - thread_count t)) ∙
    ap (slice_get (thread_nodes (table_of x t) t first ++ threads_nodes x ts (first + thread_count t))) (sym split) ∙ found in
    known_from x all ts (first + thread_count t) number own text w.1
    (has_suffix all first (thread_count t) (thread_nodes (table_of x t) t first) (threads_nodes x ts (first + thread_count t)) many h) g i
    (k - thread_count t) n at
    (omega (arith, from, a)) (omega (arith, from, a, b))

-- a node of the thread of that number
pub node_known : (x : f.Flat) → IsWellFormed x → (number : ℕ) (own : Part) (text : f.Thread) → slice_get (lowered x).threads number ≡ Some own →
    slice_get x.threads number ≡ Some text → (node : ℕ) (n : Node) → NodeAt (lowered x) node n → own.first ≤ node → node < own.end →
    Known x text.locals own.first own.end (lowered x).nodes n n.action
node_known x w number own text g i node n at a b =
    let all : List Node = threads_nodes x x.threads 0 in
    let same : node ≡ 0 + node = omega arith in
    subst (λ (ns : List Node). Known x text.locals own.first own.end ns n n.action) (sym (lowered_nodes x))
    (known_from x all x.threads 0 number own text w.threads (record { each = λ k s h. at_same all k (0 + k) s (omega arith) h })
    (ap (λ (ps : List Part). slice_get ps number) (sym (lowered_threads x)) ∙ g) i node n
    (ap (λ (ns : List Node). slice_get ns node) (sym (lowered_nodes x)) ∙ at) (omega (arith, a)) (omega (arith, b)))
