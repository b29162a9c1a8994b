-- The nodes of a flat form's graph have the locations that their expressions read, and an evaluation for a variable has its store after it.
use Rattle.std.proofs.Common.{◌≡◌, ◌≤◌, ◌<◌, ◌-◌, refl, ℕ, zero, suc, ◌+◌, List, [], ◌∷◌, ◌++◌}
use Rattle.std.proofs.Common.{length, ◌∙◌, ap, sym, subst, arith, Some, None}
use Rattle.std.specs.Prelude.{slice_get}
use Rattle.std.specs.List.{AllByRecursion}
use Rattle.ido_base.specs.declared.place.Place.{Place}
use Rattle.ido_base.specs.declared.location.Location.{Location}
use Rattle.c_tree.specs.Exprs as e
use Rattle.c_tree.specs.Flats as f
use Rattle.std.proofs.lemmas.Option.{none-some, same_Some}
use Rattle.flow_graph.specs.declared.graph.Part.{Part}
use Rattle.flow_graph.specs.Nodes.{Action, Eval, Store, Test, Lock, Unlock, End, Node}
use Rattle.flow_graph.specs.Lockstep.{IsOwnNode}
use Rattle.flow_graph.proofs.Lockstep.{lowered_threads}
use Rattle.flow_graph.proofs.SuccessorsInThread.{get_first, get_later, parts_begin}
use Rattle.flow_graph.proofs.NodeCounts.{length-statement_nodes, length-statements_nodes, length-arms_nodes, length-thread_nodes}
use Rattle.flow_graph.specs.Lowering.{Table, table_of, part, parts, expr_reads, target_reads, elements, scalar}
use Rattle.flow_graph.specs.Lowering.{test_node, plain_node, assign_nodes, count, statements_count}
use Rattle.flow_graph.specs.Lowering.{arms_count, thread_count, entry, statement_nodes, statements_nodes, arms_nodes, thread_nodes, threads_nodes}

-- ---- Nodes among others, from a place on

get_prefix : {X : Type 0} (xs ys : List X) (k : ℕ) (x : X) → slice_get xs k ≡ Some x → slice_get (xs ++ ys) k ≡ Some x
get_prefix [] ys k x h = cc
get_prefix (y ∷ xs) ys zero x h = h
get_prefix (y ∷ xs) ys (suc k) x h = get_prefix xs ys k x h

get_suffix : {X : Type 0} (xs ys : List X) (k : ℕ) (x : X) → slice_get ys k ≡ Some x → slice_get (xs ++ ys) (length xs + k) ≡ Some x
get_suffix [] ys k x h = let e : 0 + k ≡ k = omega arith in ap (slice_get ys) e ∙ h
get_suffix (y ∷ xs) ys k x h =
    let e : suc (length xs) + k ≡ suc (length xs + k) = omega arith in
    ap (slice_get (y ∷ (xs ++ ys))) e ∙ get_suffix xs ys k x h

at_same : (all : List Node) (n m : ℕ) (s : Node) → n ≡ m → slice_get all n ≡ Some s → slice_get all m ≡ Some s
at_same all n m s h a = ap (slice_get all) (sym h) ∙ a

record Has (all : List Node) (first : ℕ) (xs : List Node) : Type 0 where
  each : (k : ℕ) (s : Node) → slice_get xs k ≡ Some s → slice_get all (first + k) ≡ Some s

has_prefix : (all : List Node) (first : ℕ) (xs ys : List Node) → Has all first (xs ++ ys) → Has all first xs
has_prefix all first xs ys h = record { each = λ k s g. h.each k s (get_prefix xs ys k s g) }

has_suffix : (all : List Node) (first n : ℕ) (xs ys : List Node) → length xs ≡ n → Has all first (xs ++ ys) → Has all (first + n) ys
has_suffix all first n xs ys e h = record {
  each = λ k s g. at_same all (first + (length xs + k)) (first + n + k) s (omega (arith, e)) (h.each (length xs + k) s (get_suffix xs ys k s g));
}

has_tail : (all : List Node) (first : ℕ) (x : Node) (xs : List Node) → Has all first (x ∷ xs) → Has all (suc first) xs
has_tail all first x xs h = record { each = λ k s g. at_same all (first + suc k) (suc first + k) s (omega arith) (h.each (suc k) s g) }

has_head : (all : List Node) (first : ℕ) (x : Node) (xs : List Node) → Has all first (x ∷ xs) → slice_get all first ≡ Some x
has_head all first x xs h = at_same all (first + 0) first x (omega arith) (h.each 0 x refl)

-- ---- Shapes

pub record WritesThere (all : List Node) (next : ℕ) (l : Location) : Type 0 where
  pub node : Node
  pub at : slice_get all next ≡ Some node
  pub writes : node.writes ≡ Some l

abbrev pub OwedAt : (table : Table) → List Node → e.Lvalue → (next : ℕ) → Type 0
OwedAt table all (e.ToLocal place local kind) next = Unit {0}
OwedAt table all (e.ToVariable place variable kind) next = WritesThere all next (scalar variable)
OwedAt table all (e.ToElement place variable kind index) next = WritesThere all next (elements table variable index)

pub record EvalShape (table : Table) (all : List Node) (target : e.Lvalue) (value : e.Placed) (next : ℕ) (n : Node) : Type 0 where
  pub reads : n.reads ≡ target_reads table target ++ expr_reads table value.expr
  pub writes : n.writes ≡ None
  pub owed : OwedAt table all target next

pub record TestShape (table : Table) (condition : e.Placed) (n : Node) : Type 0 where
  pub reads : n.reads ≡ expr_reads table condition.expr
  pub writes : n.writes ≡ None

abbrev pub ShapedBy : (table : Table) → List Node → Node → Action → Type 0
ShapedBy table all n (Eval target value next) = EvalShape table all target value next n
ShapedBy table all n (Store variable kind next) = Unit {0}
ShapedBy table all n (Test condition holds fails) = TestShape table condition n
ShapedBy table all n (Lock lock next) = n.writes ≡ None
ShapedBy table all n (Unlock lock next) = n.writes ≡ None
ShapedBy table all n End = n.writes ≡ None

-- by some table
abbrev pub ShapedAs : List Node → Node → Action → Type 0
ShapedAs all n a = (table : Table) × ShapedBy table all n a

abbrev pub AllShaped : (table : Table) → List Node → List Node → Type 0
AllShaped table all ns = AllByRecursion (λ (n : Node). ShapedBy table all n n.action) ns

module _ (all : List Node) where
  joined : (table : Table) (ns ms : List Node) → AllShaped table all ns → AllShaped table all ms → AllShaped table all (ns ++ ms)
  joined table [] ms h k = k
  joined table (n ∷ ns) ms h k = (h.0, joined table ns ms h.1 k)

  shaped_assign : (table : Table) (target : e.Lvalue) (place : Place) (value : e.Placed) (first next : ℕ) →
      Has all first (assign_nodes table place target value first next) →
      AllShaped table all (assign_nodes table place target value first next)
  shaped_assign table (e.ToLocal name local kind) place value first next h = (record { reads = refl; writes = refl; owed = tt }, tt)
  shaped_assign table (e.ToVariable name variable kind) place value first next h = (
    record {
      reads = refl;
      writes = refl;
      owed = record {
        node = _;
        at = has_head all (suc first) _ _
            (has_tail all first _ _ h);
        writes = refl;
      };
    },
    (tt, tt),
  )
  shaped_assign table (e.ToElement name variable kind index) place value first next h = (
    record {
      reads = refl;
      writes = refl;
      owed = record {
        node = _;
        at = has_head all (suc first) _ _
            (has_tail all first _ _ h);
        writes = refl;
      };
    },
    (tt, tt),
  )

  mutual
    shaped : (table : Table) (y : f.Statement) (first next : ℕ) → Has all first (statement_nodes table y first next) →
        AllShaped table all (statement_nodes table y first next)
    shaped table (f.Assign place target value) first next h = shaped_assign table target place value first next h
    shaped table (f.If place arms otherwise) first next h =
        let last = entry (statements_count otherwise) (first + arms_count arms) next in
        let prefix = arms_nodes table arms place last first next in
        let suffix = statements_nodes table otherwise (first + arms_count arms) next in
        joined table prefix suffix (shaped_arms table arms place last first next (has_prefix all first prefix suffix h))
        (shaped_all table otherwise (first + arms_count arms) next (has_suffix all first (arms_count arms) prefix suffix
        (length-arms_nodes table arms place last first next) h))
    shaped table (f.While place condition body) first next h =
        (record { reads = refl; writes = refl }, shaped_all table body (suc first) first (has_tail all first _ _ h))
    shaped table (f.Do place body condition) first next h =
        let prefix = statements_nodes table body first (first + statements_count body) in
        joined table prefix (test_node table place condition first next ∷ [])
        (shaped_all table body first (first + statements_count body) (has_prefix all first prefix _ h))
        (record { reads = refl; writes = refl }, tt)
    shaped table (f.Lock place name) first next h = (refl, tt)
    shaped table (f.Unlock place name) first next h = (refl, tt)

    shaped_all : (table : Table) (ys : f.Statements) (first next : ℕ) → Has all first (statements_nodes table ys first next) →
        AllShaped table all (statements_nodes table ys first next)
    shaped_all table f.no_statement first next h = tt
    shaped_all table (f.statement_and y rest) first next h =
        let after = entry (statements_count rest) (first + count y) next in
        let prefix = statement_nodes table y first after in
        let suffix = statements_nodes table rest (first + count y) next in
        joined table prefix suffix (shaped table y first after (has_prefix all first prefix suffix h))
        (shaped_all table rest (first + count y) next (has_suffix all first (count y) prefix suffix (length-statement_nodes table y first after) h))

    shaped_arms : (table : Table) (arms : f.Arms) (place : Place) (last first next : ℕ) → Has all first (arms_nodes table arms place last first next) →
        AllShaped table all (arms_nodes table arms place last first next)
    shaped_arms table f.no_arm place last first next h = tt
    shaped_arms table (f.arm_and condition body rest) place last first next h =
        let inner = has_tail all first _ _ h in
        let prefix = statements_nodes table body (suc first) next in
        let suffix = arms_nodes table rest place last (suc first + statements_count body) next in (
          record { reads = refl; writes = refl },
          joined table prefix suffix (shaped_all table body (suc first) next (has_prefix all (suc first) prefix suffix inner))
              (shaped_arms table rest place last (suc first + statements_count body) next
              (has_suffix all (suc first) (statements_count body) prefix suffix (length-statements_nodes table body (suc first) next) inner)),
        )

  shaped_thread : (table : Table) (t : f.Thread) (first : ℕ) → Has all first (thread_nodes table t first) → AllShaped table all (thread_nodes table t first)
  shaped_thread table t first h =
      let prefix = statements_nodes table t.body first (first + statements_count t.body) in
      joined table prefix (plain_node t.closing End ∷ [])
      (shaped_all table t.body first (first + statements_count t.body) (has_prefix all first prefix _ h)) (refl, tt)

  -- by some table
  abbrev AreShaped : List Node → Type 0
  AreShaped ns = AllByRecursion (λ (n : Node). ShapedAs all n n.action) ns

  shaped_some : (table : Table) (ns ms : List Node) → AllShaped table all ns → AreShaped ms → AreShaped (ns ++ ms)
  shaped_some table [] ms h k = k
  shaped_some table (n ∷ ns) ms h k = ((table, h.0), shaped_some table ns ms h.1 k)

  shaped_threads : (x : f.Flat) (ts : List f.Thread) (first : ℕ) → Has all first (threads_nodes x ts first) → AreShaped (threads_nodes x ts first)
  shaped_threads x [] first h = tt
  shaped_threads x (t ∷ ts) first h =
      let own = thread_nodes (table_of x t) t first in
      let suffix = threads_nodes x ts (first + thread_count t) in
      shaped_some (table_of x t) own suffix (shaped_thread (table_of x t) t first (has_prefix all first own suffix h))
      (shaped_threads x ts (first + thread_count t) (has_suffix all first (thread_count t) own suffix (length-thread_nodes (table_of x t) t first) h))

-- of all, that one
of_all : (P : Node → Type 0) (ns : List Node) (k : ℕ) (n : Node) → AllByRecursion P ns → slice_get ns k ≡ Some n → P n
of_all P [] k n h g = cc
of_all P (m ∷ ns) zero n h g = let same : m ≡ n = cc in subst P same h.0
of_all P (m ∷ ns) (suc k) n h g = of_all P ns k n h.1 g

shaped_own : (all : List Node) (x : f.Flat) (ts : List f.Thread) (first number : ℕ) (own : Part) (t : f.Thread) → Has all first (threads_nodes x ts first) →
    slice_get (parts ts first) number ≡ Some own → slice_get ts number ≡ Some t → (k : ℕ) (n : Node) → slice_get (threads_nodes x ts first) k ≡ Some n →
    own.first ≤ first + k → first + k < own.end → ShapedBy (table_of x t) all n n.action
shaped_own all x [] first number own t h g i k n found a b = absurd (none-some own g)
shaped_own all x (u ∷ us) first zero own t h g i k n found a b =
    let nodes = thread_nodes (table_of x u) u first in
    let rest = threads_nodes x us (first + thread_count u) in
    let low : first + k < first + thread_count u = subst (λ (o : Part). first + k < o.end) (sym (same_Some (part u first) own g)) b in
    let many : length nodes ≡ thread_count u = length-thread_nodes (table_of x u) u first in
    subst (λ (z : f.Thread). ShapedBy (table_of x z) all n n.action) (same_Some u t i)
    (of_all (λ (z : Node). ShapedBy (table_of x u) all z z.action) nodes k n (shaped_thread all (table_of x u) u first (has_prefix all first nodes rest h))
    (get_first nodes rest k n (omega (arith, low, many)) found))
shaped_own all x (u ∷ us) first (suc number) own t h g i k n found a b =
    let nodes = thread_nodes (table_of x u) u first in
    let rest = threads_nodes x us (first + thread_count u) in
    let from : first + thread_count u ≤ own.first = parts_begin us (first + thread_count u) number own g in
    let many : length nodes ≡ thread_count u = length-thread_nodes (table_of x u) u first in
    let split : k ≡ length nodes + (k - thread_count u) = omega (arith, from, many, a) in
    let at : slice_get rest (k - thread_count u) ≡ Some n =
    get_later nodes rest (k - thread_count u) n (subst (λ (j : ℕ). slice_get (nodes ++ rest) j ≡ Some n) split found) in
    shaped_own all x us (first + thread_count u) number own t (has_suffix all first (thread_count u) nodes rest many h) g i (k - thread_count u) n at
    (omega (arith, from, a)) (omega (arith, from, a, b))

has_itself : (all : List Node) → Has all 0 all
has_itself all = record { each = λ i s h. at_same all i (0 + i) s (omega arith) h }

-- each node, by the table of some thread
pub node_shaped : (x : f.Flat) (k : ℕ) (n : Node) → slice_get (threads_nodes x x.threads 0) k ≡ Some n →
    ShapedAs (threads_nodes x x.threads 0) n n.action
node_shaped x k n g =
    let all = threads_nodes x x.threads 0 in
    of_all (λ (z : Node). ShapedAs all z z.action) all k n (shaped_threads all x x.threads 0 (has_itself all)) g

-- a thread's own node, by the thread's table
pub own_shaped : (x : f.Flat) (number k : ℕ) (t : f.Thread) (n : Node) → slice_get x.threads number ≡ Some t → IsOwnNode x number k →
    slice_get (threads_nodes x x.threads 0) k ≡ Some n → ShapedBy (table_of x t) (threads_nodes x x.threads 0) n n.action
own_shaped x number k t n i own g =
    let all = threads_nodes x x.threads 0 in
    let part_is : slice_get (parts x.threads 0) number ≡ Some own.part =
    ap (λ (ps : List Part). slice_get ps number) (sym (lowered_threads x)) ∙ own.of_thread in
    shaped_own all x x.threads 0 number own.part t (has_itself all) part_is i k n g (omega (arith, own.from_first)) (omega (arith, own.below_end))
