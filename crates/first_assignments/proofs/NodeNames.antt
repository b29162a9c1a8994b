-- Which locals a node of a lowered thread reads and assigns, by what it does.
use Rattle.std.proofs.Common.{◌≡◌, refl, ℕ, suc, ◌+◌, List, [], ◌∷◌, ◌++◌, Option, None}
use Rattle.std.specs.List.{AllByRecursion}
use Rattle.ido_base.specs.declared.place.Place.{Place}
use Rattle.c_tree.specs.Exprs as e
use Rattle.c_tree.specs.Flats as f
use Rattle.c_tree.specs.LockDiscipline.{expr_locals, key_locals}
use Rattle.flow_graph.specs.Nodes.{Action, Eval, Store, Test, Lock, Unlock, End, Node}
use Rattle.flow_graph.specs.Lowering.{Table, table_of, target_locals, target_local, assign_nodes, plain_node, test_node}
use Rattle.flow_graph.specs.Lowering.{count, statements_count, arms_count, thread_count, entry}
use Rattle.flow_graph.specs.Lowering.{statement_nodes, statements_nodes, arms_nodes, thread_nodes, threads_nodes}

abbrev pub reads_of : Action → List ℕ
reads_of (Eval target value next) = target_locals target ++ expr_locals value.expr
reads_of (Store variable kind next) = []
reads_of (Test condition holds fails) = expr_locals condition.expr
reads_of (Lock lock next) = key_locals lock
reads_of (Unlock lock next) = key_locals lock
reads_of End = []

abbrev pub takes_of : Action → Option ℕ
takes_of (Eval target value next) = target_local target
takes_of (Store variable kind next) = None
takes_of (Test condition holds fails) = None
takes_of (Lock lock next) = None
takes_of (Unlock lock next) = None
takes_of End = None

pub record IsNamed (n : Node) : Type 0 where
  pub uses : n.uses ≡ reads_of n.action
  pub assigns : n.assigns ≡ takes_of n.action

abbrev AreNamed : List Node → Type 0
AreNamed ns = AllByRecursion IsNamed ns

named_both : (ns ms : List Node) → AreNamed ns → AreNamed ms → AreNamed (ns ++ ms)
named_both [] ms h k = k
named_both (n ∷ ns) ms h k = (h.0, named_both ns ms h.1 k)

named_assign : (table : Table) (target : e.Lvalue) (place : Place) (value : e.Placed) (first next : ℕ) →
    AreNamed (assign_nodes table place target value first next)
named_assign table (e.ToLocal name local kind) place value first next = (record { uses = refl; assigns = refl }, tt)
named_assign table (e.ToVariable name variable kind) place value first next =
    (record { uses = refl; assigns = refl }, (record { uses = refl; assigns = refl }, tt))
named_assign table (e.ToElement name variable kind index) place value first next =
    (record { uses = refl; assigns = refl }, (record { uses = refl; assigns = refl }, tt))

mutual
  named_statement : (table : Table) (y : f.Statement) (first next : ℕ) → AreNamed (statement_nodes table y first next)
  named_statement table (f.Assign place target value) first next = named_assign table target place value first next
  named_statement table (f.If place arms otherwise) first next =
      let last = entry (statements_count otherwise) (first + arms_count arms) next in
      named_both (arms_nodes table arms place last first next) (statements_nodes table otherwise (first + arms_count arms) next)
      (named_arms table arms place last first next) (named_statements table otherwise (first + arms_count arms) next)
  named_statement table (f.While place condition body) first next =
      (record { uses = refl; assigns = refl }, named_statements table body (suc first) first)
  named_statement table (f.Do place body condition) first next =
      named_both (statements_nodes table body first (first + statements_count body)) (test_node table place condition first next ∷ [])
      (named_statements table body first (first + statements_count body)) (record { uses = refl; assigns = refl }, tt)
  named_statement table (f.Lock place lock) first next = (record { uses = refl; assigns = refl }, tt)
  named_statement table (f.Unlock place lock) first next = (record { uses = refl; assigns = refl }, tt)

  named_statements : (table : Table) (ys : f.Statements) (first next : ℕ) → AreNamed (statements_nodes table ys first next)
  named_statements table f.no_statement first next = tt
  named_statements table (f.statement_and y rest) first next =
      let after = entry (statements_count rest) (first + count y) next in
      named_both (statement_nodes table y first after) (statements_nodes table rest (first + count y) next)
      (named_statement table y first after) (named_statements table rest (first + count y) next)

  named_arms : (table : Table) (ys : f.Arms) (place : Place) (last first next : ℕ) → AreNamed (arms_nodes table ys place last first next)
  named_arms table f.no_arm place last first next = tt
  named_arms table (f.arm_and condition body rest) place last first next =
      let more = suc first + statements_count body in (
        record { uses = refl; assigns = refl },
        named_both (statements_nodes table body (suc first) next) (arms_nodes table rest place last more next)
            (named_statements table body (suc first) next) (named_arms table rest place last more next),
      )

named_thread : (table : Table) (t : f.Thread) (first : ℕ) → AreNamed (thread_nodes table t first)
named_thread table t first =
    named_both (statements_nodes table t.body first (first + statements_count t.body)) (plain_node t.closing End ∷ [])
    (named_statements table t.body first (first + statements_count t.body)) (record { uses = refl; assigns = refl }, tt)

pub named_threads : (x : f.Flat) (ts : List f.Thread) (first : ℕ) → AllByRecursion IsNamed (threads_nodes x ts first)
named_threads x [] first = tt
named_threads x (t ∷ ts) first =
    named_both (thread_nodes (table_of x t) t first) (threads_nodes x ts (first + thread_count t))
    (named_thread (table_of x t) t first) (named_threads x ts (first + thread_count t))
