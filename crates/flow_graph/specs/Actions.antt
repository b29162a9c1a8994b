-- What the nodes of a flow graph do, and what a step of a thread through the graph is. No register, no line and no log is in it.
use Rattle.std.specs.Prelude.{ℕ, ◌+◌, List, [], ◌∷◌, length, map, replicate, slice_get, slice_set, slice_index_or}
use Rattle.std.specs.Prelude.{Option, Some, None, Bool, true, false, not, ◌&&◌, if◌then◌else◌, ℤ, pos}
use Rattle.ido_base.specs.Locks.{holds_none}
use Rattle.ido_ints.specs.Operators.{is_zero}
use Rattle.ido_ints.specs.Reduction.{reduced}
use Rattle.c_tree.specs.Exprs.{Expr, ToLocal, ToVariable, ToElement}
use Rattle.c_tree.specs.Values.{element_at, value, lock_number}
use Rattle.c_tree.specs.Programs.{Variable}
use Rattle.c_tree.specs.Flats as f
use Rattle.c_tree.specs.Source.{Pending}
use Rattle.flow_graph.specs.declared.graph.Part.{Part}
use Rattle.flow_graph.specs.Nodes.{Action, Eval, Store, Test, Lock, Unlock, End, Node, Graph}

-- ---- Effects: what a node does, from the numbers of locals and variables and from what store is pending

pub data Effect : Type 0 where
  -- a local takes the number
  Sets : (local : ℕ) → (number : ℤ) → (next : ℕ) → Effect
  -- the store is pending
  Owes : Pending → (next : ℕ) → Effect
  -- the pending store is made
  Makes : Pending → (next : ℕ) → Effect
  -- nothing but the place changes
  Goes : (next : ℕ) → Effect
  -- the lock of that number is taken, or given back
  Takes : (lock next : ℕ) → Effect
  Gives : (lock next : ℕ) → Effect
  -- the thread's last step
  Ends : Effect

-- what a node sees
pub record Seen : Type 0 where
  pub locals : List ℤ
  pub pending : Option Pending
  pub variables : List (List ℤ)

abbrev pub number_in : Seen → Expr → ℤ
number_in seen x = (value seen.locals seen.variables x).number

abbrev pub element_in : Seen → Expr → ℕ
element_in seen x = element_at (value seen.locals seen.variables x)

-- a store is made only where one is pending
abbrev pub effect_of : Action → Seen → Option Effect
effect_of (Eval (ToLocal place local kind) x next) seen = Some (Sets local (reduced kind (number_in seen x.expr)) next)
effect_of (Eval (ToVariable place variable kind) x next) seen =
    Some (Owes (record { variable = variable; element = 0; number = reduced kind (number_in seen x.expr) }) next)
effect_of (Eval (ToElement place variable kind index) x next) seen =
    Some (Owes (record { variable = variable; element = element_in seen index.expr; number = reduced kind (number_in seen x.expr) }) next)
effect_of (Store variable kind next) seen = elim seen.pending [
  | Some store ↦ Some (Makes store next)
  | None ↦ None
]
effect_of (Test condition holds fails) seen = Some (Goes (if is_zero (number_in seen condition.expr) then fails else holds))
effect_of (Lock lock next) seen = Some (Takes (lock_number seen.locals lock) next)
effect_of (Unlock lock next) seen = Some (Gives (lock_number seen.locals lock) next)
effect_of End seen = Some Ends

-- ---- States

-- a thread on its way through the graph
pub record GraphThread : Type 0 where
  -- the node that it does next
  pub at : ℕ
  pub locals : List ℤ
  pub pending : Option Pending
  -- the thread's last step is done
  pub ended : Bool

pub record FlowState : Type 0 where
  -- of each variable the numbers of its elements
  pub variables : List (List ℤ)
  -- of each lock the thread that holds it, or none
  pub holders : List (Option ℕ)
  pub graph_threads : List GraphThread

-- a thread begins at its first node; a local is assigned before it is read
abbrev pub graph_thread_start : Part → GraphThread
graph_thread_start part = record { at = part.first; locals = replicate part.locals (pos 0); pending = None; ended = false }

-- the variables and locks are those of the flat form: initial numbers, all free
abbrev pub graph_start : Graph → f.Flat → FlowState
graph_start g x = record {
  variables = map (λ (v : Variable). v.initial) x.variables;
  holders = replicate (length x.mutexes) None;
  graph_threads = map graph_thread_start g.threads;
}

-- ---- Steps

abbrev pub with_graph_thread : FlowState → ℕ → GraphThread → FlowState
with_graph_thread s t graph_thread = record s { graph_threads = slice_set s.graph_threads t graph_thread }

abbrev pub with_holder : FlowState → (lock : ℕ) → Option ℕ → FlowState
with_holder s lock holder = record s { holders = slice_set s.holders lock holder }

abbrev pub stored : FlowState → Pending → FlowState
stored s p = record s { variables = slice_set s.variables p.variable (slice_set (slice_index_or s.variables p.variable []) p.element p.number) }

abbrev pub seen_by : FlowState → GraphThread → Seen
seen_by s graph_thread = record { locals = graph_thread.locals; pending = graph_thread.pending; variables = s.variables }

-- the state after what thread t does; none where it can't be done now: a lock isn't free, or the thread has ended
abbrev pub done : FlowState → ℕ → GraphThread → Effect → Option FlowState
done s t graph_thread (Sets local number next) =
    Some (with_graph_thread s t (record graph_thread { at = next; locals = slice_set graph_thread.locals local number }))
done s t graph_thread (Owes store next) = Some (with_graph_thread s t (record graph_thread { at = next; pending = Some store }))
done s t graph_thread (Makes store next) = Some (with_graph_thread (stored s store) t (record graph_thread { at = next; pending = None }))
done s t graph_thread (Goes next) = Some (with_graph_thread s t (record graph_thread { at = next }))
done s t graph_thread (Takes lock next) = elim (slice_get s.holders lock) [
  | Some None ↦ Some (with_graph_thread (with_holder s lock (Some t)) t (record graph_thread { at = next }))
  | _ ↦ None
]
done s t graph_thread (Gives lock next) = Some (with_graph_thread (with_holder s lock None) t (record graph_thread { at = next }))
done s t graph_thread Ends = if graph_thread.ended then None else Some (with_graph_thread s t (record graph_thread { ended = true }))

abbrev pub effect_step : FlowState → ℕ → GraphThread → Option Effect → Option FlowState
effect_step s t graph_thread (Some effect) = done s t graph_thread effect
effect_step s t graph_thread None = None

abbrev pub node_step : FlowState → ℕ → GraphThread → Option Node → Option FlowState
node_step s t graph_thread (Some node) = effect_step s t graph_thread (effect_of node.action (seen_by s graph_thread))
node_step s t graph_thread None = None

abbrev pub graph_thread_step : Graph → FlowState → ℕ → Option GraphThread → Option FlowState
graph_thread_step g s t (Some graph_thread) = node_step s t graph_thread (slice_get g.nodes graph_thread.at)
graph_thread_step g s t None = None

-- the state after a step of thread t; none where there is no such step
unfoldable pub graph_step : Graph → FlowState → ℕ → Option FlowState
graph_step g s t = graph_thread_step g s t (slice_get s.graph_threads t)

-- ---- Runs

-- the state after the longest prefix of a schedule that can be stepped
abbrev pub graph_after : Graph → FlowState → (schedule : List ℕ) → FlowState
graph_after g s [] = s
graph_after g s (t ∷ ts) = elim (graph_step g s t) [
  | None ↦ s
  | Some next ↦ graph_after g next ts
]

-- the whole schedule can be stepped
abbrev pub graph_runs : Graph → FlowState → (schedule : List ℕ) → Bool
graph_runs g s [] = true
graph_runs g s (t ∷ ts) = elim (graph_step g s t) [
  | None ↦ false
  | Some next ↦ graph_runs g next ts
]

-- the thread stands between sections
abbrev pub is_between : FlowState → (thread : ℕ) → Bool
is_between s thread = holds_none s.holders thread

-- a step from the one state to the other ends a section of the thread
abbrev pub ends_section : FlowState → FlowState → (thread : ℕ) → ℕ
ends_section before after thread = if not (is_between before thread) && is_between after thread then 1 else 0

-- how many sections of the thread end in the longest prefix of a schedule that can be stepped
abbrev pub graph_ended : Graph → FlowState → (schedule : List ℕ) → (thread : ℕ) → ℕ
graph_ended g s [] thread = 0
graph_ended g s (t ∷ ts) thread = elim (graph_step g s t) [
  | None ↦ 0
  | Some next ↦ ends_section s next thread + graph_ended g next ts thread
]
