-- What is answered for a step of a thread through a graph.
use Rattle.std.specs.Prelude.{ℕ, List, slice_get, Option, Some, None, ℤ}
use Rattle.c_tree.specs.Values.{lock_number}
use Rattle.flow_graph.specs.Nodes.{Action, Eval, Store, Test, Lock, Unlock, End, Node, Graph}
use Rattle.flow_graph.specs.Actions.{GraphThread, FlowState, graph_step}
use Rattle.source_machine.specs.declared.answers.Stepped.{Stepped}
use Rattle.source_machine.specs.declared.answers.Stepped.TheVariants.{Did, Waits, Ended}

-- the number of the lock that the action takes, where locals have these numbers
abbrev pub taken_by : (locals : List ℤ) → Action → Option ℕ
taken_by ls (Lock lock next) = Some (lock_number ls lock)
taken_by ls (Eval target value next) = None
taken_by ls (Store variable kind next) = None
taken_by ls (Test condition holds fails) = None
taken_by ls (Unlock lock next) = None
taken_by ls End = None

abbrev pub taken_at : (locals : List ℤ) → Option Node → Option ℕ
taken_at ls (Some node) = taken_by ls node.action
taken_at ls None = None

-- where there is no step: the lock at which the thread stands, or that it has ended
abbrev pub stopped : (lock : Option ℕ) → Stepped
stopped (Some lock) = Waits lock
stopped None = Ended

-- what is answered at a node for its step, if there is one
abbrev pub answer_at : (locals : List ℤ) → Option Node → (step : Option FlowState) → Stepped
answer_at ls here (Some next) = Did
answer_at ls here None = stopped (taken_at ls here)

abbrev pub answer_of : Graph → Option GraphThread → (step : Option FlowState) → Stepped
answer_of g (Some graph_thread) step = answer_at graph_thread.locals (slice_get g.nodes graph_thread.at) step
answer_of g None step = Ended

-- `Did` where the thread has a step; else the lock at which it stands, or that it has ended
abbrev pub flow_stepped : Graph → FlowState → (thread : ℕ) → Stepped
flow_stepped g s t = answer_of g (slice_get s.graph_threads t) (graph_step g s t)
