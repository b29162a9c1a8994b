-- The run of a flat form's graph, in lockstep with that of its source.
use Rattle.std.specs.Prelude.{◌≡◌, ℕ, List}
use Rattle.c_tree.specs.Flats as f
use Rattle.c_tree.specs.Source as m
use Rattle.c_tree.specs.WellFormed.{IsWellFormed}
use Rattle.flow_graph.specs.Lowering.{lowered}
use Rattle.flow_graph.specs.Actions.{FlowState, graph_start, graph_after, graph_ended}
use Rattle.flow_graph.specs.Lockstep.{Matches}
use Rattle.source_machine.specs.Runs.{stepped_of}
use Rattle.flow_machine.specs.Answers.{flow_stepped}

-- in states that match each thread's step is answered the same
abbrev pub AnswersAgree : Type 0
AnswersAgree = (x : f.Flat) (flow : FlowState) (source : m.State) (thread : ℕ) → IsWellFormed x → Matches x flow source →
    flow_stepped (lowered x) flow thread ≡ stepped_of source thread

-- after each schedule each thread's step is answered the same, the variables and holders are the same, and as many sections have ended
pub record KeepsStep (x : f.Flat) (schedule : List ℕ) : Type 0 where
  pub answered : (thread : ℕ) →
      flow_stepped (lowered x) (graph_after (lowered x) (graph_start (lowered x) x) schedule) thread ≡ stepped_of (m.after_from (m.start x) schedule) thread
  pub variables : (graph_after (lowered x) (graph_start (lowered x) x) schedule).variables ≡ (m.after_from (m.start x) schedule).variables
  pub holders : (graph_after (lowered x) (graph_start (lowered x) x) schedule).holders ≡ (m.after_from (m.start x) schedule).holders
  pub sections : (thread : ℕ) → graph_ended (lowered x) (graph_start (lowered x) x) schedule thread ≡ m.ended_from (m.start x) schedule thread

abbrev pub RunsInLockstep : Type 0
RunsInLockstep = (x : f.Flat) (schedule : List ℕ) → IsWellFormed x → KeepsStep x schedule
