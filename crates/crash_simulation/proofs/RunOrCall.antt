-- Where a hart that executes instructions is: on a run, or at a call.
use Rattle.crash_simulation.proofs.Common.{ℤ, Computes, LogView, stores_local}
use Rattle.crash_simulation.proofs.LoggedNodeSteps.{mark as logged_mark}
use Rattle.crash_simulation.proofs.LocalStoreSteps.{at_store}
use Rattle.crash_simulation.proofs.PastStoreSteps.{mark as past_mark}
use Rattle.crash_simulation.specs.InstructionSteps.{AtPastNow, again, outside}
use Rattle.crash_simulation.proofs.Common.{◌≢◌, ℕ, List, suc, LockName, World, Seen, NodeAt, Node, Lock, MarkedEnvironment, Agrees, OnRun, ExitPoint}
use Rattle.crash_simulation.proofs.Common.{on_machine, run_of, MarksPass, run_at, IsAtSomeMark, Code, Site, IsReadyToStep, calls, OnFragmentNow}
use Rattle.crash_simulation.proofs.Common.{thread_of, AtCoreNow, System, IsSystem, ThreadGhost, ThreadInv}
use Rattle.flow_graph.specs.Actions.{Effect}
use Rattle.crash_simulation.specs.InstructionSteps.{IsCalling, at_core, on_fragment}
use Rattle.crash_simulation.proofs.OwnHartSteps.{AtNode}
use Rattle.crash_simulation.proofs.NodeCodeSteps.{found, by_node}
use Rattle.crash_simulation.proofs.LocalNodeSteps.{mark as quietly_mark}
use Rattle.crash_simulation.proofs.StoreNodeSteps.{mark as making_mark}
use Rattle.crash_simulation.proofs.UnlockNodeSteps.{mark as unlocking_mark}

-- ---- Where a hart that executes instructions is

-- hart h stands on a run, before its end
pub record RunsOn (y : System) (w : World) (h : ℕ) : Type 0 where
  pub run : OnRun w h
  pub agrees : Agrees y.runs.program w h run.environment

module _ {y : System} {s : IsSystem y} {w : World} {h : ℕ} (site : Site y s w h) where
  open site use {stands, below}
  open stands use {abstract as b}

  abbrev code : Code y.plan
  code = s.codes.each h below

  abbrev ghost : ThreadGhost
  ghost = stands.ghosts h

  abbrev thread : ThreadInv y w b code ghost
  thread = thread_of site

  open code.thread use {number as n}
  open thread use {graph_thread}

  -- in a fragment
  fragments : {exit : ExitPoint} (steps : ℕ) → OnFragmentNow site exit (suc steps) → RunsOn y w n
  fragments steps o = record { run = run_of y.plan code.thread code.is.places o.fragment; agrees = o.fragment.agrees }

  -- at a node's code it is at the node's mark
  at_mark : {z : MarkedEnvironment} {node : ℕ} {old : LogView} {at : Seen} {registers : List ℕ} {e : Effect} →
      IsAtSomeMark y.plan code.thread code.is.places (on_machine y.runs.program w n z) node at old registers e → RunsOn y w n
  at_mark mark = record { run = run_at y.plan code.thread code.is.places mark.at; agrees = mark.at.agrees }

  cores : MarksPass → (core : AtCoreNow site) →
      ((is : Node) (lock : LockName) (next : ℕ) → NodeAt y.plan.graph thread.graph_thread.at is → is.action ≢ Lock lock next) → RunsOn y w n
  cores marks core free =
      let node : AtNode y s w h = record { hart = site; core = core } in
      let at = found node in
      by_node node (RunsOn y w n) free (λ e does quiet plain. at_mark (quietly_mark node at.0 at.1 (record { e = e; does = does; quiet = quiet }) plain))
      (λ logged. at_mark (logged_mark node at.0 at.1 logged))
      (λ makes. at_mark (making_mark node at.0 at.1 makes))
      (λ lock next is. at_mark (unlocking_mark node at.0 at.1 (record { lock = lock; next_node = next; action = is })))

  -- at the store of a local outside sections
  stores : (from local : ℕ) (number : ℤ) → OnFragmentNow site (Computes from local number) 0 → RunsOn y w n
  stores from local number o =
      let at = at_store site from local number o in
      record { run = run_of y.plan code.thread code.is.places at.on; agrees = at.on.agrees }

  -- once more
  stores_again : AtPastNow site → RunsOn y w n
  stores_again o = let at = (past_mark site o).at in record { run = run_at y.plan code.thread code.is.places at; agrees = at.agrees }

  -- a hart that executes instructions is on a run, or at a call
  pub data IsWhere : Type 0 where
    on_run : RunsOn y w n → IsWhere
    at_call : (exit : ExitPoint) → OnFragmentNow site exit 0 → IsCalling exit → IsWhere

  pub is_where : MarksPass → IsReadyToStep site → IsWhere
  is_where marks (on_fragment exit steps o) = on_run (fragments steps o)
  is_where marks (calls exit o calling) = at_call exit o calling
  is_where marks (stores_local (outside from local number o)) = on_run (stores from local number o)
  is_where marks (stores_local (again o)) = on_run (stores_again o)
  is_where marks (at_core core free) = on_run (cores marks core free)
