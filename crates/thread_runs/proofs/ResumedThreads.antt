-- Threads that recovery resumes.
use Rattle.std.proofs.Common.{ℕ, List, [], length, sym, subst, refl}
use Rattle.c_tree.specs.Values.{lock_number}
use Rattle.std.specs.Prelude.{Contains, ℤ}
use Rattle.flow_graph.specs.Nodes.{Action, Node, successors}
use Rattle.flow_graph.specs.Actions.{Seen}
use Rattle.flow_graph.specs.Liveness.{NodeAt}
use Rattle.code_runs.specs.ComputingRuns.{config}
use Rattle.code_runs.specs.CodeTraces.{Program, Meets}
use Rattle.hart_runs.specs.HartsOnRuns.{Agrees, IsRunningAt}
use Rattle.thread_code.specs.Plans.{Plan, Thread, IsNodeOf}
use Rattle.thread_code.specs.RegistersAtNodes.{Enters, IsReady, LogView}
use Rattle.thread_code.specs.NodeCodeEffects.{Places}
use Rattle.thread_code.specs.Programs.{IsThreadCode, IsResumeAddress, at_chosen, past_lock, past_unlock}
use Rattle.thread_code.proofs.Public.{enters_again, ready_again}
use Rattle.thread_runs.specs.CodeFragments.{Running, IsPlaced, on_machine}
use Rattle.thread_runs.specs.Laws.{node_resumed, AreResumed, IsReadyAgain, IsUnderFragment, MayEnterAgain, at_core, arrives, ResumedGoOn}
use Rattle.thread_runs.proofs.FragmentStarts.{locks_go_on, unlocks_go_on, contains_first}

module _ {p : Plan} {t : Thread} {own : Program} (code : IsThreadCode p t own) (running : Running) (seen : Seen) (view : LogView) (owed : ℤ)
    (registers : List ℕ)
    (placed : IsPlaced p t code.places running.world.log (length running.world.harts)) (meets : Meets code.places.program running.environment)
    (agrees : Agrees running.program running.world running.hart running.environment) where
  open running use {program, world as w, hart as h, environment as s}

  abbrev c : Places
  c = code.places

  enters : (node : ℕ) → IsNodeOf t node → MayEnterAgain p t c node seen view registers → Enters p t node seen view registers
  enters node of r = enters_again p t node seen r.old view r.kept registers (c.live node) (code.live node of) r.entered r.at_side r.frame r.same

  ready : (node : ℕ) → IsNodeOf t node → IsReadyAgain p t c node seen view owed registers → IsReady p t node seen view owed registers
  ready node of r = ready_again p t node seen r.old view owed r.kept registers (c.kept node) (code.kept node of) r.ready r.at_side r.frame r.same

  follows : (from next : ℕ) (is : Node) → IsNodeOf t from → NodeAt p.graph from is → Contains (successors is.action) next → IsNodeOf t next
  follows from next is of found goes = placed.closed from next is of found goes

  pub goes_on : (address : ℕ) (r : IsResumeAddress p t c address) → IsRunningAt w h (config registers address) →
      AreResumed p t c r seen view owed registers → IsUnderFragment p t c running (node_resumed p t c r) seen view owed registers
  goes_on address (at_chosen node of chosen) at r = at_core (record { own = of; at = at; ready = ready node of r })
  goes_on address (past_lock from lock next is of found locks) at r =
      let goes : Contains (successors is.action) next = subst (λ (a : Action). Contains (successors a) next) (sym locks) (contains_first next []) in
      arrives from of
      (locks_go_on p t from seen.locals (lock_number seen.locals lock) next
      (record { own = of; is = is; at = found; lock = lock; locks = locks; number = refl }) program own code w h s seen view registers placed meets agrees at
      (enters next (follows from next is of found goes) r))
  goes_on address (past_unlock from lock next is of found unlocks holds) at r =
      let goes : Contains (successors is.action) next = subst (λ (a : Action). Contains (successors a) next) (sym unlocks) (contains_first next []) in
      arrives from of
      (unlocks_go_on p t from seen.locals (lock_number seen.locals lock) next
      (record { own = of; is = is; at = found; lock = lock; unlocks = unlocks; number = refl }) program own code w h s seen view registers placed meets
      agrees at (enters next (follows from next is of found goes) r))

pub resumed_go_on : ResumedGoOn
resumed_go_on p t program own code w h s address r seen view owed registers placed meets agrees at resumed =
    goes_on code (on_machine program w h s) seen view owed registers placed meets agrees address r at resumed
