-- No hart is stuck, and none waits for a lock of its record.
use Rattle.crash_simulation.proofs.Common.{◌≡◌, ◌≢◌, ℕ, sym, ◌∙◌, ap, arith, subst, Option, Some, None, refl, [], inl, inr, slice_get, Cause, Step, Still}
use Rattle.crash_simulation.proofs.Common.{Stuck, Hart, World, happens, reply_to, stepped, Phase, Run, get_cases, no_more, IsInPhase, ExitPoint, MarksPass}
use Rattle.crash_simulation.proofs.Common.{locks_are_well, unlocks_are_well, ends_are_well, HasGathered, takes_never_wait, now_of, Site, gives, ends}
use Rattle.crash_simulation.proofs.Common.{OnFragmentNow, asks, NoneIsStuck, TakesMove, Simulates, AreHeld, gathering, gathered, records_of, System, IsSystem}
use Rattle.crash_simulation.specs.InstructionSteps.{IsCalling}
use Rattle.hart_runs.specs.Calls as harts
use Rattle.hart_runs.proofs.Public as harts_well
use Rattle.crash_simulation.proofs.NodeEnvironments.{reading}
use Rattle.crash_simulation.proofs.LocksAfterStep.{runs_held}
use Rattle.crash_simulation.proofs.LocksAtCalls.{mutex_there}
use Rattle.crash_simulation.proofs.ReadyHarts.{runs_ready}
use Rattle.crash_simulation.proofs.RunOrCall.{IsWhere, on_run, at_call, is_where}
use Rattle.crash_simulation.proofs.OwnHartSteps.{view, same_number}
use Rattle.crash_simulation.proofs.LockCallSteps as at_calls
use Rattle.crash_simulation.proofs.CallSteps as calls
use Rattle.crash_simulation.proofs.SimulationInRecovery as recovering

-- hart h is not stuck
abbrev IsFree : System → World → (h : ℕ) → Type 0
IsFree y w h = (cause : Cause) → reply_to y.runs.program w (Step h) ≢ Stuck cause

-- ---- A hart in Run that is ready

module _ {y : System} {s : IsSystem y} {w : World} {h : ℕ} (site : Site y s w h) where
  open site use {stands, below}
  open view site use {b, code, t, n, graph_thread, seen}

  -- at its end, where the thread makes a call
  module _ (held : AreHeld w stands.ghosts (now_of y b)) where
    by_call : (exit : ExitPoint) → IsCalling exit → OnFragmentNow site exit 0 → IsFree y w n
    by_call _ (asks mutex next) o =
        let fragment = at_calls.asks (at_calls.at_end site held o) in
        let within = mutex_there y s b code graph_thread t.walks mutex next fragment.of_graph in
        elim (get_cases w.holders mutex) [
          | inl none ↦ let long = no_more w.holders mutex none in absurd (omega (arith, long, stands.machine.mutexes, within))
          | inr there ↦
              locks_are_well harts_well.none_is_stuck y.plan code.thread y.runs.program code.program code.is w n (reading site []) graph_thread.at mutex
              next seen o.view [] there.0 fragment there.1
        ]
    by_call _ (gives from mutex) o =
        let at = at_calls.at_end site held o in
        unlocks_are_well harts_well.none_is_stuck y.plan code.thread y.runs.program code.program code.is w n (reading site []) from mutex
        graph_thread.at seen o.view [] (calls.giving at) (calls.owns at)
    by_call _ ends o =
        let at = at_calls.at_end site held o in
        ends_are_well harts_well.none_is_stuck y.plan code.thread y.runs.program code.program code.is w n (reading site []) graph_thread.at seen o.view []
        (calls.ending at) (at_calls.none_from n 0 w.holders (calls.none_here at))

  by_where : AreHeld w stands.ghosts (now_of y b) → IsWhere site → IsFree y w n
  by_where held (on_run r) = harts_well.none_is_stuck y.runs.program w n (harts.on_run r.run r.agrees)
  by_where held (at_call exit o calling) = by_call held exit calling o

-- ---- Whichever hart

module _ (marks : MarksPass) (y : System) (s : IsSystem y) (w : World) (stands : Simulates y s w) (h : ℕ) where
  by_phase : (phase : Phase) → IsInPhase w h phase → IsFree y w h
  by_phase Run i =
      let r = runs_ready y s w h stands i in
      let site = r.site in
      let z = site.stands in
      let held = (runs_held y s w z.abstract z.ghosts h z.machine.log z.machine.sound i z.locks).1 in
      subst (λ (n : ℕ). IsFree y w n) (same_number site) (by_where site held (is_where site marks r.ready))
  by_phase phase i = harts_well.none_is_stuck y.runs.program w h (harts.apart phase refl i)

  -- nothing happens where there is no hart
  still : slice_get w.harts h ≡ None → reply_to y.runs.program w (Step h) ≡ Still
  unfolding happens
  still none = ap (λ (o : Option Hart). (stepped y.runs.program w h o).1) none

  free_by : (o : Option Hart) → slice_get w.harts h ≡ o → IsFree y w h
  free_by None none cause = λ stuck. let no : Still ≡ Stuck cause = sym (still none) ∙ stuck in cc
  free_by (Some hart) here cause = by_phase hart.phase (record { hart = hart; here = here; phase_is = refl }) cause

pub none_is_stuck : MarksPass → NoneIsStuck
none_is_stuck marks y s w stands h = free_by marks y s w stands h (slice_get w.harts h) refl

-- ---- A hart that takes its locks

pub takes_move : TakesMove
takes_move y s w h stands i = elim stands.locks [
  | gathering none gathers ↦ (takes_never_wait y.runs.program w (records_of stands.ghosts) h gathers (recovering.apart y s w h stands none gathers) i).0
  | gathered ag held ↦ absurd (subst (HasGathered w h (records_of stands.ghosts h)) i.phase_is (ag.each h i.hart i.here))
]
