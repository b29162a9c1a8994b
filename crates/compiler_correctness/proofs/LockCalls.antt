-- At a call that takes a lock, the thread stands at that lock.
use Rattle.std.proofs.Common.{◌≡◌, ◌⊎◌, inl, inr, ℕ, List, ap, arith, sym, ◌∙◌, subst, Some, slice_get}
use Rattle.std.proofs.lemmas.Option.{none-some, same_Some}
use Rattle.source_machine.specs.Mutexes.{locks}
use Rattle.rv64_isa.specs.declared.instr.Instr.{Instr}
use Rattle.rv64_isa.specs.declared.instr.Instr.TheVariants.{Ecall}
use Rattle.machine_model.specs.declared.phase.Phase.TheVariants.{Run}
use Rattle.rv64_isa.specs.Rows.{read, row}
use Rattle.machine_model.specs.Machine.{Hart, World}
use Rattle.code_runs.specs.ComputingRuns.{LocalConfig, config}
use Rattle.code_runs.specs.CodeTraces.{passed}
use Rattle.hart_runs.specs.HartsOnRuns.{instr_at}
use Rattle.hart_runs.specs.Calls.{IsAtCall, IsInPhase, lock_asked}
use Rattle.recovery_semantics.specs.Configs.{now}
use Rattle.thread_runs.specs.Laws.{MarksPass}
use Rattle.thread_runs.specs.CodeFragments.{ExitPoint, Asks}
use Rattle.recovered_threads.proofs.Public.{same_there}
use Rattle.crash_simulation.specs.Systems.{System, IsSystem}
use Rattle.crash_simulation.specs.AbstractRuns.{AbstractRun, now_of}
use Rattle.crash_simulation.specs.SimulationRelation.{AreHeld, IsGiving, Simulates}
use Rattle.crash_simulation.specs.InstructionSteps as moving
use Rattle.crash_simulation.specs.InstructionSteps.{OnFragmentNow, Site}
use Rattle.crash_simulation.proofs.Public.{view, same_number, fragment, lock, locks_it, runs_held, runs_ready, RunsOn, IsWhere, on_run, at_call, is_where}

-- no instruction on a run is a call
pub no_pass : (around : _) (m to : LocalConfig) (instr : Instr) → instr ≡ Ecall → passed around m (row instr m.registers m.pc) ≡ Some to → ⊥
unfolding row
no_pass around m to instr is does = none-some to (sym (ap (λ (x : Instr). passed around m (row x m.registers m.pc)) is) ∙ does)

no_call : (y : System) (w : World) (h number : ℕ) → RunsOn y w h → IsAtCall y.runs.program w h number → ⊥
no_call y w h number r a =
    let on = r.run.on in
    let same : on.hart ≡ a.hart = same_there (slice_get w.harts h) on.hart a.hart on.here a.here in
    let passes = on.walks.3 in
    let fetched : instr_at y.runs.program h on.hart.pc ≡ Some passes.instr = r.agrees.fetches on.hart.pc passes.instr passes.stands in
    let calls : instr_at y.runs.program h on.hart.pc ≡ Some Ecall = ap (λ (x : Hart). instr_at y.runs.program h x.pc) same ∙ a.calls in
    no_pass r.run.environment.around (config on.hart.registers on.hart.pc) on.walks.0 passes.instr
    (same_Some passes.instr Ecall (sym fetched ∙ calls)) passes.does

-- the thread stands at the lock, and has all that the hart holds
pub record TakesAs (y : System) (w : World) (b : AbstractRun y) (h : ℕ) (a : IsAtCall y.runs.program w h 1) : Type 0 where
  pub locks_it : locks (now b.config) h ≡ Some (lock_asked a.hart)
  pub holds_only : (lock : ℕ) → slice_get w.holders lock ≡ Some (Some h) → slice_get (now_of y b).holders lock ≡ Some (Some h)

abbrev Takes : (y : System) → World → AbstractRun y → (h : ℕ) → Type 0
Takes y w b h = (a : IsAtCall y.runs.program w h 1) → TakesAs y w b h a

module _ {y : System} {s : IsSystem y} {w : World} {h : ℕ} (site : Site y s w h) (held : AreHeld w site.stands.ghosts (now_of y site.stands.abstract)) where
  open site use {stands, below}
  open view site use {b, code, c as ghost, t as thread, n}

  -- ---- At the end of a fragment

  module _ {exit : ExitPoint} (o : OnFragmentNow site exit 0) (a : IsAtCall y.runs.program w n 1) where
    registers_are : a.hart.registers ≡ (fragment site held o).registers
    registers_are =
        let there = fragment site held o in
        ap (λ (x : Hart). x.registers) (same_there (slice_get w.harts n) a.hart there.on.hart a.here there.on.here)
        ∙ ap (λ (x : LocalConfig). x.registers) there.on.walks.0

    asks_one : read (fragment site held o).registers 17 ≡ 1
    asks_one = ap (λ (x : List ℕ). read x 17) (sym registers_are) ∙ a.asks

  none_given : (mutex next : ℕ) → OnFragmentNow site (Asks mutex next) 0 → (lock : ℕ) →
      (slice_get (now_of y b).holders lock ≡ Some (Some n)) ⊎ IsGiving stands.ghosts (now_of y b) lock n →
      slice_get (now_of y b).holders lock ≡ Some (Some n)
  none_given mutex next o one (inl has) = has
  none_given mutex next o one (inr gives) =
      absurd (none-some one (sym (ap (λ (k : ℕ). (stands.ghosts k).giving) (s.codes.number h below) ∙ o.fits.0.goes.giving) ∙ gives.gives))

  by_call : (exit : ExitPoint) → OnFragmentNow site exit 0 → moving.IsCalling exit → Takes y w b n
  by_call _ o (moving.asks mutex next) a =
      let there = fragment site held o in
      let is : lock_asked a.hart ≡ mutex = ap (λ (x : List ℕ). read x 10) (registers_are o a) ∙ there.has.lock in
      record {
        locks_it = locks_it y s b code thread.graph_thread thread.walks mutex next (lock site held o) ∙ ap (λ (x : ℕ). Some x) (sym is);
        holds_only = λ one has. none_given mutex next o one (held.held one n has);
      }
  by_call _ o (moving.gives from mutex) a =
      let there = fragment site held o in
      let one = asks_one o a in
      let two = there.has.call in
      absurd (omega (arith, one, two))
  by_call _ o moving.ends a =
      let there = fragment site held o in
      let one = asks_one o a in
      let three = there.has in
      absurd (omega (arith, one, three))

  where_takes : IsWhere site → Takes y w b n
  where_takes (on_run r) a = absurd (no_call y w n 1 r a)
  where_takes (at_call exit o calling) a = by_call exit o calling a

-- a hart that takes a mutex does so where its thread is at that lock, whatever abstract run the machine simulates
pub takes_as : MarksPass → (y : System) (s : IsSystem y) (w : World) (h : ℕ) (stands : Simulates y s w) → Takes y w stands.abstract h
takes_as marks y s w h stands a =
    let i : IsInPhase w h Run = record { hart = a.hart; here = a.here; phase_is = a.runs } in
    let r = runs_ready y s w h stands i in
    let site = r.site in
    let z = site.stands in
    let held = (runs_held y s w z.abstract z.ghosts h z.machine.log z.machine.sound i z.locks).1 in
    let takes = subst (λ (k : ℕ). Takes y w z.abstract k) (same_number site) (where_takes site held (is_where site marks r.ready)) in
    subst (λ (b : AbstractRun y). TakesAs y w b h a) r.similar.abstract (takes a)
