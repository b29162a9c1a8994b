-- A hart that is resumed goes on where its record says.
use Rattle.std.proofs.Common.{◌≡◌, ℕ, ℤ, ◌==◌, List, [], refl, ap, sym, ◌∙◌, subst}
use Rattle.std.specs.List.{Contains}
use Rattle.std.proofs.lemmas.Bool.{cond-false, ne_eqb}
use Rattle.log_schemes.specs.declared.log.Log.{Log}
use Rattle.rv64_isa.specs.declared.object.Slot.{Slot}
use Rattle.machine_events.specs.declared.event.Event.TheVariants.{Step}
use Rattle.machine_model.specs.declared.phase.Phase.TheVariants.{Resume}
use Rattle.rv64_isa.specs.Rows.{read}
use Rattle.machine_model.specs.Machine.{World, after_event, resume_of, resumed_registers}
use Rattle.boundary_code.specs.Boundaries.{IsOnSide}
use Rattle.boundary_code.proofs.Public.{stays_on_side}
use Rattle.log_states.specs.Logs.{IsDurable, IsRecord, Record, frame_in, framed_of, nothing_recorded, side_of}
use Rattle.log_states.specs.Machines.{config_of}
use Rattle.log_states.specs.Laws as log
use Rattle.log_states.proofs.Public.{ends, log_facts}
use Rattle.code_runs.specs.ComputingRuns.{config}
use Rattle.hart_runs.specs.Calls as runs
use Rattle.hart_runs.specs.HartsOnRuns.{IsRunningAt}
use Rattle.hart_runs.proofs.Public.{moved_harts_begin, resumes_step}
use Rattle.flow_graph.specs.Actions.{FlowState, Seen, seen_by}
use Rattle.thread_code.specs.Plans.{Plan, IsNodeOf}
use Rattle.thread_code.specs.Programs as c
use Rattle.thread_code.specs.RegistersAtNodes.{IsReady, LogView}
use Rattle.thread_code.proofs.Public.{enters_again, ready_again}
use Rattle.recovered_threads.specs.RecordDescriptions.{Code, ResumesAt, at_chosen, past_lock, past_unlock, IsCountedWord, IsInside, between, inside}
use Rattle.recovered_threads.specs.RecordDescriptions.{AreCounted, IsPastAssignment, MayGoOn, NodePlace, registers_kept, the_core, the_entry, words_in}
use Rattle.recovered_threads.specs.RecoveryStates.{IsRecoveredHart, ResumesLate, ResumesThread, view_resumed}
use Rattle.recovered_threads.specs.Laws.{HartsGoOn, LateHartsGoOn}

-- an address of the thread's table
pub resumed_there : (p : Plan) (code : Code p) (node : ℕ) (place : NodePlace) (address : ℕ) → IsNodeOf code.thread node →
    ResumesAt p code node place address → c.IsResumeAddress p code.thread code.is.places address
resumed_there p code node _ address own (at_chosen chosen) = c.at_chosen node own chosen
resumed_there p code node _ address own (past_lock from lock is from_own at locks) = c.past_lock from lock node is from_own at locks
resumed_there p code node _ address own (past_unlock from lock is from_own at unlocks holds) = c.past_unlock from lock node is from_own at unlocks holds

module _ (program : List (List Slot)) {p : Plan} (code : Code p) {w : World} {r : Record} (logs : p.log ≡ w.log)
    (ready : IsRecoveredHart w code.thread.number r) (i : runs.IsInPhase w code.thread.number Resume) where
  abbrev h : ℕ
  h = code.thread.number

  is_record : IsRecord w.log r
  is_record = ready.log.log.follows.new_is

  recovered : log.ResumesRecord w.log h r w.words
  recovered =
      log_facts.registers_resumed.between w.log h r w.words is_record (ends w.log h nothing_recorded r (config_of w ready.log.hart []) ready.log.log refl)

  step : runs.ResumesHart program w h i.hart
  step = resumes_step program w h i

  -- each register is the one that the record says
  read_at : (register : ℕ) → read step.after.registers register ≡ read (resumed_registers w.log w.words h) register
  read_at register = ap (λ (x : List ℕ). read x register) step.registers

  at_side : IsOnSide w.log (side_of r) step.after.registers
  at_side =
      let on = recovered.side.registers in
      stays_on_side w.log (side_of r) _ step.after.registers on step.count (read_at 0 ∙ on.zero_is) (read_at _)

  pc_is : step.after.pc ≡ resume_of r.point
  pc_is = step.pc ∙ ap resume_of recovered.point

  -- what the boundary kept is there
  same : (kept : List ℕ) → r.live ≡ kept → (register : ℕ) → Contains kept register → read step.after.registers register ≡ read r.registers register
  same kept is register has =
      let mine : Contains r.live register = subst (λ (rs : List ℕ). Contains rs register) (sym is) has in
      read_at register ∙ recovered.registers ready.inside register mine

  on_record : IsOnSide p.log (side_of r) step.after.registers
  on_record = subst (λ (l : Log). IsOnSide l (side_of r) step.after.registers) (sym logs) at_side

  ready_again_at : (node : ℕ) → IsNodeOf code.thread node → (seen : Seen) (view : LogView) (owed : ℤ) → r.live ≡ code.is.places.kept node →
      IsReady p code.thread node seen view owed r.registers → IsReady p code.thread node seen (view_resumed r view) owed step.after.registers
  ready_again_at node own seen view owed is may =
      ready_again p code.thread node seen view (view_resumed r view) owed r.registers step.after.registers (code.is.places.kept node)
      (code.is.kept node own) may
      on_record (λ local word counted home. refl) (same (code.is.places.kept node) is)

  -- and so are the words of the frame on which it counts
  framed : (node : ℕ) (place : NodePlace) (view : LogView) → AreCounted p code.thread node place r.framed →
      ((word : ℕ) → Contains r.framed word → r.frame word ≡ words_in p.log h view word) → (word : ℕ) → IsCountedWord p code.thread node place word →
      IsDurable (frame_in w.log w.words h word) (words_in p.log h view word)
  framed node place view are frame word counted =
      let named : Contains r.framed word = (are word).1 counted in
      let all : framed_of r ≡ r.framed = cond-false (r.point == 0) [] r.framed (ne_eqb r.point 0 ready.inside) in
      subst (λ (n : ℕ). IsDurable (frame_in w.log w.words h word) n) (frame word named)
      (recovered.frame word (subst (λ (words : List ℕ). Contains words word) (sym all) named))

  begins_there : IsRunningAt (after_event program w (Step h)) h (config step.after.registers step.after.pc)
  begins_there = moved_harts_begin program w w h i.hart step.after i.here step.does step.runs

  module _ {kept : FlowState} (told : IsInside p code kept r) where
    abbrev node : ℕ
    node = told.graph_thread.at

    abbrev seen : Seen
    seen = seen_by kept told.graph_thread

    abbrev view : LogView
    view = view_resumed r told.view

    may_again : (place : NodePlace) → r.live ≡ registers_kept code.is.places node place →
        MayGoOn p code.thread node place seen told.view told.owed r.registers → MayGoOn p code.thread node place seen view told.owed step.after.registers
    may_again the_entry is enters =
        enters_again p code.thread node seen told.view view r.registers step.after.registers (code.is.places.live node) (code.is.live node told.own) enters
        on_record (λ local word live home. refl) (same (code.is.places.live node) is)
    may_again the_core is may = (ready_again_at node told.own seen told.view told.owed is may.0, may.1)

    goes_on : ResumesThread program code kept w i.hart r
    goes_on = record {
      told = told;
      after = step.after;
      does = step.does;
      runs = step.runs;
      pc = pc_is;
      listed = (code.is.resumes step.after.pc).1 (subst (λ (a : ℕ). c.IsResumeAddress p code.thread code.is.places a) (sym pc_is)
          (resumed_there p code node told.place (resume_of r.point) told.own told.resumes));
      may = may_again told.place told.live told.may;
      frame = framed node told.place told.view told.framed told.frame;
      at_record = record { registers = at_side; is = recovered.side.is };
      queue = step.queue;
      begins = begins_there;
    }

  goes_on_late : {kept : FlowState} → IsPastAssignment p code kept r → ResumesLate program code kept w i.hart r
  goes_on_late {kept} told = record {
    told = told;
    after = step.after;
    does = step.does;
    runs = step.runs;
    pc = pc_is;
    ready = ready_again_at told.node told.own_node (seen_by kept told.graph_thread) told.view told.owed told.live told.ready;
    frame = framed told.node the_core told.view told.framed told.frame;
    at_record = record { registers = at_side; is = recovered.side.is };
    queue = step.queue;
    begins = begins_there;
  }

pub harts_go_on : HartsGoOn
harts_go_on program p code kept w r logs (between none point) ready i = absurd (ready.inside point)
harts_go_on program p code kept w r logs (inside some told) ready i = goes_on program code logs ready i told

pub late_harts_go_on : LateHartsGoOn
late_harts_go_on program p code kept w r logs told ready i = goes_on_late program code logs ready i told
