-- A hart that is resumed has the registers that it has recorded.
use Rattle.recovered_threads.specs.RecordDescriptions.{DescribesAs}
use Rattle.std.proofs.Common.{◌≡◌, refl, ℕ, ◌<◌, List, [], length, ap, sym, ◌∙◌, subst, Bool, false, Contains, slice_get, slice_set, if◌then◌else◌, arith}
use Rattle.std.proofs.lemmas.Option.{slice_get_within}
use Rattle.machine_events.specs.declared.event.Event.TheVariants.{Step}
use Rattle.c_tree.specs.Source.{State}
use Rattle.rv64_isa.specs.Rows.{read}
use Rattle.machine_model.specs.declared.phase.Phase.TheVariants.{Resume}
use Rattle.machine_model.specs.Machine.{Hart, Outcome, World, happens, live_at, moved, resume_of, resumed_registers}
use Rattle.machine_model.proofs.Public.{get-set_same}
use Rattle.flow_graph.specs.Lockstep.{Matches}
use Rattle.hart_runs.specs.Calls.{IsInPhase}
use Rattle.hart_runs.proofs.Public.{resumes_step, same_there}
use Rattle.log_states.specs.Laws.{ResumesRecord}
use Rattle.log_states.specs.Logs.{IsRecorded, nothing_recorded}
use Rattle.log_states.specs.Machines.{config_of}
use Rattle.log_states.proofs.Public.{ends, log_facts}
use Rattle.recovered_threads.specs.RecordDescriptions.{Code, Describes}
use Rattle.recovered_threads.specs.RecoveryStates.{Gathers, HasGathered, IsRecoveredHart, ResumesThread}
use Rattle.recovered_threads.specs.RecordDescriptions.{CountsOn, IsInside, MayGoOn, NodePlace, ResumesAt, at_chosen, past_lock, past_unlock}
use Rattle.recovered_threads.specs.RecordDescriptions.{registers_kept, the_entry}
use Rattle.recovered_threads.proofs.Public.{harts_go_on}
use Rattle.thread_code.specs.Programs as table
use Rattle.thread_code.specs.Programs.{IsResumeAddress}
use Rattle.code_runs.specs.CodeTraces.{MarkedEnvironment}
use Rattle.code_runs.specs.ComputingRuns.{config}
use Rattle.hart_runs.specs.HartsOnRuns.{IsRunningAt}
use Rattle.expr_code.specs.EvaluationCode.{home_of}
use Rattle.expr_code.specs.declared.home.Home.TheVariants.{InFrame}
use Rattle.log_schemes.specs.Layout.{frame_at}
use Rattle.thread_code.specs.RegistersAtNodes.{Enters, LogView}
use Rattle.thread_runs.specs.CodeFragments.{IsPlaced}
use Rattle.thread_runs.specs.Laws.{AreResumed, MayEnterAgain, ResumedGoOn, node_resumed}
use Rattle.crash_simulation.proofs.Public.{placed}
use Rattle.log_schemes.specs.declared.log.Log.{Log}
use Rattle.log_states.specs.Logs.{Record, side_of}
use Rattle.boundary_code.specs.Boundaries.{IsOnSide}
use Rattle.flow_graph.specs.Actions.{FlowState, Seen, seen_by}
use Rattle.crash_simulation.specs.AbstractRuns.{kept_of}
use Rattle.crash_simulation.specs.AccountRelation.{MachinesResume}
use Rattle.crash_simulation.specs.SimulationRelation.{AreLocked, Simulates, gathered, gathering, records_of}
use Rattle.crash_simulation.specs.Systems.{System, IsSystem, flat_of, thread_count}
use Rattle.crash_simulation.specs.ThreadGhosts.{Rests, ThreadGhost}
use Rattle.crash_simulation.proofs.Public.{as_source, phase_of}
use Rattle.compiler_correctness.specs.Laws.{translation_of}
use Rattle.compiler_correctness.specs.Translations.{steps, world}
use Rattle.compiler_correctness.proofs.Public.{kept_is}
use Rattle.thread_runs.specs.CodeFragments.{on_machine}
use Rattle.thread_runs.specs.Laws.{IsUnderFragment}
use Rattle.resumption_facts.specs.RegistersResumed.{NeedsNoOthers, RegistersAreResumed, StandsResumed, view_in}

module _ (y : System) (s : IsSystem y) (w : World) (stands : Simulates y s w) (h : ℕ) (i : IsInPhase w h Resume) where
  open stands use {abstract as b}

  pub below : h < thread_count y
  below = let inside = slice_get_within w.harts h i.hart i.here in omega (arith, inside, stands.machine.count)

  abbrev pub code : Code y.plan
  code = s.codes.each h below

  abbrev pub ghost : ThreadGhost
  ghost = stands.ghosts h

  rests : Rests y b.config code.thread.number ghost
  rests = phase_of y s w h stands Resume i below

  ready_by : AreLocked y w b stands.ghosts → IsRecoveredHart w h ghost.new
  ready_by (gathering none gathers) = absurd (subst (Gathers w h (records_of stands.ghosts h)) i.phase_is (gathers.each h i.hart i.here))
  ready_by (gathered ag held) = subst (HasGathered w h (records_of stands.ghosts h)) i.phase_is (ag.each h i.hart i.here)

  ready : IsRecoveredHart w h ghost.new
  ready = ready_by stands.locks

  module _ (on_time : ghost.late ≡ false) where
    describes : Describes y.plan code (kept_of y b) ghost.new
    describes =
        subst (λ (late : Bool). DescribesAs y.plan code (kept_of y b) late ghost.new) on_time
        (subst (λ (done : Bool). DescribesAs y.plan code (kept_of y b) ghost.late (if done then ghost.new else ghost.old)) rests.committed
        (stands.each h below).records.describes)

    pub goes : ResumesThread y.runs.program code (kept_of y b) w i.hart ghost.new
    goes =
        harts_go_on y.runs.program y.plan code (kept_of y b) w ghost.new stands.machine.log describes
        (subst (λ (k : ℕ). IsRecoveredHart w k ghost.new) (sym (s.codes.number h below)) ready)
        (record { hart = i.hart; here = ap (slice_get w.harts) (s.codes.number h below) ∙ i.here; phase_is = i.phase_is })

    -- its log has the record
    pub recorded : IsRecorded w.log h ghost.new w.words
    recorded = let log = ready.log in ends w.log h nothing_recorded ghost.new (config_of w log.hart []) log.log refl

    reads : ResumesRecord w.log h ghost.new w.words
    reads = log_facts.registers_resumed.between w.log h ghost.new w.words ready.log.log.follows.new_is recorded

    -- the hart after the step is one
    same_hart : (one other : Hart) → happens y.runs.program w (Step h) ≡ moved w h one → happens y.runs.program w (Step h) ≡ moved w h other → one ≡ other
    same_hart one other first second =
        same_there (slice_get (slice_set w.harts h one) h) one other (get-set_same w.harts h one i.hart i.here)
        (ap (λ (o : Outcome). slice_get o.0.harts h) (sym first ∙ second) ∙ get-set_same w.harts h other i.hart i.here)

    pub has_registers : (register : ℕ) → Contains ghost.new.live register → read goes.after.registers register ≡ read ghost.new.registers register
    has_registers register kept =
        let step = resumes_step y.runs.program w h i in
        let own : happens y.runs.program w (Step h) ≡ moved w h goes.after =
        subst (λ (k : ℕ). happens y.runs.program w (Step k) ≡ moved w k goes.after) (s.codes.number h below) goes.does in
        let all : goes.after.registers ≡ resumed_registers w.log w.words h =
        ap (λ (x : Hart). x.registers) (same_hart goes.after step.after own step.does) ∙ step.registers in
        ap (λ (x : List ℕ). read x register) all ∙ reads.registers ready.inside register kept

-- ---- Other registers

module _ (go_on : ResumedGoOn) (y : System) (s : IsSystem y) (h : ℕ) (below : h < thread_count y) (state : FlowState) (recorded : Record)
    (told : IsInside y.plan (s.codes.each h below) state recorded) (v : World) (environment : MarkedEnvironment) (registers : List ℕ)
    (there : StandsResumed y (s.codes.each h below) recorded v environment registers) where
  abbrev own_code : Code y.plan
  own_code = s.codes.each h below

  open own_code use {thread, is, program as own_program}
  open told use {graph_thread, own}

  abbrev sees : Seen
  sees = seen_by state graph_thread

  abbrev node : ℕ
  node = told.graph_thread.at

  abbrev log_there : LogView
  log_there = view_in v recorded

  abbrev Leads : Type 0
  Leads = IsUnderFragment y.plan thread is.places (on_machine y.runs.program v thread.number environment) node sees log_there told.owed registers

  on_side : IsOnSide y.plan.log (side_of recorded) registers
  on_side = subst (λ (l : Log). IsOnSide l (side_of recorded) registers) (sym there.log) there.side

  placed_there : IsPlaced y.plan thread is.places v.log (length v.harts)
  placed_there = placed y s v h below there.log there.count

  -- a word of its frame that its record counts on
  counted_on : (local address : ℕ) → CountsOn y.plan thread node told.place local → home_of thread.locals local ≡ InFrame address →
      live_at v.words address ≡ told.view.frame address
  counted_on local address counts home =
      let own = placed_there.words local address home in
      let at : address ≡ frame_at y.plan.log thread.number own.word = own.is ∙ ap (λ (l : Log). frame_at l thread.number own.word) (sym there.log) in
      let has = (told.framed own.word).1 (record { local = local; counted = counts; home = home ∙ ap InFrame at }) in
      ap (live_at v.words) own.is ∙ (there.frame own.word has ∙ (told.frame own.word has ∙ ap told.view.frame (sym at)))

  leads : (address : ℕ) (r : IsResumeAddress y.plan thread is.places address) → IsRunningAt v thread.number (config registers address) →
      AreResumed y.plan thread is.places r sees log_there told.owed registers →
      IsUnderFragment y.plan thread is.places (on_machine y.runs.program v thread.number environment) (node_resumed y.plan thread is.places r) sees log_there
      told.owed registers
  leads address r =
      go_on y.plan thread y.runs.program own_program is v thread.number environment address r sees log_there told.owed registers placed_there there.meets
      there.agrees

  entered : recorded.live ≡ is.places.live node →
      ((local address : ℕ) → CountsOn y.plan thread node the_entry local → home_of thread.locals local ≡ InFrame address →
      live_at v.words address ≡ told.view.frame address) →
      Enters y.plan thread node sees told.view recorded.registers → MayEnterAgain y.plan thread is.places node sees log_there registers
  entered live counted enters = record {
    kept = recorded.registers;
    old = told.view;
    entered = enters;
    at_side = on_side;
    frame = counted;
    same = λ register has. there.same register (subst (λ (rs : List ℕ). Contains rs register) (sym live) has);
  }

  leads_from : (place : NodePlace) (address : ℕ) → ResumesAt y.plan own_code node place address → recorded.live ≡ registers_kept is.places node place →
      ((local word : ℕ) → CountsOn y.plan thread node place local → home_of thread.locals local ≡ InFrame word → live_at v.words word ≡ told.view.frame word) →
      MayGoOn y.plan thread node place sees told.view told.owed recorded.registers → IsRunningAt v thread.number (config registers address) → Leads
  leads_from _ _ (at_chosen chosen) live counted may at = leads _ (table.at_chosen node own chosen) at (record {
    kept = recorded.registers;
    old = told.view;
    ready = may.0;
    at_side = on_side;
    frame = counted;
    same = λ register has. there.same register (subst (λ (rs : List ℕ). Contains rs register) (sym live) has);
  })
  leads_from _ _ (past_lock from lock row from_own found locks) live counted may at =
      leads _ (table.past_lock from lock node row from_own found locks) at (entered live counted may)
  leads_from _ _ (past_unlock from lock row from_own found unlocks holds) live counted may at =
      leads _ (table.past_unlock from lock node row from_own found unlocks holds) at (entered live counted may)

  leads_on : Leads
  leads_on = leads_from told.place (resume_of recorded.point) told.resumes told.live counted_on told.may there.at

needs_no_others : ResumedGoOn → (y : System) (s : IsSystem y) (h : ℕ) (below : h < thread_count y) (state : FlowState) (recorded : Record) →
    (told : IsInside y.plan (s.codes.each h below) state recorded) → NeedsNoOthers y (s.codes.each h below) state recorded told
needs_no_others go_on y s h below state recorded told v environment registers there =
    leads_on go_on y s h below state recorded told v environment registers there

pub registers_are_resumed : MachinesResume → ResumedGoOn → RegistersAreResumed
registers_are_resumed machines go_on y s events h i =
    let w : World = world (translation_of y) events in
    let stands : Simulates y s w = (machines y s events).is.stands in
    let on_time : (stands.ghosts h).late ≡ false = ((machines y s events).is.counted.each h (below y s w stands h i)).on_time in
    record {
      recorded = (stands.ghosts h).new;
      log = recorded y s w stands h i on_time;
      below = below y s w stands h i;
      state = kept_of y stands.abstract;
      matches = subst (λ (z : State). Matches (flat_of y) (kept_of y stands.abstract) z)
          (sym (kept_is y s w (steps (translation_of y) events) (machines y s events))) (as_source y s stands.abstract).kept_matches;
      resumes = goes y s w stands h i on_time;
      registers = has_registers y s w stands h i on_time;
      few = (ready y s w stands h i).log.log.follows.new_is.live;
      needs_no_others = needs_no_others go_on y s h (below y s w stands h i) (kept_of y stands.abstract) (stands.ghosts h).new
          (goes y s w stands h i on_time).told;
    }
