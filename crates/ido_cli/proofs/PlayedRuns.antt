-- What is played of a compiled source: the machine and the kept steps of its translation, which are those of the source.
use Rattle.std.proofs.Common.{◌≡◌, refl, ℕ, suc, ◌+◌, ◌<◌, ◌≤◌, List, [], ◌∷◌, ◌++◌, length, map, take}
use Rattle.std.proofs.Common.{sym, ◌∙◌, ap, ap₂, subst, Option, Some, None, min, slice_index_or, zero-add, Bool, true, false, ◌==◌}
use Rattle.std.proofs.lemmas.List.{append-nil, length-map, take_all}
use Rattle.std.specs.Prelude.{if◌then◌else◌}
use Rattle.log_schemes.specs.declared.log.Log.{Log}
use Rattle.machine_events.specs.declared.event.Event.{Event}
use Rattle.machine_events.specs.Cores.{finished_fences, passed_count, played}
use Rattle.ido_base.specs.declared.limits.TheConstants.{MOST_EVENTS}
use Rattle.c_tree.specs.Flats as f
use Rattle.c_tree.specs.Source as m
use Rattle.machine_model.specs.declared.object.Object.{Object}
use Rattle.rv64_isa.specs.declared.object.Marks.{Marks}
use Rattle.rv64_isa.specs.declared.object.Slot.{Slot}
use Rattle.machine_model.specs.Executables.{Executable}
use Rattle.machine_model.specs.Machine.{World, after_event, after_events, machine_start, start_of}
use Rattle.log_schemes.specs.Schemes.{numbers_from}
use Rattle.machine_model.specs.Frames.{IsWellFormedWorld}
use Rattle.rv64_isa.specs.Programs.{slot_of}
use Rattle.machine_model.specs.Objects.{program_of}
use Rattle.machine_model.specs.Schedule.{Steps, first_steps, steps_along, schedules}
use Rattle.machine_model.proofs.Public.{queues_stand, starts_simulate}
use Rattle.flow_graph.specs.declared.cuts.Cuts.{Cuts}
use Rattle.flow_graph.specs.Nodes.{Graph}
use Rattle.flow_graph.specs.Lowering.{parts, thread_count}
use Rattle.flow_graph.proofs.Public.{lowered_threads}
use Rattle.c_tree.specs.WellFormed.{shape_of}
use Rattle.memory_layout.specs.Variables.{HaveRoom}
use Rattle.variable_words.proofs.Public.{well_formed_placed}
use Rattle.variable_words.specs.Variables.{durable_variables}
use Rattle.flat_compile.specs.TranslatedForms.{IsTranslatedAs}
use Rattle.compiler_correctness.specs.Translations.{world, steps, translation_to}
use Rattle.compiler_correctness.specs.Compilations.{IsCompilation}
use Rattle.run_scripts.proofs.Public.{fault_by_bound}
use Rattle.run_scripts.specs.Bounds.{lines_bound}
use Rattle.run_scripts.specs.Reports as r
use Rattle.run_scripts.specs.Reports.{fence_lines}
use Rattle.run_scripts.specs.Plays.{PlayFault, play_fault, script_events}
use Rattle.run_scripts.specs.Scripts.{Line}
use Rattle.run_tracker.specs.ObjectLives.{Course, LifeConfig, ends_at_point, living, new_life, opening_of, steps_in, world_of}
use Rattle.ido_cli.specs.Answers.{IsTold}
use Rattle.ido_cli.specs.links.LegRuns.{IsSaidOf}
use Rattle.run_scripts.specs.Journals.{journal_text}
use Rattle.ido_cli.specs.Plays.{IsPlayed, IsRunBy, ScriptAnswer, beginning, events_by, faulty, fences_by}
use Rattle.ido_cli.specs.Refusals.{IsRefusedAt, play_fault_code, play_fault_place}
use Rattle.ido_cli.specs.Reports.{machine_state, unsettled_harts}
use Rattle.ido_cli.specs.links.CountedSections.{CountsSections}
use Rattle.ido_cli.specs.links.FencedReports.{IsReportWith, fences_in}
use Rattle.ido_cli.specs.links.PlayedLives.{HasPlayed}
use Rattle.ido_cli.specs.Runs.{IsReport, named}
use Rattle.ido_cli.proofs.EndedSections.{are_ended, at_points}
use Rattle.ido_cli.proofs.ScriptEventCount.{events_fit}
use Rattle.ido_cli.proofs.SettledReports.{run_of}
use Rattle.source_machine.specs.Lives.{ended_lives}

-- ---- Harts of a machine

pub sound_along : (program : List (List Slot)) (w : World) (es : List Event) → length program ≡ length w.harts → IsWellFormedWorld w →
    IsWellFormedWorld (after_events program w es) × (length (after_events program w es).harts ≡ length w.harts)
sound_along program w [] count sound = (sound, refl)
sound_along program w (e ∷ es) count sound =
    let next = queues_stand program w e count sound in
    let all = sound_along program (after_event program w e) es (count ∙ sym next.1) next.0 in
    (all.0, all.1 ∙ next.1)

pub harts_count : (log : Log) (program : List (List Slot)) (locks : ℕ) (initial : List ℕ) (es : List Event) →
    length (after_events program (start_of log program locks initial) es).harts ≡ length program
harts_count log program locks initial es =
    let starts = starts_simulate log program locks initial in
    (sound_along program (start_of log program locks initial) es (sym starts.1) starts.0).1 ∙ starts.1

-- ---- What is translated

parts_count : (ts : List f.Thread) (first : ℕ) → length (parts ts first) ≡ length ts
parts_count [] first = refl
parts_count (t ∷ ts) first = ap suc (parts_count ts (first + thread_count t))

pub as_many_threads : {log : Log} (flat : f.Flat) (object : Object) (marks : Marks) (cuts : Cuts) → IsTranslatedAs log flat object marks cuts →
    length object.code.items ≡ length flat.threads
as_many_threads flat object marks cuts t =
    let y = t.system in
    sym (length-map object.code.items (λ code. map slot_of code.items)) ∙ sym (ap (λ (x : Executable). length x.program) t.runs) ∙ t.is.count
    ∙ ap length (ap (λ (g : Graph). g.threads) t.is.plan.lowered ∙ lowered_threads y.plan.flat) ∙ parts_count y.plan.flat.threads 0
    ∙ ap (λ (x : f.Flat). length x.threads) t.of_flat

pub has_room : {log : Log} (flat : f.Flat) (object : Object) (marks : Marks) (cuts : Cuts) → IsTranslatedAs log flat object marks cuts →
    HaveRoom (map shape_of flat.variables)
has_room flat object marks cuts t =
    subst (λ (x : f.Flat). HaveRoom (map shape_of x.variables)) t.of_flat (well_formed_placed t.system.plan.flat t.is.plan.formed).room

-- ---- A life that a script was played on

-- with all events that it has had
pub all_played : (object : Object) (marks : Marks) (life : Course) (events : List Event) → HasPlayed object marks life events →
    HasPlayed object marks life life.journal
all_played object marks life events p = record { begins = p.begins; journal = refl }

module _ (flat : f.Flat) (object : Object) (marks : Marks) (cuts : Cuts) (life : Course) (events : List Event) (p : HasPlayed object marks life events) where
  pub same_world : world_of life ≡ world (translation_to flat object marks cuts) events
  same_world =
      ap (λ (x : LifeConfig). after_events x.runs.program x.world life.journal) p.begins
      ∙ ap (after_events (program_of object) (machine_start object)) p.journal

  pub same_steps : steps_in life ≡ steps (translation_to flat object marks cuts) events
  same_steps =
      ap (λ (x : LifeConfig). steps_along x.runs.marks x.runs.program x.world life.journal (first_steps x.kept_before)) p.begins
      ∙ ap (λ (es : List Event). steps (translation_to flat object marks cuts) es) p.journal

  pub harts_of_life : length (world_of life).harts ≡ length life.runs.program
  harts_of_life =
      ap (λ (w : World). length w.harts) same_world ∙ harts_count object.log (program_of object) object.mutexes object.initial.items events
      ∙ sym (ap (λ (x : LifeConfig). length x.runs.program) p.begins)

  module _ (compilation : IsCompilation (translation_to flat object marks cuts)) where
    pub run_by : (status : ℕ) (output : List ℕ) → IsReport (machine_state flat (world_of life) (schedules (steps_in life))) status output →
        IsRunBy (translation_to flat object marks cuts) events status output
    run_by status output told =
        let c = translation_to flat object marks cuts in
        run_of c compilation events status output
        (subst (λ (s : Steps). IsReport (machine_state flat (world c events) (schedules s)) status output) same_steps
        (subst (λ (w : World). IsReport (machine_state flat w (schedules (steps_in life))) status output) same_world told))

    -- what is said of the life is told of its events
    pub told_by : (journal : Bool) (source : List ℕ) (status : ℕ) (output : List ℕ) → IsSaidOf journal source flat life status output →
        IsTold journal source (translation_to flat object marks cuts) events status output
    told_by false source status output told = run_by status output told
    told_by true source status output told = (told.0, told.1 ∙ ap (journal_text source) p.journal)

    -- the fences that it has counted are those of the events
    same_fences : fences_in life ≡ fences_by (translation_to flat object marks cuts) events
    same_fences =
        ap₂ (λ (x : LifeConfig) (es : List Event). map (finished_fences living x es) (numbers_from 0 (length x.runs.program))) p.begins p.journal

    pub played_by : (asked : Bool) (status : ℕ) (output : List ℕ) →
        IsReportWith asked (machine_state flat (world_of life) (schedules (steps_in life))) (fences_in life) status output →
        IsPlayed asked (translation_to flat object marks cuts) events status output
    played_by false status output told =
        subst (IsRunBy (translation_to flat object marks cuts) events status) (sym (told.output_is ∙ append-nil told.report))
        (run_by status told.report told.reported)
    played_by true status output told = record {
      report = told.report;
      run = run_by status told.report told.reported;
      output_is =
          told.output_is
          ∙ ap (λ (fences : List ℕ). told.report ++ (if status == 0 then fence_lines fences else [])) same_fences;
    }

    -- it has counted the sections that the source ends
    pub counts_sections : length object.code.items ≡ length flat.threads → CountsSections flat life
    counts_sections threads =
        let many = ap (λ (x : LifeConfig). length x.runs.program) p.begins in
        record {
          harts = many ∙ (length-map object.code.items (λ code. map slot_of code.items) ∙ threads);
          each = λ h below.
              let c = translation_to flat object marks cuts in
              ap₂ (λ (x : LifeConfig) (es : List Event). slice_index_or x.ended_before h 0
              + passed_count living (λ (n : LifeConfig) e. ends_at_point n.runs.program n.world e h) x es)
              p.begins p.journal
              ∙ zero-add (at_points c compilation h (subst (λ (n : ℕ). h < n) many below) events)
              ∙ (are_ended c compilation h (subst (λ (n : ℕ). h < n) many below) events
              ∙ ap (λ (s : Steps). ended_lives flat (m.start flat) (schedules s) h) (sym same_steps));
        }

-- ---- The play of a script

-- what is played is the script's events, up to so many
module _ (flat : f.Flat) (object : Object) (marks : Marks) (cuts : Cuts) (lines : List Line) where
  -- the first fault that is found where so many events may be made
  abbrev found : (room : ℕ) → Option PlayFault
  found room =
      play_fault living (length (translation_to flat object marks cuts).runs.program) (beginning (translation_to flat object marks cuts)) room lines

  module _ (room cap : ℕ) (old : Course) (is : old ≡ new_life object marks cap) where
    pub found_by : (fault : Option PlayFault) →
        play_fault living (length old.runs.program) (played living (opening_of old) old.journal) room lines ≡ fault → found room ≡ fault
    found_by fault at = subst (λ (x : Course). play_fault living (length x.runs.program) (played living (opening_of x) x.journal) room lines ≡ fault) is at

    -- no line is too much, no start comes too soon, and all of it is played
    pub has_played : (life : Course) → opening_of life ≡ opening_of old →
        life.journal ≡ old.journal ++ take room (script_events living (length old.runs.program) (played living (opening_of old) old.journal) lines) →
        play_fault living (length old.runs.program) (played living (opening_of old) old.journal) room lines ≡ None →
        HasPlayed object marks life (events_by (translation_to flat object marks cuts) lines)
    has_played life opening journal none =
        let begin = opening_of (new_life object marks cap) in
        let harts = length (new_life object marks cap).runs.program in
        let here = subst (λ (x : Course). play_fault living (length x.runs.program) (played living (opening_of x) x.journal) room lines ≡ None) is none in
        let made = subst (λ (x : Course). life.journal
        ≡ x.journal ++ take room (script_events living (length x.runs.program) (played living (opening_of x) x.journal) lines)) is journal in
        record {
          begins = opening ∙ ap opening_of is;
          journal = made ∙ take_all room (script_events living harts begin lines) (events_fit living harts begin room room lines here);
        }

    pub fits : play_fault living (length old.runs.program) (played living (opening_of old) old.journal) room lines ≡ None →
        length (events_by (translation_to flat object marks cuts) lines) ≤ room
    fits none =
        events_fit living (length (translation_to flat object marks cuts).runs.program) (beginning (translation_to flat object marks cuts)) room room lines
        (found_by None none)

  -- a room that its lines can't go past finds the faults that the greatest one does
  pub found_at_most : (cap : ℕ) (fault : Option PlayFault) → cap ≡ min MOST_EVENTS (lines_bound lines) → found cap ≡ fault → found MOST_EVENTS ≡ fault
  found_at_most cap fault is at =
      sym (fault_by_bound living (length (translation_to flat object marks cuts).runs.program) (beginning (translation_to flat object marks cuts)) cap
      MOST_EVENTS lines is)
      ∙ at

  pub refused : (Says : List Event → ℕ → List ℕ → Type 0) (input : List ℕ) (begins : ℕ) (fault : PlayFault) (status : ℕ) (output : List ℕ) →
      found MOST_EVENTS ≡ Some fault →
      IsRefusedAt 6 (play_fault_code fault) input (begins + play_fault_place fault) status output →
      ScriptAnswer (translation_to flat object marks cuts) Says (record { lines = lines; input = input; begins = begins }) status output
  refused Says input begins fault status output some told = faulty fault some told

-- ---- What is reported

pub machine_reported : (x : f.Flat) (w : World) (kept : List (List ℕ)) (unsettled ended : List ℕ) (lives : List (List ℕ)) (variables : List r.Variable) →
    unsettled ≡ unsettled_harts w → variables ≡ named x.variables (durable_variables w.words x.variables) →
    ended ≡ map (ended_lives x (m.start x) kept) (numbers_from 0 (length x.threads)) → lives ≡ kept →
    (let s : r.ReportedState = record { unsettled = unsettled; variables = variables; ended = ended; schedules = lives } in s) ≡ machine_state x w kept
unfolding machine_state
machine_reported x w kept unsettled ended lives variables u v e k =
    ap₂ (λ (us : List ℕ) (vs : List r.Variable). let s : r.ReportedState =
    record { unsettled = us; variables = vs; ended = ended; schedules = lives } in
    s) u v
    ∙ ap₂ (λ (es : List ℕ) (ls : List (List ℕ)). let s : r.ReportedState =
    record { unsettled = unsettled_harts w; variables = named x.variables (durable_variables w.words x.variables); ended = es; schedules = ls } in s) e k
