-- What a crash leaves of a run has no fault.
use Rattle.std.proofs.Common.{◌≡◌, refl, ap₂, ℕ, ◌+◌, ◌-◌, ◌*◌, ◌<◌, ◌≤◌, List, ◌++◌, length, map, take, drop, ap, sym, subst, ◌∙◌, arith, length-drop}
use Rattle.std.specs.Prelude.{Vec, sum_by, false}
use Rattle.std.specs.Global.{Global}
use Rattle.std.proofs.Math.Seq.{take-append_seam, drop-append_seam}
use Rattle.std.proofs.lemmas.List.{length-map, length-take-le}
use Rattle.log_schemes.specs.Layout.{log_words, word_count}
use Rattle.ido_base.specs.Layout.{variable_lines}
use Rattle.log_schemes.specs.Schemes.{lines_of, size_of}
use Rattle.log_schemes.specs.declared.size.LogSize.{LogSize}
use Rattle.log_schemes.specs.declared.size.LogSize.TheVariants.{Lines16, Lines32}
use Rattle.log_schemes.specs.declared.log.Log.{Log}
use Rattle.machine_events.specs.declared.event.Event.{Event}
use Rattle.ido_base.specs.declared.limits.TheConstants.{MOST_STEPS}
use Rattle.ido_base.specs.Words.{Word, durable_value}
use Rattle.c_tree.specs.Flats as f
use Rattle.c_tree.specs.Source.{start}
use Rattle.machine_model.specs.declared.object.Object.{Object}
use Rattle.rv64_isa.specs.declared.object.Marks.{Marks}
use Rattle.machine_model.specs.Executables.{Executable}
use Rattle.rv64_isa.specs.Programs.{slot_of}
use Rattle.machine_model.specs.Schedule.{all_lives, schedules}
use Rattle.flow_graph.specs.declared.cuts.Cuts.{Cuts}
use Rattle.flow_graph.specs.IdempotentCuts.{Boundaries}
use Rattle.crash_simulation.specs.AccountRelation.{MachinesResume}
use Rattle.crash_simulation.specs.SimulationRelation.{Simulates}
use Rattle.crash_simulation.specs.Systems.{System, IsSystem, flat_of, thread_count}
use Rattle.compiler_correctness.specs.Images.{variable_words}
use Rattle.compiler_correctness.specs.Laws.{MachinesRecord, translation_of}
use Rattle.compiler_correctness.specs.Translations.{Translation, steps, world, translation_to}
use Rattle.flat_compile.specs.declared.resumes.Resume.{Resume}
use Rattle.flat_compile.specs.ResumePlaces.{IsResumeTable}
use Rattle.flat_compile.specs.TranslatedForms.{IsTranslatedAs}
use Rattle.crash_images.specs.Contents.{State}
use Rattle.image_checks.specs.Checks.{AreSound, IsUnshared, IsWellFormedState}
use Rattle.image_checks.specs.Laws.{RunsLeaveNoFault, RunsLeaveReferences}
use Rattle.image_checks.specs.Logs.{logs_of}
use Rattle.image_checks.specs.RunImages.{file_state, left_by}
use Rattle.image_checks.specs.Schedules.{AreSchedules}
use Rattle.image_checks.specs.VariableReferences.{AreReferences}
use Rattle.image_checks.proofs.LeftLogs.{are_sound, are_unshared, logs_left}
use Rattle.image_checks.proofs.LeftVariables.{taken_refer}
use Rattle.image_checks.proofs.LivesLaws.{merged_lives}

-- ---- What is so by whatever places threads are resumed

-- words of the variables and of a log for each thread, no mutex that two threads hold, and schedules of lives that the source makes
pub record IsWhole (log : Log) (flat : f.Flat) (threads size : ℕ) (x : State) : Type 0 where
  pub variables : 8 * length x.variables ≡ size
  pub logs : length x.logs ≡ log_words log * threads
  pub unshared : (lock : ℕ) → IsUnshared (logs_of log x.logs) threads lock
  pub schedules : AreSchedules flat (start flat) 0 x.lives

total_as : (size : LogSize) (threads : ℕ) → 8 * (variable_lines + lines_of size * threads) ≡ 8192 + 8 * lines_of size * threads
total_as Lines16 threads = omega arith
total_as Lines32 threads = omega arith

word_total : (log : Log) (threads : ℕ) → word_count log threads ≡ 8192 + log_words log * threads
word_total log threads = total_as (size_of log) threads

module _ (machines : MachinesResume) (records : MachinesRecord) (y : System) (s : IsSystem y) (events : List Event)
    (few : variable_words (translation_of y) ≤ 8192) (log : Log) (first : y.plan.log ≡ log) where
  abbrev c : Translation
  c = translation_of y

  abbrev words : List Word
  words = (world c events).words

  abbrev ws : List ℕ
  ws = map durable_value words

  abbrev n : ℕ
  n = variable_words c

  abbrev kept : List (List ℕ)
  kept = schedules (steps c events)

  abbrev left : State
  left = file_state c (left_by c events)

  stands : Simulates y s (world c events)
  stands = (machines y s events).is.stands

  -- no thread is late
  on_time : (n : ℕ) → n < thread_count y → (stands.ghosts n).late ≡ false
  unfolding stands
  on_time n below = ((machines y s events).is.counted.each n below).on_time

  logs : (world c events).log ≡ log
  logs = sym stands.machine.log ∙ first

  size : length ws ≡ 8192 + log_words log * length y.runs.program
  size =
      length-map words durable_value ∙ stands.machine.sound.size ∙ ap (λ (l : Log). word_count l (length (world c events).harts)) logs
      ∙ ap (word_count log) (stands.machine.count ∙ sym s.count) ∙ word_total log (length y.runs.program)

  within : (rest : ℕ) → length ws ≡ 8192 + rest → n ≤ length ws
  within rest is = omega (arith, few, is)

  prefix : length (take n ws) ≡ n
  prefix = length-take-le n ws (within (log_words log * length y.runs.program) size)

  logs_are : left.logs ≡ logs_left words
  logs_are = ap (λ (k : ℕ). drop k (take n ws ++ drop 8192 ws)) (sym prefix) ∙ drop-append_seam (take n ws) (drop 8192 ws)

  variables_are : left.variables ≡ take n ws
  variables_are = ap (λ (k : ℕ). take k (take n ws ++ drop 8192 ws)) (sym prefix) ∙ take-append_seam (take n ws) (drop 8192 ws)

  unshared : (threads : ℕ) → threads ≡ length y.runs.program → (lock : ℕ) → IsUnshared (logs_of log left.logs) threads lock
  unshared threads is lock =
      subst (λ (ls : List ℕ). IsUnshared (logs_of log ls) threads lock) (sym logs_are)
      (subst (λ (k : ℕ). IsUnshared (logs_of log (logs_left words)) k lock) (sym (is ∙ s.count))
      (are_unshared y s (world c events) stands on_time log logs lock))

  scheduled : sum_by length kept ≤ MOST_STEPS → AreSchedules (flat_of y) (start (flat_of y)) 0 left.lives
  scheduled most = merged_lives (flat_of y) (start (flat_of y)) 0 kept (omega (arith, most)) (records y s events).kept

  rest_of : (n : ℕ) → length ws ≡ 8192 + n → length ws - 8192 ≡ n
  rest_of n is = omega (arith, is)

  whole : sum_by length kept ≤ MOST_STEPS → IsWhole log (flat_of y) (length y.runs.program) (8 * n) left
  whole most = record {
    variables = omega (arith, ap length variables_are, prefix);
    logs = ap length logs_are ∙ length-drop 8192 ws ∙ rest_of (log_words log * length y.runs.program) size;
    unshared = unshared (length y.runs.program) refl;
    schedules = scheduled most;
  }

  sound : (table : List (Vec Resume Global)) → IsResumeTable y.plan s.codes table → sum_by length kept ≤ MOST_STEPS →
      IsWellFormedState log (flat_of y) table left
  sound table is most = record {
    logs = subst (λ (ls : List ℕ). AreSound (flat_of y) table (logs_of log ls)) (sym logs_are)
        (are_sound y s (world c events) stands on_time log logs table is);
    mutexes = unshared (length table) (is.count ∙ sym s.count);
    schedules = scheduled most;
  }

-- ---- As a translation of a flat form

module _ (flat : f.Flat) (object : Object) (marks : Marks) (cuts : Cuts) (log : Log) (t : IsTranslatedAs log flat object marks cuts) (events : List Event) where
  abbrev made : Translation
  made = translation_to flat object marks cuts

  same : translation_of t.system ≡ made
  same =
      ap (λ (x : f.Flat). record { flat = x; runs = t.system.runs; boundaries = t.system.plan.boundaries }) t.of_flat
      ∙ ap₂ (λ (x : Executable) (b : Boundaries). record { flat = flat; runs = x; boundaries = b }) t.runs t.at_cuts

  begins : length t.system.runs.initial ≡ length object.initial.items
  begins = ap (λ (x : Executable). length x.initial) t.runs

  fits : variable_words (translation_of t.system) ≤ 8192
  fits = omega (arith, begins, t.limits.bytes)

  first_of : t.system.plan.log ≡ log
  first_of = t.is.log ∙ (ap (λ (x : Executable). x.log) t.runs ∙ t.log)

  few_of : sum_by length (all_lives (left_by made events).kept) ≤ MOST_STEPS →
      sum_by length (all_lives (left_by (translation_of t.system) events).kept) ≤ MOST_STEPS
  few_of most = subst (λ (c : Translation). sum_by length (all_lives (left_by c events).kept) ≤ MOST_STEPS) (sym same) most

  programs : length t.system.runs.program ≡ length object.code.items
  programs = ap (λ (x : Executable). length x.program) t.runs ∙ length-map object.code.items (λ code. map slot_of code.items)

  pub left_is_whole : MachinesResume → MachinesRecord → sum_by length (all_lives (left_by made events).kept) ≤ MOST_STEPS →
      IsWhole log flat (length object.code.items) (length object.initial.items) (file_state made (left_by made events))
  left_is_whole machines records most =
      let size : 8 * variable_words (translation_of t.system) ≡ length object.initial.items = omega (arith, begins, t.limits.whole_words) in
      subst (λ (c : Translation). IsWhole log flat (length object.code.items) (length object.initial.items) (file_state c (left_by c events))) same
      (subst (λ (x : f.Flat). IsWhole log x (length object.code.items) (length object.initial.items)
      (file_state (translation_of t.system) (left_by (translation_of t.system) events))) t.of_flat
      (subst (λ (k : ℕ). IsWhole log (flat_of t.system) k (length object.initial.items)
      (file_state (translation_of t.system) (left_by (translation_of t.system) events))) programs
      (subst (λ (k : ℕ). IsWhole log (flat_of t.system) (length t.system.runs.program) k
      (file_state (translation_of t.system) (left_by (translation_of t.system) events))) size
      (whole machines records t.system t.is events fits log first_of (few_of most)))))

pub runs_leave_no_fault : MachinesResume → MachinesRecord → RunsLeaveNoFault
runs_leave_no_fault machines records log flat object marks cuts table events r most =
    let t = r.translated in
    subst (λ (c : Translation). IsWellFormedState log flat table (file_state c (left_by c events))) (same flat object marks cuts log t events)
    (subst (λ (x : f.Flat). IsWellFormedState log x table (file_state (translation_of t.system) (left_by (translation_of t.system) events))) t.of_flat
    (sound machines records t.system t.is events (fits flat object marks cuts log t events) log (first_of flat object marks cuts log t events)
    table r.are (few_of flat object marks cuts log t events most)))

-- ---- References among the variables

pub runs_leave_references : MachinesResume → MachinesRecord → RunsLeaveReferences
runs_leave_references machines records log flat object marks cuts events t =
    let y = t.system in
    let few = fits flat object marks cuts log t events in
    let first = first_of flat object marks cuts log t events in
    subst (λ (c : Translation). AreReferences flat (file_state c (left_by c events)).variables) (same flat object marks cuts log t events)
    (subst (λ (x : f.Flat). AreReferences x (file_state (translation_of y) (left_by (translation_of y) events)).variables) t.of_flat
    (subst (AreReferences (flat_of y)) (sym (variables_are machines records y t.is events few log first))
    (taken_refer y t.is (world (translation_of y) events) (machines y t.is events).is.stands (variable_words (translation_of y)))))
