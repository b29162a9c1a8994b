-- What bytes are answered that spell the file of a run.
use Rattle.std.proofs.Common.{◌≡◌, ℕ, ◌≤◌, List, ◌++◌, length, map, ap, ap₂, sym, subst, ◌∙◌, arith, Result, Ok, Err}
use Rattle.std.specs.Prelude.{sum_by}
use Rattle.std.proofs.lemmas.List.{length-map, take-append-drop}
use Rattle.machine_events.specs.declared.event.Event.{Event}
use Rattle.ido_base.specs.declared.limits.TheConstants.{MOST_STEPS}
use Rattle.ido_base.specs.Layout.{aligned_up, end_from}
use Rattle.c_tree.specs.Flats.{Flat, flat_of}
use Rattle.c_tree.specs.Source.{start}
use Rattle.c_tree.specs.WellFormed.{shape_of}
use Rattle.machine_model.specs.declared.object.Object.{Object}
use Rattle.rv64_isa.specs.declared.object.Marks.{Marks}
use Rattle.machine_model.specs.Executables.{Executable}
use Rattle.rv64_isa.specs.Programs.{slot_of}
use Rattle.machine_model.specs.Schedule.{all_lives}
use Rattle.flow_graph.specs.declared.cuts.Cuts.{Cuts}
use Rattle.flow_graph.specs.Lowering.{lowered}
use Rattle.flow_graph.specs.Nodes.{Graph}
use Rattle.ido_compile.specs.LoggedTexts.{IsAcceptedAs, IsRefusedAs}
use Rattle.file_fields.specs.Fields.{Fault, ◌>>=◌}
use Rattle.file_fields.proofs.Public.{bind_ok, ok_is}
use Rattle.crash_simulation.specs.AccountRelation.{MachinesResume}
use Rattle.compiler_correctness.specs.Images as left
use Rattle.compiler_correctness.specs.Laws.{MachinesRecord}
use Rattle.compiler_correctness.specs.Images.{variable_words}
use Rattle.compiler_correctness.specs.Translations.{Translation, translation_to}
use Rattle.flat_compile.specs.TranslatedForms.{IsTranslatedAs}
use Rattle.ido_compile.specs.declared.compiler.Compiled.{Compiled}
use Rattle.ido_compile.specs.CompileAnswers.{IsCompiledAs, translation_in}
use Rattle.ido_compile.specs.Verdicts.{NotBoth, OneFlat}
use Rattle.crash_images.specs.Contents.{Contents, State, log_of, number_of}
use Rattle.crash_images.proofs.Public.{source_version, state_in_parts}
use Rattle.crash_images.specs.ImageDecoder.{IsReadAs, image_at, logs_at, source_at, state_at, variables_at, version_in}
use Rattle.crash_images.specs.declared.version.ImageVersion.{ImageVersion}
use Rattle.image_checks.specs.declared.error.ImageError.{ImageError}
use Rattle.image_checks.specs.declared.error.ImageError.TheVariants as e
use Rattle.ido_cli.specs.declared.compiled_image.Image.{Image}
use Rattle.image_checks.specs.Checks.{IsStateFault, IsUnshared, of_thread, of_mutexes, of_schedules}
use Rattle.ido_cli.specs.CompiledImages.{size_of, threads_of, BeginsCompiled, HasState, IsFaultAfter, IsImage, IsImageAnswer, IsStateAfter, whole, no_source}
use Rattle.ido_cli.specs.CompiledImages.{no_element, no_logs, no_state, no_variables, no_version, refused, unsound}
use Rattle.ido_cli.specs.CompiledImages as answers
use Rattle.c_tree.specs.declared.rule.Rule.{Rule}
use Rattle.ido_base.specs.declared.place.Place.{Place}
use Rattle.log_schemes.specs.declared.log.Log.{Log}
use Rattle.image_checks.specs.Laws.{RunsLeaveNoFault, RunsLeaveReferences}
use Rattle.image_checks.specs.Logs.{logs_of}
use Rattle.image_checks.specs.Schedules.{IsLivesFault, schedules_of}
use Rattle.image_checks.specs.RunImages.{left_by, file_contents, file_state}
use Rattle.image_checks.specs.VariableReferences.{AreReferences, IsReferenceFault, outside}
use Rattle.ido_cli.specs.ImagesReadAgain.{IsReadAgain, IsRunImage, again, elsewhere, RunImagesAreRead}
use Rattle.ido_cli.specs.ImagesReadAgain as reads
use Rattle.image_checks.proofs.Public.{IsWhole, left_is_whole, none_if_sound, none_in_lives, told_again, unshared}

pub not_both_ways : {A : Type 0} (found : Result A Fault) (x : A) (fault : Fault) → found ≡ Ok x → found ≡ Err fault → ⊥
not_both_ways {A = A} found x fault ok err = let both : ◌≡◌ {A = Result A Fault} (Ok x) (Err fault) = sym ok ∙ err in cc

none_outside : (flat : Flat) (words : List ℕ) (error : ImageError) → AreReferences flat words → IsReferenceFault flat words error → ⊥
none_outside flat words error right (outside variable element wrong before) = wrong (right variable element)

-- what is read as this state has no fault
pub none_after : (flat : Flat) (version : ImageVersion) (total size threads : ℕ) (bytes : List ℕ) (s : State) (rest : List ℕ) (error : ImageError) →
    variables_at total size bytes ≡ Ok (s.variables, rest) → AreReferences flat s.variables → logs_at version total threads s.variables rest ≡ Ok s →
    IsFaultAfter flat version total size threads bytes error → ⊥
none_after flat version total size threads bytes s rest error words right logs (no_variables fault err) =
    not_both_ways (variables_at total size bytes) (s.variables, rest) fault words err
none_after flat version total size threads bytes s rest error words right logs (no_element others after x is fault) =
    let same : ◌≡◌ {A = List ℕ × List ℕ} (others, after) (s.variables, rest) = ok_is (others, after) (s.variables, rest) (sym is ∙ words) in
    none_outside flat s.variables error right
    (subst (λ (ws : List ℕ). IsReferenceFault flat ws error) (ap (λ (x : List ℕ × List ℕ). x.0) same) fault)
none_after flat version total size threads bytes s rest error words right logs (no_logs others after fault is others_right err) =
    let same : ◌≡◌ {A = List ℕ × List ℕ} (others, after) (s.variables, rest) = ok_is (others, after) (s.variables, rest) (sym is ∙ words) in
    not_both_ways (logs_at version total threads s.variables rest) s fault logs
    (ap (λ (x : List ℕ × List ℕ). logs_at version total threads x.0 x.1) (sym same) ∙ err)

-- and no other state
pub one_after : (flat : Flat) (version : ImageVersion) (total size threads : ℕ) (bytes : List ℕ) (s other : State) (rest : List ℕ) →
    variables_at total size bytes ≡ Ok (s.variables, rest) → logs_at version total threads s.variables rest ≡ Ok s →
    IsStateAfter flat version total size threads bytes other → other ≡ s
one_after flat version total size threads bytes s other rest words logs after =
    let same : ◌≡◌ {A = List ℕ × List ℕ} (other.variables, after.rest) (s.variables, rest) =
    ok_is (other.variables, after.rest) (s.variables, rest) (sym after.variables ∙ words) in
    ok_is other s (sym after.logs ∙ ap (λ (x : List ℕ × List ℕ). logs_at version total threads x.0 x.1) same ∙ logs)

-- ---- What all translations of a flat form have in common

module _ {log : Log} (flat : Flat) (object : Object) (marks : Marks) (cuts : Cuts) (t : IsTranslatedAs log flat object marks cuts) where
  pub initial_size : length object.initial.items ≡ aligned_up (end_from 0 (map shape_of flat.variables)) 8
  initial_size =
      ap (λ (x : Executable). length x.initial) (sym t.runs) ∙ t.is.initial.size
      ∙ ap (λ (x : Flat). aligned_up (end_from 0 (map shape_of x.variables)) 8) t.of_flat

  pub thread_number : length object.code.items ≡ length (lowered flat).threads
  thread_number =
      sym (length-map object.code.items (λ code. map slot_of code.items)) ∙ sym (ap (λ (x : Executable). length x.program) t.runs) ∙ t.is.count
      ∙ ap (λ (g : Graph). length g.threads) t.is.plan.lowered ∙ ap (λ (x : Flat). length (lowered x).threads) t.of_flat

-- a run of a translation, and bytes that spell the file that it leaves
pub record RunImage (version : ImageVersion) (source bytes : List ℕ) : Type 0 where
  pub flat : Flat
  pub object : Object
  pub marks : Marks
  pub cuts : Cuts
  pub events : List Event
  pub accepted : IsAcceptedAs (log_of version) source flat
  pub translated : IsTranslatedAs (log_of version) flat object marks cuts
  pub most : sum_by length (all_lives (left_by (translation_to flat object marks cuts) events).kept) ≤ MOST_STEPS
  pub spelled : IsReadAs version (file_contents source (translation_to flat object marks cuts) (left_by (translation_to flat object marks cuts) events)) bytes

module _ (one_flat : OneFlat) (not_both : NotBoth) (machines : MachinesResume) (records : MachinesRecord) (no_fault : RunsLeaveNoFault)
    (references : RunsLeaveReferences) (newest version : ImageVersion) (le : number_of version ≤ number_of newest) (source bytes : List ℕ)
    (run : RunImage version source bytes) where
  open run use {flat, object, marks, cuts, events, accepted, translated as t, most, spelled}

  abbrev c : Translation
  c = translation_to flat object marks cuts

  abbrev file : left.Image
  file = left_by c events

  abbrev state : State
  state = file_state c file

  abbrev size : ℕ
  size = length object.initial.items

  abbrev threads : ℕ
  threads = length object.code.items

  abbrev Read : Result Image ImageError → Type 0
  Read answer = IsReadAgain (log_of version) source c file answer

  is_whole : IsWhole (log_of version) flat threads size state
  is_whole = left_is_whole flat object marks cuts (log_of version) t events machines records most

  -- ---- The bytes

  record Begins : Type 0 where
    rest : List ℕ
    begins : source_at version bytes ≡ Ok (source, rest)
    after : List ℕ
    variables : variables_at (length bytes) size rest ≡ Ok (state.variables, after)
    logs : logs_at version (length bytes) threads state.variables after ≡ Ok state

  begun : Begins
  unfolding image_at
  begun =
      let o : Contents = file_contents source c file in
      let all : image_at version size threads bytes ≡ Ok o =
      subst (λ (k : ℕ). image_at version k threads bytes ≡ Ok o) is_whole.variables (spelled threads is_whole.logs) in
      let a =
      bind_ok (source_at version bytes) (λ x. state_at version (length bytes) size threads x.1 >>= λ s. Ok (record { source = x.0; state = s })) o all in
      let b = bind_ok (state_at version (length bytes) size threads a.0.1) (λ s. Ok (record { source = a.0.0; state = s })) o a.2 in
      let made : Contents = record { source = a.0.0; state = b.0 } in
      let same : made ≡ o = ok_is made o b.2 in
      let parts = state_in_parts version (length bytes) size threads a.0.1 state (b.1 ∙ ap (λ (x : Contents). Ok x.state) same) in
      record {
        rest = a.0.1;
        begins = a.1 ∙ ap (λ (x : Contents). Ok (x.source, a.0.1)) same;
        after = parts.0;
        variables = parts.1;
        logs = parts.2;
      }

  right : AreReferences flat state.variables
  right = references (log_of version) flat object marks cuts events t

  -- the version is its own
  known : version_in newest bytes ≡ Ok version
  known = source_version newest version bytes source begun.rest le begun.begins

  -- what is so of images of that version is so of this one
  at_version : (P : ImageVersion → Type 0) (v : ImageVersion) → version_in newest bytes ≡ Ok v → P version → P v
  at_version P v is third = subst P (ok_is version v (sym known ∙ is)) third

  -- ---- The source, compiled

  module _ (d : Compiled) (b : BeginsCompiled newest bytes version d) where
    same_bytes : ◌≡◌ {A = List ℕ × List ℕ} (b.source, b.rest) (source, begun.rest)
    same_bytes = ok_is (b.source, b.rest) (source, begun.rest) (sym b.begins ∙ begun.begins)

    compiled : IsCompiledAs (log_of version) source d
    compiled = subst (λ (text : List ℕ). IsCompiledAs (log_of version) text d) (ap (λ (x : List ℕ × List ℕ). x.0) same_bytes) b.compiled

    same_rest : b.rest ≡ begun.rest
    same_rest = ap (λ (x : List ℕ × List ℕ). x.1) same_bytes

    same_flat : flat_of d.flat ≡ flat
    same_flat = one_flat (log_of version) (log_of version) source (flat_of d.flat) flat compiled.accepted accepted

    same_size : size_of d ≡ size
    same_size =
        let x = d.translated in
        initial_size (flat_of d.flat) x.object x.marks x.cuts compiled.translated
        ∙ ap (λ (y : Flat). aligned_up (end_from 0 (map shape_of y.variables)) 8) same_flat ∙ sym (initial_size flat object marks cuts t)

    same_threads : threads_of d ≡ threads
    same_threads =
        let x = d.translated in
        thread_number (flat_of d.flat) x.object x.marks x.cuts compiled.translated ∙ ap (λ (y : Flat). length (lowered y).threads) same_flat
        ∙ sym (thread_number flat object marks cuts t)

    found_variables : variables_at (length bytes) (size_of d) b.rest ≡ Ok (state.variables, begun.after)
    found_variables = ap₂ (λ (k : ℕ) (after : List ℕ). variables_at (length bytes) k after) same_size same_rest ∙ begun.variables

    found_logs : logs_at version (length bytes) (threads_of d) state.variables begun.after ≡ Ok state
    found_logs = ap (λ (k : ℕ). logs_at version (length bytes) k state.variables begun.after) same_threads ∙ begun.logs

    right_here : AreReferences (flat_of d.flat) state.variables
    right_here = subst (λ (x : Flat). AreReferences x state.variables) (sym same_flat) right

  -- of whichever version the bytes are found to be, they begin with the source
  pub source_is : (v : ImageVersion) (d : Compiled) (b : BeginsCompiled newest bytes v d) → b.source ≡ source
  source_is v d b =
      at_version (λ (x : ImageVersion). (z : BeginsCompiled newest bytes x d) → z.source ≡ source) v b.known
      (λ z. ap (λ (x : List ℕ × List ℕ). x.0) (same_bytes d z)) b

  -- ---- Answers

  state_is : (d : Compiled) (x : State) (has : HasState newest bytes version d x) → x ≡ state
  state_is d x has =
      let b = has.source in
      one_after (flat_of d.flat) version (length bytes) (size_of d) (threads_of d) b.rest state x begun.after (found_variables d b) (found_logs d b) has.after

  image_read : (image : Image) → IsImage newest bytes image → Read (Ok image)
  image_read image is =
      at_version (λ (v : ImageVersion). HasState newest bytes v image.compiled is.state → Read (Ok image)) is.version is.is.source.known
      (λ has.
      let same : is.state ≡ state = state_is image.compiled is.state has in
      again image (compiled image.compiled has.source)
      (is.words ∙ ap (λ (x : State). x.variables ++ x.logs) same ∙ take-append-drop (variable_words c) file.words)
      (sym is.lives ∙ ap (λ (x : State). schedules_of x.lives) same ∙ told_again (all_lives file.kept))) is.is

  not_begun : (fault : Fault) (answer : Result Image ImageError) → version_in newest bytes ≡ Err fault → Read answer
  not_begun fault answer e = absurd (not_both_ways (version_in newest bytes) version fault known e)

  not_here : (v : ImageVersion) (fault : Fault) (answer : Result Image ImageError) → version_in newest bytes ≡ Ok v →
      source_at v bytes ≡ Err fault → Read answer
  not_here v fault answer is =
      at_version (λ (v : ImageVersion). source_at v bytes ≡ Err fault → Read answer) v is
      (λ e. absurd (not_both_ways (source_at version bytes) (source, begun.rest) fault begun.begins e))

  not_after : (v : ImageVersion) (d : Compiled) (begins : BeginsCompiled newest bytes v d) (error : ImageError) →
      IsFaultAfter (flat_of d.flat) v (length bytes) (size_of d) (threads_of d) begins.rest error → Read (Err error)
  not_after v d begins error =
      at_version (λ (v : ImageVersion). (b : BeginsCompiled newest bytes v d) →
      IsFaultAfter (flat_of d.flat) v (length bytes) (size_of d) (threads_of d) b.rest error → Read (Err error)) v begins.known
      (λ b fault. absurd
      (none_after (flat_of d.flat) version (length bytes) (size_of d) (threads_of d) b.rest state begun.after error (found_variables d b) (right_here d b)
      (found_logs d b) fault)) begins

  module _ (d : Compiled) (is : IsCompiledAs (log_of version) source d) (flat_is : flat_of d.flat ≡ flat) (threads_are : threads_of d ≡ threads) where
    -- by the same translation nothing is at fault
    none : translation_in d ≡ c → (error : ImageError) → ¬ (IsStateFault (log_of version) (flat_of d.flat) d.translated.resumes.items state error)
    none same error fault =
        let x = d.translated in
        let few : sum_by length (all_lives (left_by (translation_in d) events).kept) ≤ MOST_STEPS =
        subst (λ (z : Translation). sum_by length (all_lives (left_by z events).kept) ≤ MOST_STEPS) (sym same) most in
        let sound = no_fault (log_of version) (flat_of d.flat) x.object x.marks x.cuts x.resumes.items events is.resumable few in
        none_if_sound (log_of version) (flat_of d.flat) x.resumes.items (file_state (translation_in d) (left_by (translation_in d) events)) error sound
        (subst (λ (z : Translation). IsStateFault (log_of version) (flat_of d.flat) x.resumes.items (file_state z (left_by z events)) error) (sym same) fault)

    table_is : length d.translated.resumes.items ≡ threads
    table_is = let r = is.resumable in r.are.count ∙ sym r.translated.is.count ∙ ap (λ (x : Executable). length x.program) r.translated.runs
        ∙ length-map d.translated.object.code.items (λ code. map slot_of code.items) ∙ threads_are

    fault_read : (error : ImageError) → IsStateFault (log_of version) (flat_of d.flat) d.translated.resumes.items state error → Read (Err error)
    fault_read error (of_thread x f) = elsewhere d x is (λ same. none same x (of_thread x f)) f
    fault_read error (of_mutexes x sound f) =
        absurd (unshared (logs_of (log_of version) state.logs) (length d.translated.resumes.items) x
        (λ lock. subst (λ (k : ℕ). IsUnshared (logs_of (log_of version) state.logs) k lock) (sym table_is) (is_whole.unshared lock)) f)
    fault_read error (of_schedules x sound apart f) =
        absurd (none_in_lives flat 1 (start flat) 0 state.lives x is_whole.schedules
        (subst (λ (y : Flat). IsLivesFault y 1 (start y) 0 state.lives x) flat_is f))

  not_refused : (v : ImageVersion) (other rest : List ℕ) (rule : Rule) (place : Place) → version_in newest bytes ≡ Ok v →
      source_at v bytes ≡ Ok (other, rest) → IsRefusedAs (log_of v) other rule place → Read (Err e.Source)
  not_refused v other rest rule place is =
      at_version (λ (v : ImageVersion). source_at v bytes ≡ Ok (other, rest) → IsRefusedAs (log_of v) other rule place → Read (Err e.Source)) v is
      (λ begins broken.
      let same : ◌≡◌ {A = List ℕ × List ℕ} (other, rest) (source, begun.rest) = ok_is (other, rest) (source, begun.rest) (sym begins ∙ begun.begins) in
      absurd (not_both (log_of version) source flat rule place accepted
      (subst (λ (text : List ℕ). IsRefusedAs (log_of version) text rule place) (ap (λ (x : List ℕ × List ℕ). x.0) same) broken)))

  unsound_read : (v : ImageVersion) (d : Compiled) (x : State) (error : ImageError) → HasState newest bytes v d x →
      IsStateFault (log_of v) (flat_of d.flat) d.translated.resumes.items x error → Read (Err error)
  unsound_read v d x error has =
      at_version (λ (v : ImageVersion). HasState newest bytes v d x → IsStateFault (log_of v) (flat_of d.flat) d.translated.resumes.items x error →
      Read (Err error)) v has.source.known
      (λ at fault. fault_read d (compiled d at.source) (same_flat d at.source) (same_threads d at.source) error
      (subst (λ (z : State). IsStateFault (log_of version) (flat_of d.flat) d.translated.resumes.items z error) (state_is d x at) fault)) has

  read : (answer : Result Image ImageError) → IsImageAnswer newest bytes answer → Read answer
  read answer (whole image is) = image_read image is
  read answer (no_version fault e) = not_begun fault _ e
  read answer (no_source v fault is e) = not_here v fault _ is e
  read answer (refused v other rest rule place is begins broken) = not_refused v other rest rule place is begins broken
  read answer (no_state v d error begins fault) = not_after v d begins error fault
  read answer (unsound v d x error has fault) = unsound_read v d x error has fault
  read answer answers.no_memory = reads.no_memory

abbrev run_by : (version : ImageVersion) (source bytes : List ℕ) (c : Translation) (events : List Event) → IsRunImage version source c events bytes →
    RunImage version source bytes
run_by version source bytes c events is = record {
  flat = is.flat;
  object = is.object;
  marks = is.marks;
  cuts = is.cuts;
  events = events;
  accepted = is.accepted;
  translated = is.translated;
  most = subst (λ (z : Translation). sum_by length (all_lives (left_by z events).kept) ≤ MOST_STEPS) is.is is.few;
  spelled = subst (λ (z : Translation). IsReadAs version (file_contents source z (left_by z events)) bytes) is.is is.spelled;
}

pub run_images_are_read : OneFlat → NotBoth → MachinesResume → MachinesRecord → RunsLeaveNoFault → RunsLeaveReferences → RunImagesAreRead
run_images_are_read one_flat not_both machines records no_fault references newest version source bytes c events answer le is told =
    subst (λ (z : Translation). IsReadAgain (log_of version) source z (left_by z events) answer) (sym is.is)
    (read one_flat not_both machines records no_fault references newest version le source bytes (run_by version source bytes c events is) answer told)

pub run_image_source : OneFlat → NotBoth → MachinesResume → MachinesRecord → RunsLeaveNoFault → RunsLeaveReferences →
    (newest version : ImageVersion) → number_of version ≤ number_of newest → (source bytes : List ℕ) (c : Translation) (events : List Event) →
    IsRunImage version source c events bytes → (v : ImageVersion) (d : Compiled) (b : BeginsCompiled newest bytes v d) → b.source ≡ source
run_image_source one_flat not_both machines records no_fault references newest version le source bytes c events is v d b =
    source_is one_flat not_both machines records no_fault references newest version le source bytes (run_by version source bytes c events is) v d b
