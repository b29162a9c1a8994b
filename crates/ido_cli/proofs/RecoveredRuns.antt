-- A run that goes on from an image's file.
use Rattle.std.proofs.Common.{◌≡◌, ℕ, ◌+◌, ◌-◌, ◌*◌, ◌/◌, ◌≤◌, List, [], ◌∷◌, ◌++◌, length, map, take, drop, ◌<◌, ◌^◌, min, inl, inr, ◌⊎◌}
use Rattle.std.proofs.Common.{replicate, ap, ap₂, sym, subst, ◌∙◌, arith, length-append, length-drop, length-take, Option, None, Ok}
use Rattle.std.specs.Prelude.{Vec, sum_by}
use Rattle.std.specs.Global.{Global}
use Rattle.std.proofs.lemmas.Bool.{cases_lt}
use Rattle.std.proofs.lemmas.List.{length-map, length-replicate}
use Rattle.log_schemes.specs.Layout.{log_words}
use Rattle.log_schemes.specs.declared.size.LogSize.{LogSize}
use Rattle.log_schemes.specs.declared.size.LogSize.TheVariants.{Lines16, Lines32}
use Rattle.log_schemes.specs.Schemes.{lines_of, size_of}
use Rattle.ido_base.specs.Layout.{variable_lines}
use Rattle.log_schemes.specs.declared.log.Log.{Log}
use Rattle.ido_base.specs.declared.limits.TheConstants.{MOST_STEPS, VARIABLE_WORDS}
use Rattle.machine_events.specs.declared.event.Event.{Event}
use Rattle.machine_events.specs.declared.event.Event.TheVariants.{Crash}
use Rattle.machine_events.specs.Cores.{played}
use Rattle.ido_base.specs.Layout.{spread_words}
use Rattle.log_schemes.specs.Layout.{word_count}
use Rattle.c_tree.specs.Flats as f
use Rattle.c_tree.specs.Source.{start}
use Rattle.machine_model.specs.declared.object.Object.{Object}
use Rattle.rv64_isa.specs.declared.object.Marks.{Marks}
use Rattle.machine_model.specs.Frames.{IsWellFormedWorld}
use Rattle.machine_model.specs.Machine.{World, after_events, machine_from}
use Rattle.rv64_isa.specs.Programs.{slot_of}
use Rattle.machine_model.specs.Objects.{program_of}
use Rattle.machine_model.specs.Schedule.{first_steps, steps_along, LifeSchedules, all_lives, schedules}
use Rattle.machine_model.proofs.Public.{crashes_simulate}
use Rattle.flow_graph.specs.declared.cuts.Cuts.{Cuts}
use Rattle.flat_compile.specs.TranslatedForms.{IsTranslatedAs}
use Rattle.compiler_correctness.specs.Compilations.{IsCompilation}
use Rattle.compiler_correctness.specs.Images.{Image, file_of, image_in, image_of, steps_from, world_from}
use Rattle.compiler_correctness.specs.Laws.{ImagesAreCrashes}
use Rattle.compiler_correctness.specs.Translations.{Translation, world, translation_to}
use Rattle.compiler_correctness.specs.WordRuns.{RunsOn}
use Rattle.ido_cli.specs.declared.compiled_image.Image as i
use Rattle.ido_cli.specs.Answers.{file_in}
use Rattle.ido_cli.specs.CompiledImages.{IsImageAnswer, whole}
use Rattle.hart_driver.specs.declared.stop.Stop.{Stop}
use Rattle.hart_driver.specs.Legs.{IsLeg}
use Rattle.ido_compile.specs.CompileAnswers.{IsCompiledAs, translation_in}
use Rattle.ido_compile.specs.declared.compiler.Compiled.{Compiled}
use Rattle.image_checks.proofs.Public.{lives_few}
use Rattle.crash_images.specs.Contents.{Tells, log_of}
use Rattle.crash_images.specs.declared.version.ImageVersion.{ImageVersion}
use Rattle.crash_images.specs.declared.version.ImageVersion.TheVariants.{First, Second, Third, Fourth}
use Rattle.compiler_correctness.specs.SettledImages.{IsCarriedOn, IsSettledImage}
use Rattle.image_runs.specs.Laws.{AcceptedGoOn, AcceptedRunOn}
use Rattle.ido_compile.specs.Files.{FilesBegin}
use Rattle.run_scripts.specs.declared.evictor.Evictor.{Evictor}
use Rattle.run_scripts.specs.Runs.{schedule_of}
use Rattle.run_tracker.specs.ObjectLives.{Course, LifeConfig, life_from, living, opening_of, steps_in, world_of}
use Rattle.run_tracker.specs.links.EarlierLives.{lives_in}
use Rattle.ido_cli.specs.Plays.{IsRunBy}
use Rattle.ido_cli.specs.Recoveries.{recovering}
use Rattle.ido_cli.specs.Reports.{machine_state}
use Rattle.ido_cli.specs.Runs.{IsReport}
use Rattle.ido_cli.specs.ThreadedRuns.{leg_after, moment_after, most_leg_events}
use Rattle.ido_cli.specs.links.LegRuns.{leg_from}
use Rattle.ido_cli.specs.links.RecoveredLives.{HasRecovered}
use Rattle.ido_cli.proofs.CompiledLimits.{translated_by_object}
use Rattle.ido_cli.proofs.LastLifeApart.{as_many_lives}
use Rattle.ido_cli.proofs.KeptStepsBounded.{all_kept_few}
use Rattle.ido_cli.proofs.LegEvents.{leg_bounded}
use Rattle.ido_cli.proofs.LegRooms.{in_more_room}
use Rattle.ido_cli.proofs.LegRuns.{IsLifeDriven, is_leg_after}
use Rattle.ido_cli.proofs.PlayedRuns.{sound_along}
use Rattle.ido_cli.proofs.SettledReports.{run_of}

-- ---- The life that is begun from it

pub begun_from : (object : Object) (marks : Marks) (words words' : List ℕ) (earlier earlier' : List (Vec ℕ Global)) (schedule schedule' : List ℕ)
    (cap : ℕ) (life : Course) → life ≡ life_from object marks words (lives_in earlier schedule) [] cap → words ≡ words' → earlier ≡ earlier' →
    schedule ≡ schedule' → life ≡ life_from object marks words' (lives_in earlier' schedule') [] cap
begun_from object marks words words' earlier earlier' schedule schedule' cap life is a b c =
    is ∙ ap (λ (ws : List ℕ). life_from object marks ws (lives_in earlier schedule) [] cap) a
    ∙ ap₂ (λ (ls : List (Vec ℕ Global)) (ks : List ℕ). life_from object marks words' (lives_in ls ks) [] cap) b c

-- ---- A run from a file of the same translation

pub after_crash : ImagesAreCrashes → (c : Translation) → IsCompilation c → (file : Image) (journal : List Event) (status : ℕ) (output : List ℕ) →
    IsReport (machine_state c.flat (world_from c (image_in c file) journal) (schedules (steps_from c (image_in c file) journal))) status output →
    (before : List Event) → file ≡ file_of c (image_of c before) → IsRunBy c (before ++ Crash ∷ journal) status output
after_crash crashes c is file journal status output told before left =
    let here : image_in c file ≡ image_of c before = ap (image_in c) left ∙ (is.in_file before).is_all in
    let crashed = crashes c before journal in
    let of_image = subst (λ (i : Image). IsReport (machine_state c.flat (world_from c i journal) (schedules (steps_from c i journal))) status output)
    here told in
    let of_world = subst (λ (w : World). IsReport (machine_state c.flat w (schedules (steps_from c (image_of c before) journal))) status output)
    crashed.world_is of_image in
    run_of c is (before ++ Crash ∷ journal) status output
    (subst (λ (lives : LifeSchedules). IsReport (machine_state c.flat (world c (before ++ Crash ∷ journal)) (all_lives lives)) status output)
    crashed.kept_is of_world)

-- ---- A life that begins with a file's words

spread_long : (n rest : ℕ) (words : List ℕ) → n ≤ VARIABLE_WORDS → length words ≡ n + rest → length (spread_words n words) ≡ VARIABLE_WORDS + rest
unfolding spread_words
spread_long n own words few size =
    let front = take n words in
    let zeros : List ℕ = replicate (VARIABLE_WORDS - n) 0 in
    let rest = drop n words in
    omega (
      arith,
      length-append front (zeros ++ rest),
      length-append zeros rest,
      length-append (front ++ zeros) rest,
      length-append front zeros,
      length-replicate {A = ℕ} (VARIABLE_WORDS - n) 0,
      length-take n words,
      length-drop n words,
      few,
      size,
    )

words_as : (size : LogSize) (threads : ℕ) → VARIABLE_WORDS + 8 * lines_of size * threads ≡ 8 * (variable_lines + lines_of size * threads)
words_as Lines16 threads = omega arith
words_as Lines32 threads = omega arith

all_words : (log : Log) (threads : ℕ) → VARIABLE_WORDS + log_words log * threads ≡ word_count log threads
all_words log threads = words_as (size_of log) threads

pub spread_size : (log : Log) (n threads : ℕ) (words : List ℕ) → n ≤ VARIABLE_WORDS → length words ≡ n + log_words log * threads →
    length (spread_words n words) ≡ word_count log threads
spread_size log n threads words few size = spread_long n (log_words log * threads) words few size ∙ all_words log threads

module _ (flat : f.Flat) (object : Object) (marks : Marks) (cuts : Cuts) (t : IsTranslatedAs object.log flat object marks cuts) (file : Image)
    (ended : List ℕ) (cap : ℕ) (begun : Course) (is : begun ≡ life_from object marks file.words file.kept ended cap) where
  abbrev made : Translation
  made = translation_to flat object marks cuts

  pub none_made : begun.journal ≡ []
  none_made = ap (λ (x : Course). x.journal) is

  pub room_left : cap ≤ length begun.journal + (begun.cap - length begun.journal)
  room_left = omega (arith, ap (λ (x : Course). x.cap) is, ap length none_made)

  -- what is kept after a leg, over all lives
  pub kept_after : (turns moment most : ℕ) (left : Course) (stops : List Stop) (evict : Option Evictor) →
      IsLifeDriven begun turns moment None left stops evict → sum_by length (all_lives file.kept) ≤ most →
      sum_by length (schedules (steps_in left)) ≤ most + moment
  kept_after turns moment most left stops evict d few =
      let journal : left.journal ≡ d.journal = d.plays.events_are ∙ ap (λ (es : List Event). es ++ d.journal) none_made in
      let events = leg_bounded (leg_from turns moment begun None) d.journal d.leg.each in
      let kept = all_kept_few left.runs.marks left.runs.program left.opening left.journal left.kept_before in
      let before : all_lives left.kept_before ≡ all_lives file.kept =
      ap (λ (m : LifeConfig). all_lives m.kept_before) d.plays.opens ∙ ap (λ (x : Course). all_lives x.kept_before) is in
      omega (arith, kept, few, events, ap (sum_by length) before, ap length journal)

  as_many_harts : length begun.runs.program ≡ length object.code.items
  as_many_harts = ap (λ (x : Course). length x.runs.program) is ∙ length-map object.code.items (λ code. map slot_of code.items)

  -- a leg with room for all turns is one with all the room that there may be
  whole_leg : (turns moment : ℕ) → moment ≡ min most_leg_events (length object.code.items * turns + 1) → (events : List Event) →
      IsLeg (leg_from turns moment begun None) events → IsLeg (leg_from turns most_leg_events begun None) events
  whole_leg turns moment room events leg = by (cases_lt (length object.code.items * turns + 1) most_leg_events)
    where
      none : length begun.journal ≡ 0
      none = ap length none_made

      all : length begun.runs.program * turns ≡ length object.code.items * turns
      all = ap (λ (n : ℕ). n * turns) as_many_harts

      by : (length object.code.items * turns + 1 < most_leg_events) ⊎ (most_leg_events ≤ length object.code.items * turns + 1) →
          IsLeg (leg_from turns most_leg_events begun None) events
      by (inl less) =
          in_more_room living (played living (opening_of begun) begun.journal) (length begun.runs.program) turns (moment - length begun.journal)
          (most_leg_events - length begun.journal) (omega (arith, room, none, all, less)) (omega (arith, none, all, less)) events leg
      by (inr greater) =
          let same : moment ≡ most_leg_events = omega (arith, room, greater) in
          subst (λ (n : ℕ). IsLeg (leg_from turns n begun None) events) same leg

  pub few_harts : length begun.runs.program ≤ 8
  few_harts =
      omega (arith, ap (λ (x : Course). length x.runs.program) is, length-map object.code.items (λ code. map slot_of code.items), t.limits.threads)

  module _ (size : length file.words ≡ length object.initial.items / 8 + log_words object.log * length object.code.items) where
    first : World
    first = machine_from object file.words []

    stands : IsWellFormedWorld (machine_from object file.words []) × (length (machine_from object file.words []).harts ≡ length (program_of object))
    stands =
        let threads = length-map object.code.items (λ code. map slot_of code.items) in
        crashes_simulate object.log (program_of object) object.mutexes (spread_words (length object.initial.items / 8) file.words)
        (spread_size object.log (length object.initial.items / 8) (length (program_of object)) file.words (omega (arith, t.limits.bytes))
        (size ∙ ap (λ (n : ℕ). length object.initial.items / 8 + log_words object.log * n) (sym threads)))

    pub harts_stand : length (world_of begun).harts ≡ length begun.runs.program
    harts_stand = ap (λ (x : Course). length (world_of x).harts) is ∙ stands.1 ∙ sym (ap (λ (x : Course). length x.runs.program) is)

    pub is_sound : IsWellFormedWorld (world_of begun)
    is_sound = subst (λ (x : Course). IsWellFormedWorld (world_of x)) (sym is) stands.0

  -- ---- After its leg

  module _ (life : Course) (same : opening_of life ≡ opening_of begun) where
    sound_after : length file.words ≡ length object.initial.items / 8 + log_words object.log * length object.code.items → IsWellFormedWorld (world_of life)
    sound_after size =
        let first = stands size in
        subst (λ (m : LifeConfig). IsWellFormedWorld (after_events m.runs.program m.world life.journal)) (sym (same ∙ ap opening_of is))
        (sound_along (program_of object) (machine_from object file.words []) life.journal (sym first.1) first.0).0

    pub harts_after : length file.words ≡ length object.initial.items / 8 + log_words object.log * length object.code.items →
        length (world_of life).harts ≡ length life.runs.program
    harts_after size =
        let first = stands size in
        ap (λ (m : LifeConfig). length (after_events m.runs.program m.world life.journal).harts) (same ∙ ap opening_of is)
        ∙ (sound_along (program_of object) (machine_from object file.words []) life.journal (sym first.1) first.0).1 ∙ first.1
        ∙ sym (ap (λ (m : LifeConfig). length m.runs.program) (same ∙ ap opening_of is))

    module _ (files : FilesBegin) where
      opens : opening_of life ≡ (let m : LifeConfig = record (recovering made file) { ended_before = ended } in m)
      opens =
          same ∙ ap opening_of is
          ∙ ap (λ (w : World). let m : LifeConfig = record (recovering made file) { ended_before = ended; world = w } in m)
          (files flat object marks cuts file [])

      pub same_world : world_of life ≡ world_from made (image_in made file) life.journal
      same_world = ap (λ (m : LifeConfig). after_events m.runs.program m.world life.journal) opens

      pub same_steps : steps_in life ≡ steps_from made (image_in made file) life.journal
      same_steps =
          ap (λ (m : LifeConfig). steps_along m.runs.marks m.runs.program m.world life.journal (first_steps m.kept_before)) opens

      pub has_recovered : ended ≡ [] → (turns moment : ℕ) (stops : List Stop) (evict : Option Evictor) →
          moment ≡ min most_leg_events (length object.code.items * turns + 1) → IsLifeDriven begun turns moment None life stops evict →
          length file.words ≡ length object.initial.items / 8 + log_words object.log * length object.code.items →
          sum_by length (all_lives file.kept) ≤ MOST_STEPS → HasRecovered made file turns life
      has_recovered none turns moment stops evict room d size few =
          let journal_is = d.plays.events_are ∙ ap (λ (es : List Event). es ++ d.journal) none_made in
          let driven = subst (λ (es : List Event). IsLeg (leg_from turns moment begun None) es) (sym journal_is) d.leg in
          let leg = whole_leg turns moment room life.journal driven in
          let recovers : opening_of life ≡ recovering made file =
          opens ∙ ap (λ (ns : List ℕ). let m : LifeConfig = record (recovering made file) { ended_before = ns } in m) none in
          record {
            opens = recovers;
            leg =
                subst (λ (es : List Event). IsLeg (leg_after (recovering made file) turns None es None) life.journal) none_made
                (is_leg_after turns None None most_leg_events begun None (sym same ∙ recovers)
                (sym (ap (λ (es : List Event). moment_after es None) none_made)) tt life.journal leg);
            sound = sound_after size;
            harts = harts_after size;
            steps = omega (arith, kept_after turns moment MOST_STEPS life stops evict d few, room);
          }

-- ---- What is read

pub compiled_in : (newest : ImageVersion) (bytes : List ℕ) (image : i.Image) → IsImageAnswer newest bytes (Ok image) →
    (version : ImageVersion) × (source : List ℕ) × IsCompiledAs (log_of version) source image.compiled
compiled_in newest bytes image (whole read is) = (is.version, is.is.source.source, is.is.source.compiled)

pub translated_in : (newest : ImageVersion) (bytes : List ℕ) (image : i.Image) → IsImageAnswer newest bytes (Ok image) → let made = image.compiled.translated in
    IsTranslatedAs made.object.log (f.flat_of image.compiled.flat) made.object made.marks made.cuts
translated_in newest bytes image read =
    let it = compiled_in newest bytes image read in
    translated_by_object (log_of it.0) it.1 image.compiled it.2

-- it has few steps
pub few_steps_in : (newest : ImageVersion) (bytes : List ℕ) (image : i.Image) → IsImageAnswer newest bytes (Ok image) →
    sum_by length (all_lives (file_in image).kept) ≤ MOST_STEPS
few_steps_in newest bytes image (whole read is) =
    let flat = f.flat_of image.compiled.flat in
    let few = lives_few flat (start flat) 0 is.state.lives (omega arith) is.sound.schedules in
    omega (arith, few, ap (sum_by length) is.lives)

few_told : (version : ImageVersion) (lives : ℕ) → Tells version lives → lives < 2 ^ 32
few_told First lives told = omega (arith, told)
few_told Second lives told = omega (arith, told)
few_told Third lives told = told.1
few_told Fourth lives told = told.1

-- it has few lives
pub few_lives_in : (newest : ImageVersion) (bytes : List ℕ) (image : i.Image) → IsImageAnswer newest bytes (Ok image) →
    length image.lives.earlier.items < 2 ^ 32
few_lives_in newest bytes image (whole read is) =
    omega (
      arith,
      few_told is.version (length is.state.lives) is.is.after.fits.lives,
      length-map is.state.lives schedule_of,
      ap length is.lives,
      as_many_lives image.lives.earlier.items image.lives.schedule.items,
    )

-- it has the words of its log
pub words_in : (newest : ImageVersion) (bytes : List ℕ) (image : i.Image) → IsImageAnswer newest bytes (Ok image) →
    let object = image.compiled.translated.object in
    length image.words.items ≡ length object.initial.items / 8 + log_words object.log * length object.code.items
words_in newest bytes image (whole read is) =
    let object = image.compiled.translated.object in
    let variables : length is.state.variables ≡ length object.initial.items / 8 = omega (arith, is.is.after.fits.variables) in
    ap length is.words ∙ length-append is.state.variables is.state.logs
    ∙ ap₂ (λ (m n : ℕ). m + n) variables
    (is.is.after.fits.logs ∙ ap (λ (l : Log). log_words l * length object.code.items) (sym is.is.source.compiled.translated.log))

-- what is read as an image is run on, whoever wrote it
pub accepted_runs_on : AcceptedRunOn → (newest : ImageVersion) (bytes : List ℕ) (image : i.Image) → IsImageAnswer newest bytes (Ok image) →
    RunsOn (translation_in image.compiled) (image_in (translation_in image.compiled) (file_in image))
accepted_runs_on run newest bytes image (whole read is) =
    let c = image.compiled in
    let t = c.translated in
    let state = is.state in
    let kept = (file_in image).kept in
    let compiled = is.is.source.compiled in
    let after = is.is.after in
    let on = run is.version (f.flat_of c.flat) t.object t.marks t.cuts t.resumes.items state kept compiled.resumable after.fits after.references is.sound in
    let count : length state.variables ≡ length t.object.initial.items / 8 = omega (arith, after.fits.variables) in
    let spread = ap₂ (λ (n : ℕ) (ws : List ℕ). spread_words n ws) count (sym is.words) in
    subst (λ (ws : List ℕ). RunsOn (translation_in c) (record { words = ws; kept = kept })) spread on

-- and where it is settled, lives go on from it as from the source's start
pub accepted_goes_on : AcceptedGoOn → (newest : ImageVersion) (bytes : List ℕ) (image : i.Image) → IsImageAnswer newest bytes (Ok image) →
    let c = translation_in image.compiled in
    IsSettledImage c (image_in c (file_in image)) → (events : List Event) → IsCarriedOn c (image_in c (file_in image)) events
accepted_goes_on go_on newest bytes image (whole read is) settled events =
    let c = image.compiled in
    let t = c.translated in
    let state = is.state in
    let kept = (file_in image).kept in
    let compiled = is.is.source.compiled in
    let after = is.is.after in
    let count : length state.variables ≡ length t.object.initial.items / 8 = omega (arith, after.fits.variables) in
    let spread = ap₂ (λ (n : ℕ) (ws : List ℕ). spread_words n ws) count (sym is.words) in
    let here = subst (λ (ws : List ℕ). IsSettledImage (translation_in c) (record { words = ws; kept = kept })) (sym spread) settled in
    let on = go_on is.version (f.flat_of c.flat) t.object t.marks t.cuts t.resumes.items state kept compiled.resumable after.fits after.references is.sound here
    events in
    subst (λ (ws : List ℕ). IsCarriedOn (translation_in c) (record { words = ws; kept = kept }) events) spread on
