-- Lives of compiled texts have counted the sections that the source ends by their kept schedules.
use Rattle.std.proofs.Common.{◌≡◌, refl, ℕ, ◌+◌, ◌<◌, List, [], ◌∷◌, ◌++◌, length, sym, ap, ap₂, subst, ◌∙◌, slice_index_or, add_assoc, zero-add, append_assoc}
use Rattle.std.specs.Prelude.{Bool, if◌then◌else◌}
use Rattle.machine_events.specs.declared.event.Event.{Event}
use Rattle.machine_events.specs.declared.event.Event.TheVariants.{Crash}
use Rattle.machine_events.specs.Cores.{Behaviour, passed_count, played}
use Rattle.log_schemes.specs.declared.log.Log.{Log}
use Rattle.c_tree.specs.Flats.{flat_of}
use Rattle.c_tree.specs.Source.{start}
use Rattle.source_machine.specs.Lives.{ended_lives}
use Rattle.machine_model.specs.Executables.{Executable, first_world}
use Rattle.machine_model.specs.Machine.{World, after_event}
use Rattle.machine_model.specs.Schedule.{Steps, all_lives, first_steps, only_life, schedules, steps_after}
use Rattle.crash_simulation.proofs.Public.{steps_join}
use Rattle.compiler_correctness.specs.Images.{Image, first_from, image_in, image_of, steps_from}
use Rattle.compiler_correctness.specs.Laws.{ImagesAreCrashes}
use Rattle.compiler_correctness.specs.Translations.{Translation, steps, world}
use Rattle.ido_compile.specs.declared.compiler.Compiled.{Compiled}
use Rattle.ido_compile.specs.CompileAnswers.{IsCompiledAs, translation_in}
use Rattle.ido_compile.specs.Files.{FilesBegin}
use Rattle.image_checks.specs.RunImages.{left_by}
use Rattle.run_tracker.specs.ObjectLives.{Course, LifeConfig, ends_at_point, life_from, living, opening_of, steps_in}
use Rattle.run_tracker.proofs.Public.{played_is}
use Rattle.ido_cli.specs.CompiledLives.{CountsEnded, LivesCountSections, LivesOfFilesAreCompiled, LivesOfFilesCountSections}
use Rattle.ido_cli.specs.Plays.{beginning}
use Rattle.ido_cli.specs.links.PlayedLives.{HasPlayed}
use Rattle.ido_cli.proofs.EndedSections.{are_ended}
use Rattle.ido_cli.proofs.PlayedRuns.{same_steps}

-- ---- Counts along events

-- what is counted along two lists of events, one after the other
passed_join : {M : Type 0} (b : Behaviour M) (test : M → Event → Bool) (events more : List Event) (m : M) →
    passed_count b test m (events ++ more) ≡ passed_count b test m events + passed_count b test (played b m events) more
passed_join b test [] more m = sym (zero-add (passed_count b test m more))
passed_join b test (event ∷ events) more m =
    ap (λ (n : ℕ). (if test m event then 1 else 0) + n) (passed_join b test events more (b.next m event))
    ∙ sym (add_assoc (if test m event then 1 else 0) (passed_count b test (b.next m event) events)
    (passed_count b test (played b (b.next m event) events) more))

module _ (h : ℕ) where
  abbrev at_point : LifeConfig → Event → Bool
  at_point m event = ends_at_point m.runs.program m.world event h

  -- only what is run and the world are looked at
  abbrev plain : Executable → World → LifeConfig
  plain runs w = record { runs = runs; kept_before = only_life []; ended_before = []; world = w }

  plainly : (events : List Event) (m : LifeConfig) → passed_count living at_point m events ≡ passed_count living at_point (plain m.runs m.world) events
  plainly [] m = refl
  plainly (event ∷ events) m =
      let next : World = after_event m.runs.program m.world event in
      let one : ℕ = if at_point m event then 1 else 0 in
      ap (λ (n : ℕ). one + n) (plainly events (record m { world = next }))

-- ---- From the start

module _ (log : Log) (text : List ℕ) (x : Compiled) (is : IsCompiledAs log text x) (life : Course) where
  abbrev c : Translation
  c = translation_in x

  -- from its start, of as many harts
  pub counted_at : opening_of life ≡ beginning c → CountsEnded (flat_of x.flat) life
  counted_at begins h below =
      let y = x.translated in
      let all : HasPlayed y.object y.marks life life.journal = record { begins = begins; journal = refl } in
      let within : h < length c.runs.program = subst (λ (m : LifeConfig). h < length m.runs.program) begins below in
      ap (λ (m : LifeConfig). slice_index_or m.ended_before h 0 + passed_count living (at_point h) m life.journal) begins
      ∙ zero-add (passed_count living (at_point h) (beginning c) life.journal)
      ∙ are_ended c is.compilation h within life.journal
      ∙ ap (λ (s : Steps). ended_lives (flat_of x.flat) (start (flat_of x.flat)) (schedules s) h)
      (sym (same_steps (flat_of x.flat) y.object y.marks y.cuts life life.journal all))

  -- ---- From a file

  module _ (files : FilesBegin) (crashes : ImagesAreCrashes) (before : List Event) where
    abbrev file : Image
    file = left_by c before

    abbrev crashed : List Event
    crashed = before ++ Crash ∷ []

    in_file : image_in c file ≡ image_of c before
    in_file = (is.compilation.in_file before).is_all

    kept_is : schedules (steps c crashed) ≡ all_lives file.kept
    unfolding steps_after
    kept_is =
        ap schedules (steps_join c.runs.marks c.runs.program before (Crash ∷ []) (first_world c.runs) (first_steps (only_life [])))

    world_is : first_from c (image_in c file) ≡ world c crashed
    world_is = ap (first_from c) in_file ∙ (crashes c before []).world_is

    pub counted_on : LivesOfFilesAreCompiled → (ended : List ℕ) (cap : ℕ) →
        ((h : ℕ) → slice_index_or ended h 0 ≡ ended_lives (flat_of x.flat) (start (flat_of x.flat)) (all_lives file.kept) h) →
        opening_of life ≡ opening_of (life_from x.translated.object x.translated.marks file.words file.kept ended cap) → CountsEnded (flat_of x.flat) life
    counted_on compiled ended cap told begins h below =
        let y = x.translated in
        let flat = flat_of x.flat in
        let journal = life.journal in
        let runs_are : life.runs ≡ c.runs = ap (λ (m : LifeConfig). m.runs) begins in
        let within : h < length c.runs.program = subst (λ (r : Executable). h < length r.program) runs_are below in
        let opens : life.opening ≡ world c crashed =
        ap (λ (m : LifeConfig). m.world) begins ∙ files flat y.object y.marks y.cuts file [] ∙ world_is in
        let there : played living (beginning c) crashed ≡ (let m : LifeConfig = record (beginning c) { world = world c crashed } in m) =
        played_is (beginning c) crashed in
        -- since the crash
        let since : passed_count living (at_point h) (opening_of life) journal
        ≡ passed_count living (at_point h) (played living (beginning c) crashed) journal =
        plainly h journal (opening_of life)
        ∙ ap₂ (λ (r : Executable) (w : World). passed_count living (at_point h) (plain h r w) journal) runs_are opens
        ∙ sym (ap (λ (m : LifeConfig). passed_count living (at_point h) m journal) there
        ∙ plainly h journal (record (beginning c) { world = world c crashed })) in
        -- up to the crash
        let first : slice_index_or ended h 0 ≡ passed_count living (at_point h) (beginning c) crashed =
        told h ∙ ap (λ (lives : List (List ℕ)). ended_lives flat (start flat) lives h) (sym kept_is)
        ∙ sym (are_ended c is.compilation h within crashed) in
        let all : passed_count living (at_point h) (beginning c) (crashed ++ journal)
        ≡ passed_count living (at_point h) (beginning c) crashed + passed_count living (at_point h) (played living (beginning c) crashed) journal =
        passed_join living (at_point h) crashed journal (beginning c) in
        let events_are : crashed ++ journal ≡ before ++ Crash ∷ journal = append_assoc before (Crash ∷ []) journal in
        let steps_are = (compiled log text x file ended cap life is begins).steps_are in
        let lives_are : schedules (steps_in life) ≡ schedules (steps c (before ++ Crash ∷ journal)) =
        ap schedules steps_are ∙ ap (λ (i : Image). schedules (steps_from c i journal)) in_file ∙ ap all_lives (crashes c before journal).kept_is in
        ap (λ (ns : List ℕ). slice_index_or ns h 0 + passed_count living (at_point h) (opening_of life) journal)
        (ap (λ (m : LifeConfig). m.ended_before) begins)
        ∙ ap₂ (λ (a b : ℕ). a + b) first since ∙ sym all
        ∙ ap (λ (es : List Event). passed_count living (at_point h) (beginning c) es) events_are
        ∙ are_ended c is.compilation h within (before ++ Crash ∷ journal)
        ∙ ap (λ (lives : List (List ℕ)). ended_lives flat (start flat) lives h) (sym lives_are)

pub starts_counted : LivesCountSections
starts_counted log text x cap life is begins = counted_at log text x is life begins

pub files_counted : FilesBegin → ImagesAreCrashes → LivesOfFilesAreCompiled → LivesOfFilesCountSections
files_counted files crashes compiled log text x before ended cap life is told begins =
    counted_on log text x is life files crashes before compiled ended cap told begins
