-- What a crash would leave of a life that a script was played on.
use Rattle.std.proofs.Common.{◌≡◌, ℕ, ◌+◌, ◌*◌, ◌/◌, ◌≤◌, List, length, map, take, drop, ap, ap₂, sym, subst, ◌∙◌, arith}
use Rattle.std.specs.Prelude.{sum_by}
use Rattle.std.proofs.Math.Nat.{mul-le-mul_left}
use Rattle.std.proofs.lemmas.List.{length-map}
use Rattle.log_schemes.specs.Layout.{log_words}
use Rattle.ido_base.specs.declared.limits.TheConstants.{VARIABLE_WORDS}
use Rattle.machine_events.specs.declared.event.Event.{Event}
use Rattle.c_tree.specs.Flats as f
use Rattle.machine_model.specs.declared.object.Object.{Object}
use Rattle.rv64_isa.specs.declared.object.Marks.{Marks}
use Rattle.machine_model.specs.Executables.{first_world}
use Rattle.machine_model.specs.Machine.{World}
use Rattle.rv64_isa.specs.Programs.{slot_of}
use Rattle.machine_model.specs.Schedule.{Steps, all_lives, schedules}
use Rattle.flow_graph.specs.declared.cuts.Cuts.{Cuts}
use Rattle.flat_compile.specs.TranslatedForms.{IsTranslatedAs}
use Rattle.compiler_correctness.specs.Compilations.{IsCompilation}
use Rattle.compiler_correctness.specs.Images.{file_of, image_of, variable_words}
use Rattle.compiler_correctness.specs.Translations.{Translation, translation_to}
use Rattle.crash_images.specs.Contents.{Contents, contents, most_logs, written_as}
use Rattle.crash_images.specs.ImageDecoder.{IsReadAs}
use Rattle.crash_images.specs.ImageEncoder.{spelling}
use Rattle.run_tracker.specs.ObjectLives.{Course, LifeConfig, left_words, steps_in, variable_words_in, world_of}
use Rattle.image_checks.specs.RunImages.{left_by, file_contents}
use Rattle.ido_cli.specs.Images.{IsImageAfter}
use Rattle.ido_cli.proofs.KeptStepsBounded.{first_kept_few, first_lives_few}
use Rattle.ido_cli.specs.links.PlayedLives.{HasPlayed}
use Rattle.ido_cli.proofs.PlayedRuns.{same_steps, same_world}

module _ (flat : f.Flat) (object : Object) (marks : Marks) (cuts : Cuts) (life : Course) (events : List Event) (p : HasPlayed object marks life events) where
  abbrev made : Translation
  made = translation_to flat object marks cuts

  abbrev left : List ℕ
  left = left_words (variable_words_in life) (world_of life).words

  pub same_variables : variable_words_in life ≡ length object.initial.items / 8
  same_variables = ap (λ (m : LifeConfig). length m.runs.initial / 8) p.begins

  same_left : left ≡ (file_of made (image_of made events)).words
  unfolding left_words
  same_left =
      ap (λ (n : ℕ). left_words n (world_of life).words) same_variables
      ∙ ap (λ (w : World). left_words (variable_words made) w.words) (same_world flat object marks cuts life events p)

  same_kept : schedules (steps_in life) ≡ all_lives (left_by made events).kept
  same_kept = ap (λ (s : Steps). schedules s) (same_steps flat object marks cuts life events p)

  pub steps_few : sum_by length (schedules (steps_in life)) ≤ length events
  steps_few =
      let c = made in
      let few : sum_by length (all_lives (left_by made events).kept) ≤ length events =
      first_kept_few c.runs.marks c.runs.program (first_world c.runs) events in
      omega (arith, ap (sum_by length) same_kept, few)

  pub lives_few : length (schedules (steps_in life)) ≤ length events + 1
  lives_few =
      let c = made in
      let few : length (all_lives (left_by made events).kept) ≤ length events + 1 =
      first_lives_few c.runs.marks c.runs.program (first_world c.runs) events in
      omega (arith, ap length same_kept, few)

  module _ (t : IsTranslatedAs object.log flat object marks cuts) (compilation : IsCompilation made) where
    pub variables_few : variable_words_in life ≤ VARIABLE_WORDS
    variables_few = omega (arith, same_variables, t.limits.bytes)

    size : length left ≡ variable_words_in life + log_words object.log * length object.code.items
    size =
        let harts = length-map object.code.items (λ code. map slot_of code.items) in
        let in_file = (compilation.in_file events).size in
        ap length same_left ∙ in_file ∙ ap₂ (λ (n k : ℕ). n + log_words object.log * k) (sym same_variables) harts

    pub variables_within : variable_words_in life ≤ length left
    variables_within = omega (arith, size)

    pub logs_few : length left ≤ variable_words_in life + most_logs object.log
    logs_few = omega (arith, size, mul-le-mul_left (log_words object.log) t.limits.threads)

  same_contents : (source : List ℕ) → contents source (take (variable_words_in life) left) (drop (variable_words_in life) left) (schedules (steps_in life)) ≡
      file_contents source made (left_by made events)
  same_contents source =
      ap (λ (n : ℕ). contents source (take n left) (drop n left) (schedules (steps_in life))) same_variables
      ∙ ap (λ (ws : List ℕ). contents source (take (variable_words made) ws) (drop (variable_words made) ws) (schedules (steps_in life))) same_left
      ∙ ap (λ (ks : List (List ℕ)). let ws = (left_by made events).words in contents source (take (variable_words made) ws) (drop (variable_words made) ws) ks)
      same_kept

  pub image_after : (source : List ℕ) (status : ℕ) (output : List ℕ) → status ≡ 0 →
      let all = contents source (take (variable_words_in life) left) (drop (variable_words_in life) left) (schedules (steps_in life)) in
      output ≡ spelling (written_as object.log) all → IsReadAs (written_as object.log) all output →
      IsImageAfter source made events status output
  image_after source status output done told read = record {
    status_is = done;
    output_is = told ∙ ap (spelling (written_as object.log)) (same_contents source);
    read_as = subst (λ (x : Contents). IsReadAs (written_as object.log) x output) (same_contents source) read;
  }
