-- Images of older versions, and those of the newest that they become.
use Rattle.std.proofs.Common.{◌≡◌, ℕ, ◌*◌, ◌/◌, ◌-◌, ◌≤◌, List, [], ◌∷◌, ◌++◌, Bool, true, false, length, map, take, drop, replicate, zero, suc}
use Rattle.std.proofs.Common.{refl, ap, sym, subst, ◌∙◌, arith, inl, inr, Result, Ok, Err}
use Rattle.std.specs.Prelude.{◌==◌, ◌&&◌, IfOk, if◌then◌else◌, codes, nat_le, sum_by}
use Rattle.std.proofs.lemmas.List.{length-map, take_all}
use Rattle.std.proofs.lemmas.Option.{none-some, same_Some}
use Rattle.run_scripts.specs.Reports.{line}
use Rattle.ido_cli.specs.Answers.{UpgradeAnswer, not_older, of_older}
use Rattle.std.proofs.lemmas.List.Sums.{sum_by-cons}
use Rattle.ido_base.specs.Layout.{variable_lines}
use Rattle.ido_base.specs.Words.{Word, durable_value}
use Rattle.ido_base.specs.declared.limits.TheConstants.{MOST_THREADS, VARIABLE_WORDS}
use Rattle.ido_base.specs.declared.place.Place.{Place}
use Rattle.c_tree.specs.declared.rule.Rule.{Rule}
use Rattle.c_tree.specs.Flats.{flat_of, thread_of}
use Rattle.machine_model.specs.Executables.{Executable}
use Rattle.rv64_isa.specs.Programs.{slot_of}
use Rattle.machine_model.specs.Schedule.{schedules}
use Rattle.compiler_correctness.specs.Images.{variable_words}
use Rattle.compiler_correctness.specs.Translations.{Translation}
use Rattle.file_fields.specs.Fields.{Fault, Version, magic_at, number_at, ◌>>=◌}
use Rattle.file_fields.proofs.Public.{bind_ok, ok_is}
use Rattle.crash_images.specs.Contents.{Tells, contents, number_of}
use Rattle.crash_images.specs.ImageDecoder.{known, source_at, version_in}
use Rattle.crash_images.specs.ImageEncoder.{magic}
use Rattle.crash_images.specs.declared.version.ImageVersion.{ImageVersion}
use Rattle.crash_images.specs.declared.version.ImageVersion.TheVariants.{First, Second, Third, Fourth}
use Rattle.ido_compile.specs.declared.compiler.Compiled.{Compiled}
use Rattle.ido_compile.specs.declared.error.CompileError.{CompileError}
use Rattle.ido_compile.specs.declared.error.CompileError.TheVariants as compiling
use Rattle.ido_compile.specs.CompileAnswers.{IsCompiledAs, IsCompileAnswerAs, translation_in}
use Rattle.ido_compile.specs.LoggedTexts.{IsRefusedAs}
use Rattle.ido_compile.specs.Verdicts.{NotBoth}
use Rattle.flat_compile.specs.TranslatedForms.{command_log}
use Rattle.image_checks.specs.declared.error.ImageError.{ImageError}
use Rattle.run_scripts.specs.Runs.{schedule_of}
use Rattle.run_tracker.specs.ObjectLives.{Course, left_words, steps_in, variable_words_in, world_of}
use Rattle.ido_cli.specs.declared.compiled_image.Begun.{Begun}
use Rattle.ido_cli.specs.declared.compiled_image.Image.{Image}
use Rattle.ido_cli.specs.CompiledImages.{BeginsCompiled, IsImage, IsImageAnswer, whole}
use Rattle.ido_cli.specs.Upgrades.{IsOlderFault, IsOlderImage, IsTakenAnew, faulty, idle_logs, refused_anew, renewed_contents, unknown}
use Rattle.ido_cli.specs.links.BegunImages.{HasBegun, IsAnewFault, IsFirstFault}
use Rattle.ido_cli.specs.links.CompileRefusals.{image_fault}
use Rattle.ido_cli.specs.links.RecoveredLives.{CanRenew}
use Rattle.ido_cli.proofs.LastLifeApart.{as_many_lives}
use Rattle.ido_cli.proofs.PlayedRuns.{as_many_threads}

-- ---- What is read

-- the same bytes have one source
same_source : (newest : ImageVersion) (bytes : List ℕ) (version other : ImageVersion) (c d : Compiled) (a : BeginsCompiled newest bytes version c)
    (b : BeginsCompiled newest bytes other d) → a.source ≡ b.source
same_source newest bytes version other c d a b =
    let versions : version ≡ other = ok_is version other (sym a.known ∙ b.known) in
    let here : source_at other bytes ≡ Ok (a.source, a.rest) =
    subst (λ (v : ImageVersion). source_at v bytes ≡ Ok (a.source, a.rest)) versions a.begins in
    ap (λ (x : List ℕ × List ℕ). x.0) (ok_is (a.source, a.rest) (b.source, b.rest) (sym here ∙ b.begins))

-- a fault before the source's end
pub first_fault : (bytes : List ℕ) (error : ImageError) → IsFirstFault Second bytes error → IsOlderFault bytes error
first_fault bytes error first = elim first.none [
  | inl memory ↦ subst (λ (x : ImageError). IsOlderFault bytes x) (sym memory) unknown
  | inr none ↦ faulty error first.answer (λ version c rule place begins refused. none version c begins)
]

module _ (bytes : List ℕ) (b : Begun) (h : HasBegun Second bytes b) where
  -- one after it, where the source is accepted for the newest log
  pub taken_anew : NotBoth → (again : Compiled) → IsCompiledAs command_log b.source.now again → IsTakenAnew bytes
  taken_anew not_both again accepted version c rule place begins refused =
      let same = same_source Second bytes version b.version c b.compiled begins h.is ∙ h.source in
      not_both command_log b.source.now (flat_of again.flat) rule place accepted.accepted
      (subst (λ (text : List ℕ). IsRefusedAs command_log text rule place) same refused)

  anew_by : (error : CompileError) → IsCompileAnswerAs command_log b.source.now (Err error) → IsOlderFault bytes (image_fault error)
  anew_by (compiling.Refused x) told =
      refused_anew b.version b.compiled x.rule x.place h.is (subst (λ (text : List ℕ). IsRefusedAs command_log text x.rule x.place) (sym h.source) told)
  anew_by compiling.Memory told = unknown

  pub anew_fault : (x : ImageError) → IsAnewFault b.source.now x → IsOlderFault bytes x
  anew_fault x found = subst (λ (y : ImageError). IsOlderFault bytes y) (sym found.1) (anew_by found.0 found.2)

  pub older_image : (again : Compiled) → IsCompiledAs command_log b.source.now again → (image : Image) → IsImageAnswer Second bytes (Ok image) →
      IsOlderImage bytes image b.source.now
  older_image again accepted image (whole read is) = record {
    is = is;
    source_is = same_source Second bytes is.version b.version image.compiled b.compiled is.is.source h.is ∙ h.source;
    again = again;
    accepted = accepted;
  }

-- what is answered to bytes whose source is refused for the newest log
module _ (not_both : NotBoth) (bytes : List ℕ) (version : ImageVersion) (c : Compiled) (rule : Rule) (place : Place)
    (begins : BeginsCompiled Second bytes version c) (refused : IsRefusedAs command_log begins.source rule place) where
  not_older_image : (image : Image) (source : List ℕ) → IsOlderImage bytes image source → ⊥
  not_older_image image source older =
      let same = same_source Second bytes version older.is.version c image.compiled begins older.is.is.source ∙ older.source_is in
      not_both command_log source (flat_of older.again.flat) rule place older.accepted.accepted
      (subst (λ (text : List ℕ). IsRefusedAs command_log text rule place) same refused)

  pub source_comes_first : (turns status : ℕ) (output : List ℕ) → UpgradeAnswer turns bytes status output →
      (status ≡ 6) × (output ≡ line (codes "refused I4"))
  source_comes_first turns status output (of_older image source older runs said) = absurd (not_older_image image source older)
  source_comes_first turns status output (not_older error (faulty x answer taken) six told) = absurd (taken version c rule place begins refused)
  source_comes_first turns status output (not_older error (refused_anew v d r p b told_refused) six told) =
      (six, same_Some output (line (codes "refused I4")) (sym told))
  source_comes_first turns status output (not_older error unknown six told) = absurd (none-some output told)

-- ---- There is one life

abbrev chosen : (first second third fourth : Bool) → Result ImageVersion Fault
chosen first second third fourth =
    if first then Ok First else if second && nat_le 2 2 then Ok Second else if third && nat_le 3 2 then Ok Third
    else if fourth && nat_le 4 2 then Ok Fourth else Err Version

older_chosen : (first second third fourth : Bool) (version : ImageVersion) → chosen first second third fourth ≡ Ok version →
    number_of version ≤ number_of Second
older_chosen true second third fourth version is = subst (λ (v : ImageVersion). number_of v ≤ 2) (ok_is First version is) (omega arith)
older_chosen false true third fourth version is = subst (λ (v : ImageVersion). number_of v ≤ 2) (ok_is Second version is) (omega arith)
older_chosen false false true true version is = absurd (cc is)
older_chosen false false true false version is = absurd (cc is)
older_chosen false false false true version is = absurd (cc is)
older_chosen false false false false version is = absurd (cc is)

older_known : (bytes : List ℕ) (version : ImageVersion) → version_in Second bytes ≡ Ok version → number_of version ≤ number_of Second
unfolding version_in
older_known bytes version is =
    let a = bind_ok (magic_at (length bytes) magic bytes) (λ after. number_at (length bytes) after >>= λ n. known Second n.0) version is in
    let b = bind_ok (number_at (length bytes) a.0) (λ n. known Second n.0) version a.2 in
    older_chosen (b.0.0 == 1) (b.0.0 == 2) (b.0.0 == 3) (b.0.0 == 4) version b.2

one_life : (version : ImageVersion) (lives : ℕ) → number_of version ≤ number_of Second → Tells version lives → lives ≡ 1
one_life First lives older told = told
one_life Second lives older told = told
one_life Third lives older told = absurd (omega (arith, older))
one_life Fourth lives older told = absurd (omega (arith, older))

none_long : {A : Type 0} (xs : List A) → length xs ≡ 0 → xs ≡ []
none_long [] none = refl
none_long (x ∷ xs) none = absurd (omega (arith, none))

pub older_alone : (bytes : List ℕ) (image : Image) → IsImage Second bytes image → image.lives.earlier.items ≡ []
older_alone bytes image is =
    let one = one_life is.version (length is.state.lives) (older_known bytes is.version is.is.source.known) is.is.after.fits.lives in
    none_long image.lives.earlier.items
    (omega (
      arith,
      one,
      length-map is.state.lives schedule_of,
      ap length is.lives,
      as_many_lives image.lives.earlier.items image.lives.schedule.items,
    ))

-- ---- What is written

-- what is so where three things are
pub by_three : {X E : Type 0} (result : Result X E) (P Q R S : X → Type 0) → ((x : X) → P x → Q x → R x → S x) → IfOk result P → IfOk result Q →
    IfOk result R → IfOk result S
by_three (Ok x) P Q R S all p q r = all x p q r
by_three (Err error) P Q R S all p q r = tt

pub zeros_are : (old new : List ℕ) (len count : ℕ) → old ≡ [] → len ≡ length old → new ≡ take count old ++ replicate (count - len) 0 → new ≡ replicate count 0
zeros_are old new len count none is_len is =
    let long : length old ≡ 0 = ap length none in
    is ∙ ap (λ (xs : List ℕ). xs ++ replicate (count - len) 0) (take_all count old (omega (arith, long)) ∙ none)
    ∙ ap (λ (n : ℕ). replicate n 0) (omega (arith, is_len, long))

pub take_first : (n : ℕ) (xs ys : List ℕ) → n ≤ length xs → take n (take n xs ++ ys) ≡ take n xs
take_first zero xs ys fits = refl
take_first (suc n) [] ys fits = absurd (omega (arith, fits))
take_first (suc n) (x ∷ xs) ys fits = ap (λ (zs : List ℕ). x ∷ zs) (take_first n xs ys (omega (arith, fits)))

long_prefix : (n : ℕ) (xs ys : List ℕ) → n ≤ length xs → n ≤ length (take n xs ++ ys)
long_prefix zero xs ys fits = omega arith
long_prefix (suc n) [] ys fits = absurd (omega (arith, fits))
long_prefix (suc n) (x ∷ xs) ys fits = omega (arith, long_prefix n xs ys (omega (arith, fits)))

module _ (x : Compiled) (life : Course) (can : CanRenew x life) where
  abbrev c : Translation
  c = translation_in x

  abbrev n : ℕ
  n = variable_words_in life

  abbrev words : List Word
  words = (world_of life).words

  pub same_words : n ≡ length x.translated.object.initial.items / 8
  same_words = ap (λ (r : Executable). length r.initial / 8) can.runs

  pub words_few : n ≤ VARIABLE_WORDS
  words_few = omega (arith, same_words, can.translated.limits.bytes)

  pub harts_few : length life.runs.program ≤ MOST_THREADS
  harts_few =
      omega (
        arith,
        ap (λ (r : Executable). length r.program) can.runs,
        length-map x.translated.object.code.items (λ code. map slot_of code.items),
        can.translated.limits.threads,
      )

  all_words : n ≤ length (map durable_value words)
  all_words = omega (arith, words_few, length-map words durable_value, can.sound.size)

  pub words_within : n ≤ length (left_words n words)
  unfolding left_words
  words_within = long_prefix n (map durable_value words) (drop (8 * variable_lines) (map durable_value words)) all_words

  variables_are : take n (left_words n words) ≡ take (variable_words c) (map durable_value words)
  unfolding left_words
  variables_are =
      take_first n (map durable_value words) (drop (8 * variable_lines) (map durable_value words)) all_words
      ∙ ap (λ (k : ℕ). take k (map durable_value words)) (ap (λ (r : Executable). length r.initial / 8) can.runs)

  pub one_schedule_kept : (steps_in life).kept ∷ [] ≡ schedules (steps_in life)
  one_schedule_kept = ap (λ (earlier : List (List ℕ)). earlier ++ (steps_in life).kept ∷ []) (sym can.alone)

  pub steps_counted_once : sum_by length (schedules (steps_in life)) ≡ length (steps_in life).kept
  steps_counted_once =
      ap (sum_by length) (sym one_schedule_kept) ∙ omega (arith, sum_by-cons length (steps_in life).kept [])

  pub renewed_is : (source : List ℕ) → contents source (take n (left_words n words)) (idle_logs (length life.runs.program)) ((steps_in life).kept ∷ []) ≡
      renewed_contents source c (world_of life) (schedules (steps_in life))
  renewed_is source =
      ap (λ (vs : List ℕ). contents source vs (idle_logs (length life.runs.program)) ((steps_in life).kept ∷ [])) variables_are
      ∙ ap (λ (k : ℕ). contents source (take (variable_words c) (map durable_value words)) (idle_logs k) ((steps_in life).kept ∷ []))
      (ap (λ (r : Executable). length r.program) can.runs)
      ∙ ap (contents source (take (variable_words c) (map durable_value words)) (idle_logs (length c.runs.program))) one_schedule_kept

  -- what its report needs
  pub few_threads : length x.flat.threads.items ≤ MOST_THREADS
  few_threads =
      omega (
        arith,
        can.translated.limits.threads,
        as_many_threads (flat_of x.flat) x.translated.object x.translated.marks x.translated.cuts can.translated,
        length-map x.flat.threads.items thread_of,
      )
