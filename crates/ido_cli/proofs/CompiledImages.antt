-- What is answered to bytes.
use Rattle.std.proofs.Common.{◌≡◌, ◌≤◌, ℕ, List, ◌++◌, length, map, ap, refl, sym, ◌∙◌, subst, arith, inl, inr, Result, Err, Ok}
use Rattle.std.specs.Prelude.{MatchResult, Vec}
use Rattle.std.specs.Global.{Global}
use Rattle.std.proofs.lemmas.List.{length-map}
use Rattle.c_tree.specs.Flats.{Flat, flat_of}
use Rattle.ido_compile.specs.declared.compiler.Compiled.{Compiled}
use Rattle.ido_compile.specs.declared.error.CompileError.{CompileError}
use Rattle.ido_compile.specs.declared.error.CompileError.TheVariants as compiling
use Rattle.ido_compile.specs.CompileAnswers.{IsCompileAnswerAs}
use Rattle.ido_compile.specs.LoggedTexts.{IsAcceptedAs, IsRefusedAs}
use Rattle.ido_compile.specs.Verdicts.{NotBoth}
use Rattle.ido_base.specs.declared.place.Place.{Place}
use Rattle.c_tree.specs.declared.rule.Rule.{Rule}
use Rattle.image_checks.specs.declared.error.ImageError.{ImageError}
use Rattle.file_fields.specs.declared.error.ReadError.{ReadError}
use Rattle.file_fields.specs.declared.error.ReadError.TheVariants as read
use Rattle.ido_cli.specs.declared.compiled_image.Image.{Image}
use Rattle.run_scripts.specs.Runs.{schedule_of}
use Rattle.crash_images.specs.Contents.{State, AreVariables, IsState, log_of}
use Rattle.crash_images.specs.Contents as contents
use Rattle.crash_images.specs.ImageDecoder.{logs_at, source_at, variables_at, version_in}
use Rattle.crash_images.specs.declared.state.State as code
use Rattle.crash_images.specs.links.Views.{state_of}
use Rattle.crash_images.specs.declared.version.ImageVersion.{ImageVersion}
use Rattle.crash_images.specs.declared.version.ImageVersion.TheVariants.{First, Second, Third, Fourth}
use Rattle.machine_model.specs.Schedule.{all_lives}
use Rattle.run_scripts.specs.links.ReportViews.{steps_of}
use Rattle.run_tracker.specs.links.EarlierLives.{lives_in}
use Rattle.ido_cli.specs.CompiledImages.{size_of, threads_of, BeginsCompiled, HasState, IsFaultAfter, IsImageAnswer, IsStateAfter, whole, no_version, no_source}
use Rattle.ido_cli.specs.CompiledImages.{error_of}
use Rattle.ido_cli.specs.CompiledImages.{refused, no_element, no_logs, no_state, no_variables, unsound, no_memory}
use Rattle.image_checks.specs.VariableReferences.{AreReferences, IsReferenceFault}
use Rattle.image_checks.specs.links.Errors.{IsFaultOrMemory, of_read}
use Rattle.ido_cli.specs.links.BegunImages.{IsFirstFault, of_logs}
use Rattle.ido_cli.specs.links.CompileRefusals.{image_fault}
use Rattle.file_fields.specs.Fields.{Fault, Magic, Version, Cut, Field, Rest}
use Rattle.file_fields.proofs.Public.{ok_is}
use Rattle.file_fields.specs.links.ReaderResults.{IsFault, Fails}
use Rattle.image_checks.specs.StateAnswers.{IsStateAnswer, sound, faulty}
use Rattle.image_checks.specs.StateAnswers as states

-- ---- After the source

module _ (flat : Flat) (version : ImageVersion) (total size threads : ℕ) (bytes : List ℕ) where
  abbrev Told : ImageError → Type 0
  Told error = IsFaultOrMemory (IsFaultAfter flat version total size threads bytes) error

  pub variables_told : (x : ReadError) → Fails x (variables_at total size bytes) → Told (of_read x)
  variables_told read.Magic h = inr (no_variables Magic h)
  variables_told read.Version h = inr (no_variables Version h)
  variables_told (read.Cut place) h = inr (no_variables (Cut place.0) h)
  variables_told (read.Field place) h = inr (no_variables (Field place.0) h)
  variables_told (read.Rest place) h = inr (no_variables (Rest place.0) h)
  variables_told read.Memory h = inl refl

  module _ (variables rest : List ℕ) (is : variables_at total size bytes ≡ Ok (variables, rest)) where
    pub element_told : (x : ImageError) → IsFaultOrMemory (IsReferenceFault flat variables) x → Told x
    element_told x (inl none) = inl none
    element_told x (inr fault) = inr (no_element variables rest x is fault)

    module _ (right : AreReferences flat variables) where
      logs_told : (x : ReadError) → Fails x (logs_at version total threads variables rest) → Told (of_logs x)
      logs_told read.Magic h = inr (no_logs variables rest Magic is right h)
      logs_told read.Version h = inr (no_logs variables rest Version is right h)
      logs_told (read.Cut place) h = inr (no_logs variables rest (Cut place.0) is right h)
      logs_told (read.Field place) h = inr (no_logs variables rest (Field place.0) is right h)
      logs_told (read.Rest place) h = inr (no_logs variables rest (Rest place.0) is right h)
      logs_told read.Memory h = inl refl

      pub after_logs : AreVariables size variables → (result : Result code.State ImageError) →
          MatchResult result
          (λ state. (logs_at version total threads variables rest ≡ Ok (state_of state)) × (state.variables.items ≡ variables)
          × ((n : ℕ) → AreVariables n variables → IsState version n threads (state_of state)))
          (λ fault. (x : ReadError) × (fault ≡ of_logs x) × Fails x (logs_at version total threads variables rest)) →
          MatchResult result (λ state. IsStateAfter flat version total size threads bytes (state_of state)) Told
      after_logs sized (Ok state) given = record {
        rest = rest;
        variables = is ∙ ap (λ (words : List ℕ). Ok (words, rest)) (sym given.1);
        references = subst (λ (words : List ℕ). AreReferences flat words) (sym given.1) right;
        logs = ap (λ (words : List ℕ). logs_at version total threads words rest) given.1 ∙ given.0;
        fits = given.2 size sized;
      }
      after_logs sized (Err fault) given = subst Told (sym given.1) (logs_told given.0 given.2)

-- ---- All bytes

one_way : {A : Type 0} (found : Result A Fault) (x : A) (fault : Fault) → found ≡ Ok x → found ≡ Err fault → ⊥
one_way {A = A} found x fault ok err = let both : ◌≡◌ {A = Result A Fault} (Ok x) (Err fault) = sym ok ∙ err in cc

module _ (newest : ImageVersion) (bytes : List ℕ) where
  -- they begin with no version, so with no source either
  no_version_told : (fault : Fault) → version_in newest bytes ≡ Err fault → IsFirstFault newest bytes (error_of fault)
  no_version_told fault h = record {
    answer = no_version fault h;
    none = inr (λ version c b. one_way (version_in newest bytes) version fault b.known h);
  }

  pub version_answer : (x : ReadError) → IsFault x (version_in newest bytes) → IsFirstFault newest bytes (of_read x)
  version_answer read.Magic h = no_version_told Magic h
  version_answer read.Version h = no_version_told Version h
  version_answer (read.Cut place) h = no_version_told (Cut place.0) h
  version_answer (read.Field place) h = no_version_told (Field place.0) h
  version_answer (read.Rest place) h = no_version_told (Rest place.0) h
  version_answer read.Memory h = absurd h

  module _ (version : ImageVersion) (known : version_in newest bytes ≡ Ok version) where
    same_version : (other : ImageVersion) (c : Compiled) → BeginsCompiled newest bytes other c → other ≡ version
    same_version other c b = ok_is other version (sym b.known ∙ known)

    begins_there : (other : ImageVersion) (c : Compiled) → (b : BeginsCompiled newest bytes other c) → source_at version bytes ≡ Ok (b.source, b.rest)
    begins_there other c b = subst (λ (v : ImageVersion). source_at v bytes ≡ Ok (b.source, b.rest)) (same_version other c b) b.begins

    no_source_told : (fault : Fault) → source_at version bytes ≡ Err fault → IsFirstFault newest bytes (error_of fault)
    no_source_told fault h = record {
      answer = no_source version fault known h;
      none = inr (λ other c b. one_way (source_at version bytes) (b.source, b.rest) fault (begins_there other c b) h);
    }

    pub source_answer : (x : ReadError) → IsFault x (source_at version bytes) → IsFirstFault newest bytes (of_read x)
    source_answer read.Magic h = no_source_told Magic h
    source_answer read.Version h = no_source_told Version h
    source_answer (read.Cut place) h = no_source_told (Cut place.0) h
    source_answer (read.Field place) h = no_source_told (Field place.0) h
    source_answer (read.Rest place) h = no_source_told (Rest place.0) h
    source_answer read.Memory h = absurd h

    module _ (not_both : NotBoth) (source rest : List ℕ) (begins : source_at version bytes ≡ Ok (source, rest)) where
      not_compiled : (rule : Rule) (place : Place) → IsRefusedAs (log_of version) source rule place → (other : ImageVersion) (c : Compiled) →
          BeginsCompiled newest bytes other c → ⊥
      not_compiled rule place told other c b =
          let same : b.source ≡ source = ap (λ (x : List ℕ × List ℕ). x.0) (ok_is (b.source, b.rest) (source, rest) (sym (begins_there other c b) ∙ begins)) in
          not_both (log_of version) source (flat_of c.flat) rule place
          (subst (λ (text : List ℕ). IsAcceptedAs (log_of version) text (flat_of c.flat)) same
          (subst (λ (v : ImageVersion). IsAcceptedAs (log_of v) b.source (flat_of c.flat)) (same_version other c b) b.compiled.accepted)) told

      pub compile_answer : (x : CompileError) → IsCompileAnswerAs (log_of version) source (Err x) → IsFirstFault newest bytes (image_fault x)
      compile_answer (compiling.Refused x) h = record {
        answer = refused version source rest x.rule x.place known begins h;
        none = inr (not_compiled x.rule x.place h);
      }
      compile_answer compiling.Memory h = record { answer = no_memory; none = inl refl }

  module _ (version : ImageVersion) (c : Compiled) (begun : BeginsCompiled newest bytes version c) (size threads : ℕ) (rest : List ℕ)
      (size_is : size ≡ size_of c) (threads_is : threads ≡ threads_of c) (rest_is : begun.rest ≡ rest) where
    pub state_answer : (x : ImageError) → IsFaultOrMemory (IsFaultAfter (flat_of c.flat) version (length bytes) size threads rest) x →
        IsImageAnswer newest bytes (Err x)
    state_answer x (inl none) = subst (λ (y : ImageError). IsImageAnswer newest bytes (Err y)) (sym none) no_memory
    state_answer x (inr fault) =
        no_state version c x begun
        (subst (λ (r : List ℕ). IsFaultAfter (flat_of c.flat) version (length bytes) (size_of c) (threads_of c) r x) (sym rest_is)
        (coe 0 1 (i. IsFaultAfter (flat_of c.flat) version (length bytes) (size_is i) (threads_is i) rest x) fault))

    pub has_state : (s : State) → IsStateAfter (flat_of c.flat) version (length bytes) size threads rest s → HasState newest bytes version c s
    has_state s after = record {
      source = begun;
      after = subst (λ (r : List ℕ). IsStateAfter (flat_of c.flat) version (length bytes) (size_of c) (threads_of c) r s) (sym rest_is)
          (coe 0 1 (i. IsStateAfter (flat_of c.flat) version (length bytes) (size_is i) (threads_is i) rest s) after);
    }

  pub check_answer : (version : ImageVersion) (c : Compiled) (s : State) (x : ImageError) → HasState newest bytes version c s →
      IsStateAnswer (log_of version) (flat_of c.flat) c.translated.resumes.items s (Err x) → IsImageAnswer newest bytes (Err x)
  check_answer version c s x has (faulty y fault) = unsound version c s y has fault
  check_answer version c s x has states.no_memory = no_memory

  pub image_answer : (version : ImageVersion) (image : Image) (s : State) (lives : Vec (Vec ℕ Global) Global) → HasState newest bytes version image.compiled s →
      IsStateAnswer (log_of version) (flat_of image.compiled.flat) image.compiled.translated.resumes.items s (Ok lives) →
      image.words.items ≡ s.variables ++ s.logs → map steps_of lives.items ≡ all_lives (lives_in image.lives.earlier.items image.lives.schedule.items) →
      IsImageAnswer newest bytes (Ok image)
  image_answer version image s lives has (sound told sound_is steps_is) words_is lives_is = whole image (record {
    version = version;
    state = s;
    is = has;
    sound = sound_is;
    words = words_is;
    lives = sym steps_is ∙ lives_is;
  })

-- ---- Its lives

some_told : (version : ImageVersion) (lives : ℕ) → contents.Tells version lives → 1 ≤ lives
some_told First lives told = omega (arith, told)
some_told Second lives told = omega (arith, told)
some_told Third lives told = told.0
some_told Fourth lives told = told.0

pub some_lives : (version : ImageVersion) (c : Compiled) (s : State) (lives : Vec (Vec ℕ Global) Global) →
    IsStateAnswer (log_of version) (flat_of c.flat) c.translated.resumes.items s (Ok lives) → contents.Tells version (length s.lives) → 1 ≤ length lives.items
some_lives version c s lives (sound told sound_is steps_is) some =
    omega (
      arith,
      some_told version (length s.lives) some,
      length-map lives.items steps_of,
      ap length steps_is,
      length-map s.lives schedule_of,
    )
