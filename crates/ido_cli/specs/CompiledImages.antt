-- What bytes are read as: an image of a version up to the newest that is asked for, of a source that is accepted, or the first fault.
use Rattle.std.specs.Prelude.{◌≡◌, ℕ, List, ◌++◌, length, Result, Ok, Err}
use Rattle.ido_base.specs.declared.place.Place.{Place}
use Rattle.c_tree.specs.declared.rule.Rule.{Rule}
use Rattle.c_tree.specs.Flats.{Flat, flat_of}
use Rattle.file_fields.specs.Fields.{Fault, Magic, Version, Cut, Field, Rest}
use Rattle.ido_compile.specs.declared.compiler.Compiled.{Compiled}
use Rattle.ido_compile.specs.CompileAnswers.{IsCompiledAs}
use Rattle.ido_compile.specs.LoggedTexts.{IsRefusedAs}
use Rattle.image_checks.specs.declared.error.ImageError.{ImageError}
use Rattle.machine_model.specs.Schedule.{all_lives}
use Rattle.run_tracker.specs.links.EarlierLives.{lives_in}
use Rattle.image_checks.specs.declared.error.ImageError.TheVariants as e
use Rattle.ido_cli.specs.declared.compiled_image.Image.{Image}
use Rattle.crash_images.specs.Contents.{State, IsState, log_of}
use Rattle.crash_images.specs.ImageDecoder.{logs_at, source_at, variables_at, version_in}
use Rattle.crash_images.specs.declared.version.ImageVersion.{ImageVersion}
use Rattle.image_checks.specs.Checks.{IsWellFormedState, IsStateFault}
use Rattle.image_checks.specs.Schedules.{schedules_of}
use Rattle.image_checks.specs.VariableReferences.{AreReferences, IsReferenceFault}

-- the error that tells a fault of the bytes up to the end of the variables; a field outside its limits is the number of bytes of a source that is too long,
-- or of variables that aren't the source's
abbrev pub error_of : Fault → ImageError
error_of Magic = e.Magic
error_of Version = e.Version
error_of (Cut place) = e.Cut (record { 0 = place })
error_of (Field place) = e.Source
error_of (Rest place) = e.Rest (record { 0 = place })

-- of those after them; a field outside its limits tells that there is no life
abbrev pub logs_error : Fault → ImageError
logs_error Magic = e.Magic
logs_error Version = e.Version
logs_error (Cut place) = e.Cut (record { 0 = place })
logs_error (Field place) = e.Lives 0
logs_error (Rest place) = e.Rest (record { 0 = place })

-- ---- After the source

-- of an image of so many bytes in all, where the source's variables take `size` bytes, and it has so many threads
module _ (flat : Flat) (version : ImageVersion) (total size threads : ℕ) (bytes : List ℕ) where
  -- the bytes are this state, and every reference among its variables is null or leads to an element
  pub record IsStateAfter (s : State) : Type 0 where
    pub rest : List ℕ
    pub variables : variables_at total size bytes ≡ Ok (s.variables, rest)
    pub references : AreReferences flat s.variables
    pub logs : logs_at version total threads s.variables rest ≡ Ok s
    pub fits : IsState version size threads s

  -- the first fault
  pub data IsFaultAfter : ImageError → Type 0 where
    -- the variables aren't whole, or aren't of the source
    no_variables : (fault : Fault) → variables_at total size bytes ≡ Err fault → IsFaultAfter (error_of fault)
    -- a reference among them leads to no element
    no_element : (variables rest : List ℕ) (error : ImageError) → variables_at total size bytes ≡ Ok (variables, rest) →
        IsReferenceFault flat variables error → IsFaultAfter error
    -- what stands after them isn't whole
    no_logs : (variables rest : List ℕ) (fault : Fault) → variables_at total size bytes ≡ Ok (variables, rest) → AreReferences flat variables →
        logs_at version total threads variables rest ≡ Err fault → IsFaultAfter (logs_error fault)

-- ---- All bytes

-- bytes of the variables, and how many threads there are
abbrev pub size_of : Compiled → ℕ
size_of c = length c.translated.object.initial.items

abbrev pub threads_of : Compiled → ℕ
threads_of c = length c.translated.object.code.items

module _ (newest : ImageVersion) (bytes : List ℕ) where
  -- the bytes begin with a version, and with a source that is compiled to this for the log of that version
  pub record BeginsCompiled (version : ImageVersion) (c : Compiled) : Type 0 where
    pub source : List ℕ
    pub rest : List ℕ
    pub known : version_in newest bytes ≡ Ok version
    pub begins : source_at version bytes ≡ Ok (source, rest)
    pub compiled : IsCompiledAs (log_of version) source c

  -- and after it they have this state
  pub record HasState (version : ImageVersion) (c : Compiled) (s : State) : Type 0 where
    pub source : BeginsCompiled version c
    pub after : IsStateAfter (flat_of c.flat) version (length bytes) (size_of c) (threads_of c) source.rest s

  -- the image has the words of the variables and after them those of the logs, and the schedules of all lives
  pub record IsImage (image : Image) : Type 0 where
    pub version : ImageVersion
    pub state : State
    pub is : HasState version image.compiled state
    pub sound : IsWellFormedState (log_of version) (flat_of image.compiled.flat) image.compiled.translated.resumes.items state
    pub words : image.words.items ≡ state.variables ++ state.logs
    pub lives : schedules_of state.lives ≡ all_lives (lives_in image.lives.earlier.items image.lives.schedule.items)

  pub data IsImageAnswer : Result Image ImageError → Type 0 where
    whole : (image : Image) → IsImage image → IsImageAnswer (Ok image)
    -- the bytes begin with no version that may be read
    no_version : (fault : Fault) → version_in newest bytes ≡ Err fault → IsImageAnswer (Err (error_of fault))
    -- the version is followed by no source
    no_source : (version : ImageVersion) (fault : Fault) → version_in newest bytes ≡ Ok version → source_at version bytes ≡ Err fault →
        IsImageAnswer (Err (error_of fault))
    -- the compiler refuses the source
    refused : (version : ImageVersion) (source rest : List ℕ) (rule : Rule) (place : Place) → version_in newest bytes ≡ Ok version →
        source_at version bytes ≡ Ok (source, rest) → IsRefusedAs (log_of version) source rule place → IsImageAnswer (Err e.Source)
    -- what stands after the source isn't whole, isn't of it, or has a reference to no element
    no_state : (version : ImageVersion) (c : Compiled) (error : ImageError) → (source : BeginsCompiled version c) →
        IsFaultAfter (flat_of c.flat) version (length bytes) (size_of c) (threads_of c) source.rest error → IsImageAnswer (Err error)
    -- nothing can be resumed from it
    unsound : (version : ImageVersion) (c : Compiled) (s : State) (error : ImageError) → HasState version c s →
        IsStateFault (log_of version) (flat_of c.flat) c.translated.resumes.items s error → IsImageAnswer (Err error)
    -- want of memory tells nothing
    no_memory : IsImageAnswer (Err e.Memory)
