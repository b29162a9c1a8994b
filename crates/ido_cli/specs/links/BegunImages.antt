-- What stands first in an image, and faults of what stands last.
use Rattle.std.specs.Prelude.{◌≡◌, ◌⊎◌, ◌≤◌, ℕ, List, length, Result, Ok, Err}
use Rattle.ido_base.specs.declared.limits.TheConstants.{MOST_SOURCE_BYTES}
use Rattle.file_fields.specs.declared.error.ReadError.{ReadError}
use Rattle.file_fields.specs.declared.error.ReadError.TheVariants as read
use Rattle.image_checks.specs.declared.error.ImageError.{ImageError}
use Rattle.image_checks.specs.declared.error.ImageError.TheVariants as e
use Rattle.crash_images.specs.declared.version.ImageVersion.{ImageVersion}
use Rattle.ido_cli.specs.declared.compiled_image.Begun.{Begun}
use Rattle.flat_compile.specs.TranslatedForms.{command_log}
use Rattle.ido_compile.specs.declared.compiler.Compiled.{Compiled}
use Rattle.ido_compile.specs.declared.error.CompileError.{CompileError}
use Rattle.ido_compile.specs.CompileAnswers.{IsCompileAnswerAs}
use Rattle.ido_cli.specs.CompiledImages.{BeginsCompiled, IsImageAnswer}
use Rattle.ido_cli.specs.links.CompileRefusals.{image_fault}

-- the fault of what stands after the variables
abbrev pub of_logs : ReadError → ImageError
of_logs read.Magic = e.Magic
of_logs read.Version = e.Version
of_logs (read.Cut place) = e.Cut place
of_logs (read.Field place) = e.Lives 0
of_logs (read.Rest place) = e.Rest place
of_logs read.Memory = e.Memory

pub record HasBegun (newest : ImageVersion) (bytes : List ℕ) (b : Begun) : Type 0 where
  pub is : BeginsCompiled newest bytes b.version b.compiled
  pub source : is.source ≡ b.source.now
  pub short : length b.source.now ≤ MOST_SOURCE_BYTES
  pub rest : is.rest ≡ b.rest.now

-- the fault of an image whose source isn't compiled for the newest log
abbrev pub IsAnewFault : (source : List ℕ) → ImageError → Type 0
IsAnewFault source fault = (error : CompileError) × (fault ≡ image_fault error) × IsCompileAnswerAs command_log source (Err error)

-- a fault of the image, whose bytes begin with no source that is compiled, unless memory was wanting
pub record IsFirstFault (newest : ImageVersion) (bytes : List ℕ) (error : ImageError) : Type 0 where
  pub answer : IsImageAnswer newest bytes (Err error)
  pub none : (error ≡ e.Memory) ⊎ ((version : ImageVersion) (c : Compiled) → BeginsCompiled newest bytes version c → ⊥)

abbrev pub IsBegun : ImageVersion → (bytes : List ℕ) → Result Begun ImageError → Type 0
IsBegun newest bytes (Ok b) = HasBegun newest bytes b
IsBegun newest bytes (Err error) = IsFirstFault newest bytes error
