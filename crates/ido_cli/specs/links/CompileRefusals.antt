-- What is said of a source that isn't compiled.
use Rattle.std.specs.Prelude.{ℕ, List}
use Rattle.ido_compile.specs.declared.error.CompileError.{CompileError}
use Rattle.ido_compile.specs.declared.error.CompileError.TheVariants as error
use Rattle.image_checks.specs.declared.error.ImageError.{ImageError}
use Rattle.image_checks.specs.declared.error.ImageError.TheVariants as image
use Rattle.ido_cli.specs.Refusals.{IsRefusedAt, code_of}

-- the rule that it breaks, and the place; want of memory has another status
abbrev pub TellsRefusal : CompileError → (source : List ℕ) → (status : ℕ) → (output : List ℕ) → Type 0
TellsRefusal (error.Refused refusal) source status output = IsRefusedAt 1 (code_of refusal.rule) source refusal.place.0 status output
TellsRefusal error.Memory source status output = ⊥

-- the fault of an image with that source, whatever rule it breaks
abbrev pub image_fault : CompileError → ImageError
image_fault (error.Refused refusal) = image.Source
image_fault error.Memory = image.Memory
