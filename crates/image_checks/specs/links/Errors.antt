-- Faults of fields and of schedules, as faults of an image, and what an error of a check tells.
use Rattle.std.specs.Prelude.{◌≡◌, ◌⊎◌}
use Rattle.file_fields.specs.declared.error.ReadError.{ReadError}
use Rattle.file_fields.specs.declared.error.ReadError.TheVariants as read
use Rattle.image_checks.specs.declared.schedules.ScheduleFault.{ScheduleFault}
use Rattle.image_checks.specs.declared.schedules.ScheduleFault.TheVariants as schedule
use Rattle.image_checks.specs.declared.error.ImageError.{ImageError}
use Rattle.image_checks.specs.declared.error.ImageError.TheVariants as e

abbrev pub of_read : ReadError → ImageError
of_read read.Magic = e.Magic
of_read read.Version = e.Version
of_read (read.Cut place) = e.Cut place
of_read (read.Field place) = e.Source
of_read (read.Rest place) = e.Rest place
of_read read.Memory = e.Memory

abbrev pub of_schedule : ScheduleFault → ImageError
of_schedule (schedule.Step step) = e.Schedule step
of_schedule (schedule.Life life) = e.Lives life
of_schedule schedule.Memory = e.Memory

-- a fault; or want of memory, which tells nothing
abbrev pub IsFaultOrMemory : (IsFault : ImageError → Type 0) → ImageError → Type 0
IsFaultOrMemory IsFault error = (error ≡ e.Memory) ⊎ IsFault error
