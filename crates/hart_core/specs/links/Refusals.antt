-- Why an access is refused.
use Rattle.std.specs.Prelude.{ℕ, Option, Some, None, if◌then◌else◌}
use Rattle.machine_events.specs.declared.event.Cause.{Cause}
use Rattle.machine_events.specs.declared.event.Cause.TheVariants.{Outside, Unaligned}
use Rattle.ido_base.specs.Layout.{aligned}
use Rattle.log_schemes.specs.Layout.{in_range}
use Rattle.line_memory.specs.links.MemoryRepresentation.{Logs}

-- why an access of so many bytes is refused, if it is
abbrev pub refusal : Logs → (address bytes : ℕ) → Option Cause
refusal logs address bytes =
    if in_range logs.log logs.threads address bytes then (if aligned address bytes then None else Some (Unaligned address)) else Some (Outside address)
