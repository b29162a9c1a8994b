-- Faults of a part of a bank.
use Rattle.std.specs.Prelude.{ℕ, List}
use Rattle.c_tree.specs.Flats.{Flat}
use Rattle.memory_layout.specs.declared.roles.TheConstants.{PENDING_ADDRESS, PENDING_VALUE}
use Rattle.flat_compile.specs.declared.resumes.LiveLocal.{LiveLocal}
use Rattle.flat_compile.specs.declared.resumes.Resume.{Resume}
use Rattle.image_checks.specs.declared.error.ImageError.{ImageError}
use Rattle.image_checks.specs.declared.error.ImageError.TheVariants as e
use Rattle.image_checks.specs.Checks.{HasAddress, HasValue, IsFirstWrong}
use Rattle.image_checks.specs.Logs.{Logs}

-- the first of these locals that is wrong
pub data IsLocalFault (flat : Flat) (logs : Logs) (thread bank : ℕ) (live : List LiveLocal) : ImageError → Type 0 where
  number : (register : ℕ) → IsFirstWrong flat logs thread bank live register → IsLocalFault flat logs thread bank live (e.Slot thread register)

-- the first fault of what is written next
pub data IsWriteFault (flat : Flat) (logs : Logs) (thread bank : ℕ) (r : Resume) : ImageError → Type 0 where
  address : ¬ (HasAddress flat logs thread bank r) → IsWriteFault flat logs thread bank r (e.Slot thread PENDING_ADDRESS)
  value : HasAddress flat logs thread bank r → ¬ (HasValue flat logs thread bank r) → IsWriteFault flat logs thread bank r (e.Slot thread PENDING_VALUE)
