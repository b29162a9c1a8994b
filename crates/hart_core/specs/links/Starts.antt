-- Where a program's threads begin.
use Rattle.std.specs.Prelude.{◌≡◌, ℕ, ◌<◌, List, length, slice_index}
use Rattle.rv64_isa.specs.declared.object.Slot.{Slot}
use Rattle.rv64_isa.specs.Programs.{code_start}

-- of each thread, where its code begins
pub record AreStarts (starts : List ℕ) (program : List (List Slot)) : Type 0 where
  pub count : length starts ≡ length program
  pub each : (k : ℕ) → k < length starts → slice_index starts k ≡ code_start program k
