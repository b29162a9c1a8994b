-- Fences of a hart beside those of its boundaries: each boundary that stores its point has as many.
use Rattle.std.specs.Prelude.{◌≡◌, ℕ, ◌+◌, List, Bool, if◌then◌else◌}
use Rattle.std.specs.List.{list_any}
use Rattle.log_schemes.specs.declared.log.Log.{Log}
use Rattle.rv64_isa.specs.Rows.{Effect}
use Rattle.log_states.specs.Stages.{is_store, fences_ahead}

-- how many fences a boundary has
abbrev pub boundary_fences : Log → ℕ
boundary_fences log = 2

-- those of the boundary under way, which has these effects still to make, as long as its point is to be stored: once it is, they count with the point
abbrev pub fences_due : (fences : ℕ) → (rest : List Effect) → ℕ
fences_due fences rest = if list_any is_store rest then fences else 0

-- What an event finishes and stores of a hart is what it takes from the boundary under way, where each has so many fences: the fences that are finished, and
-- those that are ahead then, grow as those of points that are stored, and of the boundary whose point is to be stored.
abbrev pub AreFencesCounted : (fences : ℕ) → (finished stored : Bool) → (old new : List Effect) → Type 0
AreFencesCounted fences finished stored old new = (if finished then 1 else 0) + fences_ahead new + fences_due fences old
    ≡ fences_ahead old + fences_due fences new + (if stored then fences else 0)
