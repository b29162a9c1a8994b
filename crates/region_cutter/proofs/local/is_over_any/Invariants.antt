use Rattle.std.proofs.Common.{◌≡◌, ℕ, ◌<◌, Some, false}
use Rattle.std.specs.Prelude.{slice_get}
use Rattle.ido_base.specs.declared.location.Location.{Location}
use Rattle.ido_base.specs.Locations.{overlap}
use Rattle.region_cutter.proofs.local.is_over_any.Given as goal

abbrev pub invariant-loop-written : goal.invariant-loop-written
invariant-loop-written l = (k : ℕ) (x : Location) → k < l.written-index → slice_get l.writes k ≡ Some x → overlap x l.elements ≡ false
