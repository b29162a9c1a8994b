use Rattle.std.proofs.Common.{◌≡◌, ℕ, suc, ◌<◌, ◌≤◌, length, Some}
use Rattle.std.specs.Prelude.{slice_get}
use Rattle.region_cutter.proofs.fewest_cuts.shorten.Given as goal

abbrev pub invariant-loop-nearest : goal.invariant-loop-nearest
invariant-loop-nearest l = record {
  some : 0 < length l.nearest.items;
  kept : (count node : ℕ) → slice_get l.nearest.items count ≡ Some node → slice_get l.fn.nearest.items count ≡ Some node;
  within : (count node : ℕ) → suc count ≡ length l.nearest.items → slice_get l.nearest.items count ≡ Some node → node ≤ l.limit;
}

abbrev pub decreases-loop-nearest : goal.decreases-loop-nearest
decreases-loop-nearest l = length l.nearest.items
