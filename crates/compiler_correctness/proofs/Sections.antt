-- The kept steps hold each section that a hart has left, and at most one more; and one is kept where its hart's durable point becomes 0.
use Rattle.std.proofs.Common.{ℕ, ◌<◌, subst}
use Rattle.crash_simulation.specs.PointSections.{SectionsEndAtPoints}
use Rattle.crash_simulation.specs.ReleasedSections as releasing
use Rattle.compiler_correctness.specs.Laws.{SectionsAreKept}

pub sections_are_kept : releasing.SectionsAreKept → SectionsEndAtPoints → SectionsAreKept
sections_are_kept kept ends y s events = record {
  no_less = λ h. (kept y s events h).0;
  no_more = λ h. (kept y s events h).1;
  by_points = λ event h below none. ends y s events event h (subst (λ (n : ℕ). h < n) s.count below) none;
}
