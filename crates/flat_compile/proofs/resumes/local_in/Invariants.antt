use Rattle.std.proofs.Common.{ℕ, ◌<◌}
use Rattle.flat_compile.specs.links.ResumePlacesByNode.{IsLiveIn}
use Rattle.flat_compile.proofs.resumes.local_in.Given as goal

abbrev pub invariant-loop-local : goal.invariant-loop-local
invariant-loop-local l = (local : ℕ) → local < l.local → ¬ (IsLiveIn l.colours l.live l.counted l.colour local)
