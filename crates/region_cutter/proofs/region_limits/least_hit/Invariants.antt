use Rattle.region_cutter.proofs.RegionLimits.{IsLeastBelow}
use Rattle.region_cutter.proofs.region_limits.least_hit.Given as goal

abbrev pub invariant-loop-track : goal.invariant-loop-track
invariant-loop-track l = IsLeastBelow l.fn.past l.track-index l.least l.tracks
