use Rattle.region_cutter.proofs.StretchRegions.{labels_bound}
use Rattle.region_cutter.proofs.laws.labels_bound_boundaries.Goals as goal

pub returns : goal.returns
returns c = labels_bound
