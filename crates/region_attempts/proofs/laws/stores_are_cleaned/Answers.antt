use Rattle.region_attempts.proofs.RegionEndCleans.{stores_are_cleaned}
use Rattle.region_attempts.proofs.laws.stores_are_cleaned.Goals as goal

pub returns : goal.returns
returns c = stores_are_cleaned
