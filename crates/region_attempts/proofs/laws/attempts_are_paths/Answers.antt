use Rattle.region_attempts.proofs.Paths.{inside_is_region}
use Rattle.region_attempts.proofs.laws.attempts_are_paths.Goals as goal

pub returns : goal.returns
returns c = inside_is_region
