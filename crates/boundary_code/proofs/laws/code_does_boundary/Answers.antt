use Rattle.boundary_code.proofs.BoundaryParts.{code_does}
use Rattle.boundary_code.proofs.laws.code_does_boundary.Goals as goal

pub returns : goal.returns
returns c = code_does
