use Rattle.image_checks.specs.links.ElementNumbers.{AreRight}
use Rattle.image_checks.proofs.references.first_outside.Given as goal

abbrev pub invariant-loop-element : goal.invariant-loop-element
invariant-loop-element l = AreRight l.words l.kind l.first l.elements l.element
