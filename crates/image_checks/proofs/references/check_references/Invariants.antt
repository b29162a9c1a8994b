use Rattle.std.proofs.Common.{ℕ, ◌<◌}
use Rattle.c_tree.specs.Flats.{flat_of}
use Rattle.image_checks.specs.VariableReferences.{IsNumberRight}
use Rattle.image_checks.proofs.references.check_references.Given as goal

abbrev pub invariant-loop-index : goal.invariant-loop-index
invariant-loop-index l = (variable element : ℕ) → variable < l.index → IsNumberRight (flat_of l.flat) l.words variable element
