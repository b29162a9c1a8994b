use Rattle.std.proofs.Common.{◌≡◌, map, take}
use Rattle.ido_ints.specs.Reduction.{reduced}
use Rattle.c_tree.specs.Elaboration.{signed_number}
use Rattle.c_tree.specs.Views.{signed_of}
use Rattle.c_typer.proofs.item.converted.Given as goal

abbrev pub invariant-loop-number : goal.invariant-loop-number
invariant-loop-number l = l.numbers.items ≡ map (reduced l.kind) (map signed_number (map signed_of (take l.number-index l.given)))
