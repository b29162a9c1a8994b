-- No mutex of the program is in an array, and so none of what is made of it.
use Rattle.std.proofs.Common.{sym, subst}
use Rattle.c_tree.specs.Flats.{Flat}
use Rattle.c_tree.specs.WellFormed.{ArePlain}
use Rattle.ido_compile.proofs.forms.flattened_is_plain.Goals as goal

pub returns : goal.returns
returns c = λ text flat h.
    let plain = c.typed_is_plain.ensures text h.program h.ranged.typed in
    subst (λ (x : Flat). ArePlain x.mutexes) (sym h.flattened) (c.flat_is_plain.ensures h.program plain)
