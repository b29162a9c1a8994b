-- The program is well formed, and so is what is made of it.
use Rattle.std.proofs.Common.{sym, subst}
use Rattle.c_tree.specs.WellFormed.{IsWellFormed}
use Rattle.ido_compile.proofs.forms.flattened_is_formed.Goals as goal

pub returns : goal.returns
returns c = λ l text flat h.
    let typed = c.typed_is_formed.ensures l text h.program h.ranged.typed in
    subst IsWellFormed (sym h.flattened) (c.flat_is_formed.ensures h.program typed h.ranged.fits h.ranged.never_null h.ends)
