use Rattle.std.proofs.Common.{◌≡◌, ◌∷◌, false, subst, sym}
use Rattle.run_scripts.specs.declared.piece.Gap.{Gap}
use Rattle.run_scripts.specs.links.Lengths.{is_gap}
use Rattle.run_scripts.proofs.Gaps.{above_blank, above_line_end}
use Rattle.run_scripts.proofs.piece.greatest_byte.Goals as goal

pub returns-in-Blank : goal.returns-in-Blank
returns-in-Blank c = λ byte rest above. subst (λ (g : Gap). is_gap g (byte ∷ rest) ≡ false) (sym c.in-Blank.is) (above_blank byte rest above)

pub returns-in-LineEnd : goal.returns-in-LineEnd
returns-in-LineEnd c = λ byte rest above. subst (λ (g : Gap). is_gap g (byte ∷ rest) ≡ false) (sym c.in-LineEnd.is) (above_line_end byte rest above)
