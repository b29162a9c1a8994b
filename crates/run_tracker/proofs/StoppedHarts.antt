-- Harts that have stopped.
use Rattle.std.proofs.Common.{◌≡◌, refl, ℕ, zero, suc, List, [], ◌∷◌, Some, Bool, true, false, ◌&&◌, ap, ◌∙◌}
use Rattle.std.specs.Prelude.{slice_get}
use Rattle.machine_model.specs.Machine.{Hart, has_stopped, have_stopped}

-- each of them has
pub all_stopped : (harts : List Hart) → ((h : ℕ) (hart : Hart) → slice_get harts h ≡ Some hart → has_stopped hart.phase ≡ true) → have_stopped harts ≡ true
all_stopped [] each = refl
all_stopped (hart ∷ harts) each =
    ap (λ (b : Bool). b && have_stopped harts) (each zero hart refl) ∙ all_stopped harts (λ h one there. each (suc h) one there)

and_false : (b : Bool) → (b && false) ≡ false
and_false true = refl
and_false false = refl

-- one of them has not
pub one_goes_on : (harts : List Hart) (h : ℕ) (hart : Hart) → slice_get harts h ≡ Some hart → has_stopped hart.phase ≡ false → have_stopped harts ≡ false
one_goes_on [] h hart there on = cc
one_goes_on (one ∷ harts) zero hart there on =
    let same : one ≡ hart = cc in
    ap (λ (x : Hart). has_stopped x.phase && have_stopped harts) same ∙ ap (λ (b : Bool). b && have_stopped harts) on
one_goes_on (one ∷ harts) (suc h) hart there on =
    ap (λ (b : Bool). has_stopped one.phase && b) (one_goes_on harts h hart there on) ∙ and_false (has_stopped one.phase)
