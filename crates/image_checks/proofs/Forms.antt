-- What the slots of a bank hold.
use Rattle.std.proofs.Common.{◌≡◌, ℕ, sym, ap, ◌∙◌, IsTrue, ◌==◌}
use Rattle.std.specs.Prelude.{pos}
use Rattle.std.proofs.lemmas.Bool.{eqb-true, eq-eqb}
use Rattle.ido_ints.specs.declared.kinds.Kind.{Kind}
use Rattle.ido_ints.specs.Reduction.{reduced, register_of}
use Rattle.ido_ints.proofs.Public.{Holds-reduced, reduced-register}
use Rattle.image_checks.specs.Checks.{IsForm}

-- the register form of what a word is reduced to is the word only where it is a register form at all
pub form_is : (k : Kind) (word form : ℕ) → form ≡ register_of k (reduced k (pos word)) →
    (IsTrue (form == word) → IsForm k word) × (IsForm k word → IsTrue (form == word))
form_is k word form is = (told, found)
  where
    told : IsTrue (form == word) → IsForm k word
    told h =
        let same : form ≡ word = eqb-true form word h in
        record { number = reduced k (pos word); held = Holds-reduced k (pos word); is = sym same ∙ is }

    found : IsForm k word → IsTrue (form == word)
    found f =
        let back : reduced k (pos word) ≡ f.number = ap (λ (n : ℕ). reduced k (pos n)) f.is ∙ reduced-register k f.number f.held in
        eq-eqb form word (is ∙ ap (register_of k) back ∙ sym f.is)
