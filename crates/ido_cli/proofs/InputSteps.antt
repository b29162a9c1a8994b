-- Going over an input, byte after byte.
use Rattle.std.proofs.Common.{◌≡◌, ℕ, ◌-◌, ◌<◌, ◌≤◌, List, [], ◌∷◌, ◌++◌, length, take, drop}
use Rattle.std.proofs.Common.{Some, Bool, true, refl, sym, ap, ◌∙◌, arith, length-drop}
use Rattle.std.proofs.lemmas.List.{drop_all, take_all, append-nil}
use Rattle.std.proofs.lemmas.Grind.{common_steps}
use Rattle.ido_cli.specs.Inputs.{after_mark_at, source_from, rest_from, source_of, rest_of}

-- what stands after n bytes, up to the end
pub up_to_end : {A : Type 0} (xs : List A) (n : ℕ) → take (length xs - n) (drop n xs) ≡ drop n xs
up_to_end xs n = grind (arith, common_steps)

-- ---- At a byte

pub source_ends : (begins : Bool) (text rest : List ℕ) → 0 < length text → after_mark_at begins text ≡ Some rest → source_from begins text ≡ []
source_ends begins [] rest some e = absurd (omega arith)
source_ends begins (c ∷ cs) rest some e = rw (source_from, e) refl

pub rest_begins : (begins : Bool) (text rest : List ℕ) → 0 < length text → after_mark_at begins text ≡ Some rest → rest_from begins text ≡ rest
rest_begins begins [] rest some e = absurd (omega arith)
rest_begins begins (c ∷ cs) rest some e = rw (rest_from, e) refl

-- ---- At the end of a walk that has come to byte i

pub source_to_mark : (begins : Bool) (input rest : List ℕ) (i : ℕ) → i < length input →
    source_from true input ≡ take i input ++ source_from begins (drop i input) → after_mark_at begins (take (length input - i) (drop i input)) ≡ Some rest →
    take i input ≡ source_of input
unfolding source_of
source_to_mark begins input rest i within walked e =
    let some : 0 < length (drop i input) = omega (arith, length-drop i input) in
    let ends = source_ends begins (drop i input) rest some (rw up_to_end at e) in
    sym (walked ∙ ap (λ s. take i input ++ s) ends ∙ append-nil (take i input))

pub rest_after_mark : (begins : Bool) (input rest : List ℕ) (i : ℕ) → i < length input → rest_from true input ≡ rest_from begins (drop i input) →
    after_mark_at begins (take (length input - i) (drop i input)) ≡ Some rest → rest ≡ rest_of input
unfolding rest_of
rest_after_mark begins input rest i within walked e =
    let some : 0 < length (drop i input) = omega (arith, length-drop i input) in
    sym (walked ∙ rest_begins begins (drop i input) rest some (rw up_to_end at e))

pub source_to_end : (begins : Bool) (input : List ℕ) (i : ℕ) → length input ≤ i → source_from true input ≡ take i input ++ source_from begins (drop i input) →
    input ≡ source_of input
unfolding source_of
source_to_end begins input i past walked =
    sym (walked ∙ ap (λ s. take i input ++ source_from begins s) (drop_all i input past) ∙ append-nil (take i input) ∙ take_all i input past)

pub no_rest : (begins : Bool) (input : List ℕ) (i : ℕ) → length input ≤ i → rest_from true input ≡ rest_from begins (drop i input) →
    take (length input - length input) (drop (length input) input) ≡ rest_of input
unfolding rest_of
no_rest begins input i past walked =
    rw (up_to_end input (length input), drop_all (length input) input (omega arith)) (sym (walked ∙ ap (rest_from begins) (drop_all i input past)))
