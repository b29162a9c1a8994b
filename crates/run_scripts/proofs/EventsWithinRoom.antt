-- Events that are made as far as there is room.
use Rattle.std.proofs.Common.{◌≡◌, ℕ, zero, suc, ◌+◌, ◌<◌, ◌≤◌, List, [], ◌∷◌, ◌++◌, length, take}
use Rattle.std.proofs.Common.{replicate, true, false, nat_le, min, refl, sym, ◌∙◌, ap, arith, length-append}
use Rattle.std.proofs.lemmas.Grind.{common_steps}
use Rattle.std.proofs.lemmas.Bool.Decides.{nat_tests}

pub le_true : (a b : ℕ) → a ≤ b → nat_le a b ≡ true
le_true a b h = grind (arith, nat_tests)

pub le_false : (a b : ℕ) → b < a → nat_le a b ≡ false
le_false a b h = grind (arith, nat_tests)

pub take_all : {A : Type 0} (xs : List A) (n : ℕ) → length xs ≤ n → take n xs ≡ xs
take_all xs n h = grind (arith, common_steps)

take_past : {A : Type 0} (xs ys : List A) (n : ℕ) → take (length xs + n) (xs ++ ys) ≡ xs ++ take n ys
take_past [] ys n = ap (λ k. take k ys) (let e : 0 + n ≡ n = omega arith in e)
take_past (x ∷ xs) ys n =
    ap (λ k. take k (x ∷ xs ++ ys)) (let e : length (x ∷ xs) + n ≡ suc (length xs + n) = omega arith in e) ∙ ap (λ zs. x ∷ zs) (take_past xs ys n)

take_prefix : {A : Type 0} (xs ys : List A) → take (length xs) (xs ++ ys) ≡ xs
take_prefix xs ys = grind (arith, common_steps)

-- all of the events were made
pub whole : {A : Type 0} (before after es : List A) (left : ℕ) → before ++ es ≡ after → length after ≤ length before + left → after ≡ before ++ take left es
whole before after es left made fits =
    let few : length es ≤ left = omega (arith, ap length made, length-append before es, fits) in
    sym made ∙ ap (λ xs. before ++ xs) (sym (take_all es left few))

pub whole_fits : {A : Type 0} (before after es : List A) (left : ℕ) → before ++ es ≡ after → length after ≤ length before + left →
    nat_le (length es) left ≡ true
whole_fits before after es left made fits = le_true (length es) left (omega (arith, ap length made, length-append before es, fits))

-- there was room for no more of the events
pub cut : {A : Type 0} (before after es rest : List A) (left : ℕ) → before ++ es ≡ after ++ rest → length after ≡ length before + left →
    after ≡ before ++ take left es
cut before after es rest left made full =
    sym (take_prefix after rest) ∙ ap (λ n. take n (after ++ rest)) full ∙ ap (take (length before + left)) (sym made) ∙ take_past before es left

pub cut_fails : {A : Type 0} (before after es rest : List A) (left : ℕ) → before ++ es ≡ after ++ rest → length after ≡ length before + left → 0 < length rest →
    nat_le (length es) left ≡ false
cut_fails before after es rest left made full more =
    le_false (length es) left (omega (arith, ap length made, length-append before es, length-append after rest, full, more))

-- the first so many of equal elements
pub take-replicate : {A : Type 0} (x : A) (left count n : ℕ) → n ≡ min count left → replicate n x ≡ take left (replicate count x)
take-replicate x zero zero n e = let none : n ≡ 0 = omega (arith, e) in ap (λ k. replicate k x) none
take-replicate x (suc left) zero n e = let none : n ≡ 0 = omega (arith, e) in ap (λ k. replicate k x) none
take-replicate x zero (suc count) n e = let none : n ≡ 0 = omega (arith, e) in ap (λ k. replicate k x) none
take-replicate x (suc left) (suc count) n e =
    let one : n ≡ suc (min count left) = omega (arith, e) in
    ap (λ k. replicate k x) one ∙ ap (λ xs. x ∷ xs) (take-replicate x left count (min count left) refl)
