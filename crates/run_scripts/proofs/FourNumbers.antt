-- Texts for each of four numbers, one after another.
use Rattle.std.proofs.Common.{◌≡◌, ℕ, zero, suc, ◌+◌, ◌<◌, ◌≤◌, List, ◌∷◌, ◌++◌, drop, flat_map, refl, sym, ap, ◌∙◌, arith, append_assoc}
use Rattle.std.proofs.lemmas.List.{append-nil, at_drop_all}
use Rattle.std.proofs.lemmas.List.Concat.{flat_map-cons}
use Rattle.run_scripts.specs.GeneratedSources.{four}

next_of : (k : ℕ) → k < 4 → drop k four ≡ k ∷ drop (k + 1) four
next_of zero h = refl
next_of (suc zero) h = refl
next_of (suc (suc zero)) h = refl
next_of (suc (suc (suc zero))) h = refl
next_of (suc (suc (suc (suc k)))) h = absurd (omega (arith, h))

-- the text of a number more
pub one_more : (f : ℕ → List ℕ) (k : ℕ) (now new all : List ℕ) → k < 4 → new ≡ now ++ f k → now ++ flat_map f (drop k four) ≡ all →
    new ++ flat_map f (drop (k + 1) four) ≡ all
one_more f k now new all within is so_far =
    let next : flat_map f (drop k four) ≡ f k ++ flat_map f (drop (k + 1) four) = ap (flat_map f) (next_of k within) ∙ flat_map-cons f k (drop (k + 1) four) in
    ap (λ xs. xs ++ flat_map f (drop (k + 1) four)) is ∙ append_assoc now (f k) (flat_map f (drop (k + 1) four)) ∙ ap (λ xs. now ++ xs) (sym next) ∙ so_far

-- those of all
pub no_more : (f : ℕ → List ℕ) (k : ℕ) (now all : List ℕ) → 4 ≤ k → now ++ flat_map f (drop k four) ≡ all → now ≡ all
no_more f k now all past so_far = sym (append-nil now) ∙ sym (at_drop_all (λ xs. now ++ flat_map f xs) four k past) ∙ so_far
