-- The two seats of a board that has no more.
use Rattle.std.proofs.Common.{◌≡◌, List, [], ◌∷◌, ◌++◌, length, sym, ap, ◌∙◌, subst, arith, length-append}
use Rattle.std.specs.Prelude.{All}
use Rattle.std.proofs.lemmas.List.{length-map}
use Rattle.std.proofs.lemmas.List.Elements.{All-nil, All-cons, All-head, All-tail}
use Rattle.hart_board.specs.declared.seat.Seat.{Seat}
use Rattle.hart_board.specs.BoardRule.{numbers_from}
use Rattle.hart_board.specs.Seats.{number, numbers_of}

module _ {C L : Type 0} (P : Seat C L → Type 0) where
  pub two_of : (items mid rest : List (Seat C L)) (a b : Seat C L) → items ≡ mid ++ b ∷ [] → mid ≡ rest ++ a ∷ [] → numbers_of items ≡ numbers_from 0 2 →
      All P items → (P a × (number a ≡ 0)) × (P b × (number b ≡ 1))
  two_of items mid [] a b last first numbers each =
      let all : items ≡ a ∷ (b ∷ []) = last ∙ ap (λ (z : List (Seat C L)). z ++ b ∷ []) first in
      let same : number a ∷ (number b ∷ []) ≡ numbers_from 0 2 = ap numbers_of (sym all) ∙ numbers in
      let both : All P (a ∷ (b ∷ [])) = subst (All P) all each in
      ((All-head P a (b ∷ []) both, cc same), (All-head P b [] (All-tail P a (b ∷ []) both), cc same))
  two_of items mid (x ∷ xs) a b last first numbers each = absurd (
      let n = ap length numbers in let m = length-map items number in let l = ap length last in let k = ap length first in
      let p = length-append mid (b ∷ []) in let q = length-append xs (a ∷ []) in omega (arith, n, m, l, k, p, q))

  pub all_two : (items rest none : List (Seat C L)) (a b : Seat C L) → items ≡ rest ++ b ∷ [] → rest ≡ none ++ a ∷ [] → length none ≡ 0 → P a →
      P b → All P items
  all_two items rest [] a b last first empty here there =
      subst (All P) (sym (last ∙ ap (λ (z : List (Seat C L)). z ++ b ∷ []) first)) (All-cons P a (b ∷ []) here (All-cons P b [] there (All-nil _)))
  all_two items rest (x ∷ xs) a b last first empty here there = absurd (omega (arith, empty))

  pub same_two : (items rest none : List (Seat C L)) (a b : Seat C L) → items ≡ rest ++ b ∷ [] → rest ≡ none ++ a ∷ [] → length none ≡ 0 → number a ≡ 0 →
      number b ≡ 1 → numbers_of items ≡ numbers_from 0 2
  same_two items rest [] a b last first empty here there =
      ap numbers_of (last ∙ ap (λ (z : List (Seat C L)). z ++ b ∷ []) first) ∙ (λ i. here i ∷ (there i ∷ []))
  same_two items rest (x ∷ xs) a b last first empty here there = absurd (omega (arith, empty))
