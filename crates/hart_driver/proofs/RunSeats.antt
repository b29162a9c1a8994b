-- Seats before and after.
use Rattle.std.proofs.Common.{◌≡◌, ℕ, zero, suc, ◌+◌, ◌<◌, List, [], ◌∷◌, ◌++◌, length, get_or, take, drop, map, refl, sym, ap, ◌∙◌, arith}
use Rattle.std.specs.Prelude.{All}
use Rattle.std.proofs.lemmas.List.{append-nil, map-append}
use Rattle.std.proofs.lemmas.List.Elements.{All-nil, All-cons, All-head, All-tail}
use Rattle.std.proofs.Math.ListN.{drop_of_length-le}
use Rattle.std.proofs.Math.Seq.{take-length}
use Rattle.hart_board.specs.declared.seat.Seat.{Seat}
use Rattle.hart_board.specs.BoardRule.{numbers_from}
use Rattle.hart_board.specs.Seats.{number, numbers_of}
use Rattle.hart_board.proofs.Public.{numbers_more}
use Rattle.hart_driver.proofs.Parts.{last_same}

-- seats that keep their numbers place by place
pub same_numbers : {C L : Type 0} (xs ys : List (Seat C L)) → length ys ≡ length xs →
    ((i : ℕ) (d : Seat C L) → i < length xs → number (get_or ys i d) ≡ number (get_or xs i d)) → numbers_of ys ≡ numbers_of xs
same_numbers [] [] size each = refl
same_numbers [] (y ∷ ys) size each = absurd (omega (arith, size))
same_numbers (x ∷ xs) [] size each = absurd (omega (arith, size))
same_numbers (x ∷ xs) (y ∷ ys) size each =
    let here : number y ≡ number x = each 0 x (omega arith) in
    let rest = same_numbers xs ys (omega (arith, size)) (λ i d inside. each (suc i) d (omega (arith, inside))) in
    (λ i. here i ∷ rest i)

-- a list that is written over as a whole
pub refilled : {A : Type 0} (n : ℕ) (xs ws : List A) → n ≡ length xs → length ws ≡ length xs → take n (ws ++ drop (length ws) xs) ≡ ws
refilled n xs ws size same =
    let none : drop (length ws) xs ≡ [] = drop_of_length-le xs (omega (arith, same)) in
    let all : ws ++ drop (length ws) xs ≡ ws = ap (λ (z : List _). ws ++ z) none ∙ append-nil ws in
    let long : n ≡ length ws = omega (arith, size, same) in
    (λ i. take (long i) (all i)) ∙ take-length ws

-- seats in the order of their numbers, of which the last is apart
module _ {C L : Type 0} where
  numbers_push : (xs : List (Seat C L)) (s : Seat C L) → numbers_of (xs ++ s ∷ []) ≡ numbers_of xs ++ number s ∷ []
  numbers_push xs s = map-append number xs (s ∷ [])

  pub last_number : (n : ℕ) (xs : List (Seat C L)) (s : Seat C L) → numbers_of (xs ++ s ∷ []) ≡ numbers_from 0 (n + 1) →
      (number s ≡ n) × (numbers_of xs ≡ numbers_from 0 n)
  last_number n xs s are =
      let one : suc n ≡ n + 1 = omega arith in
      let both : numbers_of xs ++ number s ∷ [] ≡ numbers_from 0 n ++ (0 + n) ∷ [] =
      sym (numbers_push xs s) ∙ (are ∙ (ap (numbers_from 0) (sym one) ∙ sym (numbers_more 0 n))) in
      let same = last_same (numbers_of xs) (numbers_from 0 n) (number s) (0 + n) both in (same.0 ∙ omega arith, same.1)

  pub numbers_back : (n : ℕ) (xs : List (Seat C L)) (s : Seat C L) → number s ≡ n → numbers_of xs ≡ numbers_from 0 n →
      numbers_of (xs ++ s ∷ []) ≡ numbers_from 0 (n + 1)
  numbers_back n xs s is are =
      let one : suc n ≡ n + 1 = omega arith in let here : number s ≡ 0 + n = omega (arith, is) in
      numbers_push xs s ∙ ((λ i. are i ++ here i ∷ []) ∙ (numbers_more 0 n ∙ ap (numbers_from 0) one))

  -- each of these seats has a number below their count
  pub all_below : (at n : ℕ) (xs : List (Seat C L)) → numbers_of xs ≡ numbers_from at n → All (λ s. number s < at + n) xs
  all_below at n [] are = All-nil _
  all_below at zero (x ∷ xs) are = absurd (cc are)
  all_below at (suc n) (x ∷ xs) are =
      let here : number x ≡ at = cc are in
      All-cons (λ (s : Seat C L). number s < at + suc n) x xs (omega (arith, here))
      (weaker xs (all_below (at + 1) n xs (cc are)))
    where
      weaker : (ys : List (Seat C L)) → All (λ s. number s < (at + 1) + n) ys → All (λ s. number s < at + suc n) ys
      weaker [] each = All-nil _
      weaker (y ∷ ys) each =
          All-cons (λ (s : Seat C L). number s < at + suc n) y ys
          (let h = All-head (λ (s : Seat C L). number s < (at + 1) + n) y ys each in omega (arith, h))
          (weaker ys (All-tail (λ (s : Seat C L). number s < (at + 1) + n) y ys each))

  -- the count of each of these seats stands at its number
  pub count_at : (f : ℕ → ℕ) (xs : List (Seat C L)) (at n w : ℕ) → numbers_of xs ≡ numbers_from at n → w < n →
      get_or (map (λ s. f (number s)) xs) w 0 ≡ f (at + w)
  count_at f xs at zero w are inside = absurd (omega arith)
  count_at f [] at (suc n) w are inside = absurd (cc are)
  count_at f (x ∷ xs) at (suc n) zero are inside = let here : number x ≡ at = cc are in ap f (omega (arith, here))
  count_at f (x ∷ xs) at (suc n) (suc w) are inside = count_at f xs (at + 1) n w (cc are) (omega (arith, inside)) ∙ ap f (omega arith)
