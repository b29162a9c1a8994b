-- Seats that are dealt, one after another.
use Rattle.std.proofs.Common.{◌≡◌, ℕ, zero, suc, ◌+◌, ◌<◌, List, [], ◌∷◌, ◌++◌, length, Some, ◌^◌, Option, sym, refl, ap, ◌∙◌, subst, arith}
use Rattle.std.proofs.Common.{get_or}
use Rattle.std.specs.Prelude.{All}
use Rattle.std.proofs.lemmas.List.{map-append, length-map}
use Rattle.std.proofs.lemmas.List.Elements.{All-push}
use Rattle.machine_events.specs.declared.event.Event.{Event}
use Rattle.hart_board.specs.declared.board.Board.{Board}
use Rattle.hart_board.specs.declared.core_turn.Ahead.{Ahead}
use Rattle.hart_board.specs.declared.seat.Seat.{Seat}
use Rattle.hart_board.specs.declared.views.View.TheVariants.{Seated}
use Rattle.hart_board.specs.BoardRule.{numbers_from, dealt}
use Rattle.hart_board.specs.Seats.{opening_core, IsSeatOf, IsInReach, turns_of, ceiling_of, seats_of, seen, seen_in, numbers_of, number, HasTicket}
use Rattle.hart_board.proofs.FirstState.{count_from}

step : (at count : ℕ) → at + suc count ≡ (at + 1) + count
step at count = omega arith

pub numbers_more : (at count : ℕ) → numbers_from at count ++ (at + count) ∷ [] ≡ numbers_from at (suc count)
numbers_more at zero = let same : at + 0 ≡ at = omega arith in ap (λ (n : ℕ). n ∷ []) same
numbers_more at (suc count) =
    ap (λ (ns : List ℕ). at ∷ ns) (ap (λ (n : ℕ). numbers_from (at + 1) count ++ n ∷ []) (step at count) ∙ numbers_more (at + 1) count)

module _ {C L : Type 0} (history : C → List Event) (space : C → ℕ) (runs : C → ℕ → Option (Ahead L) → Type 0) (board : Board C L) where
  abbrev IsNew : Seat C L → Type 0
  IsNew s = IsSeatOf history space runs board s × (seen s ≡ [])

  -- a seat that has just its number is one of the board
  pub new_seat : (s : Seat C L) (n : ℕ) → s.place.table_id ≡ board.table.shared.table_id → s.place.me ≡ (Seated (dealt board.table.shared.key (n ∷ [])), []) →
      s.number ≡ n → s.turns ≡ turns_of board → s.ceiling ≡ ceiling_of board
      → s.made ≡ 0 → s.ticket ≡ Some n → n < 2 ^ 32 → n < seats_of board → IsInReach history space board.table.shared.key →
      runs (opening_core board) s.number s.local → IsNew s
  new_seat s n table me is turns ceiling made has small inside reach ahead = (
    record {
      seat = record {
        known = dealt board.table.shared.key (n ∷ []);
        table = table;
        represents = record {
          me = me;
          out = refl;
          numbers = ap (λ (m : ℕ). m ∷ []) (sym is);
          turns_are = turns;
          ceiling_is = ceiling;
          made_is = made;
          within = omega (arith, made);
          ticket_is = subst (λ (z : Option ℕ). HasTicket z (dealt board.table.shared.key (n ∷ []))) (sym has) (refl, (n, refl, omega (arith, small)));
          first = λ t is_t below. is ∙ cc is_t;
        };
        terms_are = refl;
        inside = omega (arith, inside, is);
      };
      reach = reach;
      ahead = ahead;
    },
    ap (λ (m : _). seen_in m.0) me,
  )

  -- one seat more in the row
  pub row_more : (xs ys : List (Seat C L)) (s : Seat C L) (n : ℕ) → ys ≡ xs ++ s ∷ [] → numbers_of xs ≡ numbers_from 0 n → All IsNew xs → s.number ≡ n →
      IsNew s → (numbers_of ys ≡ numbers_from 0 (n + 1)) × All IsNew ys
  row_more xs ys s n is numbers each same new = (
    ap numbers_of is ∙ (map-append number xs (s ∷ []) ∙ ((λ i. numbers i ++ same i ∷ []) ∙ next)),
    subst (All IsNew) (sym is) (All-push IsNew xs s each new),
  )
    where
      next : numbers_from 0 n ++ n ∷ [] ≡ numbers_from 0 (n + 1)
      next = let zeroth : n ≡ 0 + n = omega arith in let one : suc n ≡ n + 1 = omega arith in
          ap (λ (m : ℕ). numbers_from 0 n ++ m ∷ []) zeroth ∙ (numbers_more 0 n ∙ ap (numbers_from 0) one)

pub row_length : {C L : Type 0} (xs : List (Seat C L)) (n : ℕ) → numbers_of xs ≡ numbers_from 0 n → length xs ≡ n
row_length xs n numbers = sym (length-map xs number) ∙ (ap length numbers ∙ count_from 0 n)

-- what holds of each place of a list, and of the next one, holds of the list with an element more
pub grows : {A : Type 0} (P : ℕ → A → Type 0) (d : A) (xs : List A) (a : A) → ((n : ℕ) → n < length xs → P n (get_or xs n d)) → P (length xs) a → (n : ℕ) →
    n < length xs + 1 → P n (get_or (xs ++ a ∷ []) n d)
grows P d [] a each last zero below = last
grows P d [] a each last (suc n) below = absurd (omega (arith, below))
grows P d (x ∷ xs) a each last zero below = each zero (omega arith)
grows P d (x ∷ xs) a each last (suc n) below =
    grows (λ m. P (suc m)) d xs a (λ m inside. each (suc m) (omega (arith, inside))) last n (omega (arith, below))
