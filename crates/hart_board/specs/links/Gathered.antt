-- What the place knows in which all seats have met.
use Rattle.std.specs.Prelude.{◌≡◌, ◌⊎◌, List, [], ◌∷◌, All, false}
use Rattle.atomic_table.specs.declared.shared.Seat as at
use Rattle.hart_board.specs.declared.views.Terms.{Terms}
use Rattle.hart_board.specs.declared.views.Past.{Past}
use Rattle.hart_board.specs.declared.views.Known.{Known}
use Rattle.hart_board.specs.declared.views.View.{View}
use Rattle.hart_board.specs.declared.views.View.TheVariants.{Seated}
use Rattle.hart_board.specs.declared.seat.Seat.{Seat}
use Rattle.hart_board.specs.BoardRule.{Has, now_of}
use Rattle.hart_board.specs.Seats.{seen}

abbrev pub In : {A : Type 0} → A → List A → Type 0
In a [] = ⊥
In a (x ∷ xs) = (x ≡ a) ⊎ In a xs

module _ {C L : Type 0} where
  -- what the seat knows, as it will be past
  abbrev pub past_of : Seat C L → Past
  past_of s = record { numbers = s.number ∷ []; seen = seen s }

  -- the seat's number and what it had seen are in what is known
  abbrev pub Knows : Known C → Seat C L → Type 0
  Knows k s = Has s.number k.numbers × In (past_of s) (now_of k ∷ k.past)

  -- the place knows what all these seats had seen, and has their numbers
  pub record Gathers (terms : Terms C) (seats : List (Seat C L)) (place : at.Seat C (View C)) (k : Known C) : Type 0 where
    pub me : place.me ≡ (Seated k, [])
    pub out : k.in_turn ≡ false
    pub terms_are : k.terms ≡ terms
    pub knows : All (Knows k) seats
