-- The rule of a board, and what each step at it tells.
-- Word 0 is how many turns were taken, word 1 how many tickets were drawn. The slot holds the core.
use Rattle.std.specs.Prelude.{◌≡◌, ◌≢◌, ◌⊎◌, ℕ, zero, suc, ◌+◌, ◌-◌, ◌%◌, ◌^◌, ◌<◌, ◌≤◌, List, [], ◌∷◌, ◌++◌, length}
use Rattle.std.specs.Prelude.{drop, Bool, true, false, All, ◌==◌, Option, Some, None, slice_index, nat_lt, if◌then◌else◌}
use mathlib.Core.Option.{some, none}
use mathlib.Core.List.{IsPrefix}
use lib.ListN.{get_elem?}
use Rattle.machine_events.specs.declared.event.Event.{Event}
use Rattle.atomic_table.specs.Table.{State, Me, Step}
use Rattle.hart_board.specs.declared.journal.Entry.{Entry}
use Rattle.hart_board.specs.declared.views.Terms.{Terms}
use Rattle.hart_board.specs.declared.views.Past.{Past}
use Rattle.hart_board.specs.declared.views.Known.{Known}
use Rattle.hart_board.specs.declared.views.View.{View}
use Rattle.hart_board.specs.declared.views.View.TheVariants.{Spent, Seated}
use Rattle.machine_events.specs.Cores.{Behaviour}
use Rattle.hart_board.specs.CoreTurns.{IsPlayed}
use Rattle.hart_board.specs.Journals.{play_from, Play, events_of, entries_by, last_reply, IsLegal}

-- these numbers of all elements, added up
abbrev pub total : {A : Type 0} → (A → ℕ) → List A → ℕ
total g [] = 0
total g (x ∷ xs) = g x + total g xs

-- so many numbers from this one on
abbrev pub numbers_from : (at count : ℕ) → List ℕ
numbers_from at zero = []
numbers_from at (suc count) = at ∷ numbers_from (at + 1) count

abbrev pub times : ℕ → List ℕ → ℕ
times n [] = 0
times n (m ∷ ms) = (if m == n then 1 else 0) + times n ms

abbrev pub Has : ℕ → List ℕ → Type 0
Has n ms = 0 < times n ms

-- ---- Views

abbrev pub rest_of : List ℕ → List ℕ
rest_of [] = []
rest_of (n ∷ ns) = ns

abbrev pub first_of : List ℕ → List ℕ
first_of [] = []
first_of (n ∷ ns) = n ∷ []

-- the ticket of one that has these numbers and made no turn: at the start each seat has the ticket of its number
abbrev pub first_ticket : List ℕ → Option ℕ
first_ticket [] = None
first_ticket (n ∷ ns) = Some n

module _ {C : Type 0} where
  abbrev pub drawn_in : View C → ℕ
  drawn_in Spent = 0
  drawn_in (Seated k) = k.drawn

  abbrev pub numbers_in : View C → List ℕ
  numbers_in Spent = []
  numbers_in (Seated k) = k.numbers

  -- all tickets that were drawn and not served
  abbrev pub all_drawn : List (View C) → ℕ
  all_drawn views = total drawn_in views

  -- a seat with these numbers, and the tickets of these numbers, that has seen no turn
  abbrev pub dealt : Terms C → (numbers : List ℕ) → Known C
  dealt terms ns = record { terms = terms; seen = []; past = []; numbers = ns; drawn = length ns; ticket = first_ticket ns; in_turn = false }

  -- one that has all numbers
  abbrev pub newcomer : Terms C → Known C
  newcomer terms = dealt terms (numbers_from 0 terms.seats)

  -- one that has seen as much, with the tickets of these numbers
  abbrev pub beside : Known C → (numbers : List ℕ) → Known C
  beside k ns = record { terms = k.terms; seen = k.seen; past = []; numbers = ns; drawn = length ns; ticket = first_ticket ns; in_turn = false }

  -- the first of its numbers is given away, with its ticket
  abbrev pub without_first : View C → View C
  without_first Spent = Spent
  without_first (Seated k) =
      Seated (record k { numbers = rest_of k.numbers; past = []; drawn = length (rest_of k.numbers); ticket = first_ticket (rest_of k.numbers) })

  abbrev pub first_alone : View C → View C
  first_alone Spent = Spent
  first_alone (Seated k) = Seated (beside k (first_of k.numbers))

  -- a note of what is seen, for which nothing is given away
  abbrev pub as_before : View C → View C
  as_before v = v

  abbrev pub noted : View C → View C
  noted Spent = Spent
  noted (Seated k) = Seated (beside k [])

-- ---- The rule

-- of a journal this was known, and of these numbers all turns are in it still
pub record IsPast (journal : List Entry) (numbers : List ℕ) (o : Past) : Type 0 where
  pub begins : IsPrefix o.seen journal
  pub own : (n : ℕ) → Has n o.numbers → Has n numbers × (entries_by n journal ≡ entries_by n o.seen)

module _ {C : Type 0} (c : Play) (is_play : List Event → C → Type 0) (terms : Terms C) where
  -- what a seat knows is so, where the journal is this and so many tickets weren't served
  pub record KnownInv (journal : List Entry) (drawn : ℕ) (k : Known C) : Type 0 where
    pub terms_are : k.terms ≡ terms
    pub begins : IsPrefix k.seen journal
    pub own : (n : ℕ) → Has n k.numbers → entries_by n journal ≡ entries_by n k.seen
    pub past : All (IsPast journal k.numbers) k.past
    pub few : k.drawn ≤ length k.numbers
    pub waits : (t : ℕ) → k.ticket ≡ Some t → (length journal ≤ t) × (t < length journal + drawn) × (0 < k.drawn)
    pub served : k.in_turn ≡ true → (k.ticket ≡ Some (length journal)) × (k.seen ≡ journal)
    -- a ticket of the first turns is one's own number
    pub first : (t : ℕ) → k.ticket ≡ Some t → t < terms.seats → Has t k.numbers

  abbrev pub ViewInv : (journal : List Entry) → (drawn : ℕ) → View C → Type 0
  ViewInv journal drawn Spent = Unit {0}
  ViewInv journal drawn (Seated k) = KnownInv journal drawn k

  -- the core is at home, and no seat is in its turn
  abbrev pub IsHome : List Entry → State C (View C) → Type 0
  IsHome journal s =
      ((core : C) × (s.homes ≡ some core ∷ []) × is_play (events_of journal) core)
      × ((i : ℕ) (k : Known C) → get_elem? s.views i ≡ some (Seated k) → k.in_turn ≡ false)

  -- the core is with a seat in its turn
  abbrev pub IsAway : State C (View C) → Type 0
  IsAway s = (s.homes ≡ none ∷ []) × ((i : ℕ) × (k : Known C) × (get_elem? s.views i ≡ some (Seated k)) × (k.in_turn ≡ true))

  pub record BoardInv (s : State C (View C)) : Type 0 where
    pub journal : List Entry
    pub legal : IsLegal c terms.turns terms.ceiling journal
    pub seats : All (λ e. e.seat < terms.seats) journal
    pub two : length s.words ≡ 2
    pub serving : slice_index s.words 0 ≡ length journal % 2 ^ 64
    pub ticket : slice_index s.words 1 ≡ (length journal + all_drawn s.views) % 2 ^ 64
    pub numbers : (n : ℕ) → total (λ v. times n (numbers_in v)) s.views ≡ (if nat_lt n terms.seats then 1 else 0)
    pub count : total (λ v. length (numbers_in v)) s.views ≡ terms.seats
    pub few : terms.seats < 2 ^ 32
    -- the tickets of the first turns were drawn
    pub dealt : terms.seats ≤ length journal + all_drawn s.views
    pub each : (i : ℕ) (v : View C) → get_elem? s.views i ≡ some v → ViewInv journal (all_drawn s.views) v
    pub apart : (i j t : ℕ) (k l : Known C) → get_elem? s.views i ≡ some (Seated k) → get_elem? s.views j ≡ some (Seated l) → k.ticket ≡ Some t →
        l.ticket ≡ Some t → i ≡ j
    pub slot : IsHome journal s ⊎ IsAway s

-- ---- What the steps tell

module _ {C : Type 0} where
  -- the seat has drawn this ticket
  abbrev pub with_ticket : Known C → ℕ → Known C
  with_ticket k t = record k { drawn = k.drawn + 1; ticket = Some t }

  -- a ticket was drawn that is none of the first turns', of which the word found is what it is modulo 2 ^ 64
  abbrev pub drew : Step C → Me C (View C) → ℕ → Me C (View C) → Type 0
  drew st m found m' = (k : Known C) → m.0 ≡ Seated k → (t : ℕ) × (m' ≡ (Seated (with_ticket k t), m.1)) × (found ≡ t % 2 ^ 64) × (length k.seen ≤ t)
      × (k.terms.seats ≤ t)

  -- the seat has seen these turns
  abbrev pub with_seen : Known C → List Entry → (in_turn : Bool) → Known C
  with_seen k seen b = record k { seen = seen; past = []; in_turn = b }

  -- the turns that are seen go on from what was seen, and have of one's own only those
  pub record GoesOn (c : Terms C → Play) (k : Known C) (seen : List Entry) : Type 0 where
    pub begins : IsPrefix k.seen seen
    pub legal : IsLegal (c k.terms) k.terms.turns k.terms.ceiling seen
    pub own : (n : ℕ) → Has n k.numbers → entries_by n seen ≡ entries_by n k.seen
    pub past : All (IsPast seen k.numbers) k.past

  -- the seat with this ticket has seen all turns so far. It takes the core where its ticket is the next one
  abbrev pub looked : (Terms C → Play) → (Terms C → List Event → C → Type 0) → Step C → Me C (View C) → ℕ → Me C (View C) → Type 0
  looked c is_play st m found m' =
      (k : Known C) (t : ℕ) → m.0 ≡ Seated k → k.ticket ≡ Some t → k.in_turn ≡ false →
      (seen : List Entry) × GoesOn c k seen × (found ≡ length seen % 2 ^ 64)
      × (found ≢ t % 2 ^ 64 → (length seen < t) × (m' ≡ (Seated (with_seen k seen false), m.1)))
      × (found ≡ t % 2 ^ 64 → (length seen ≡ t)
      × ((core : C) × (m' ≡ (Seated (with_seen k seen true), (0, core) ∷ m.1)) × is_play k.terms (events_of seen) core))

  -- the seat has seen all turns so far, whether it has a ticket or none
  abbrev pub saw : (Terms C → Play) → Step C → Me C (View C) → ℕ → Me C (View C) → Type 0
  saw c st m found m' =
      (k : Known C) → m.0 ≡ Seated k → k.in_turn ≡ false → (seen : List Entry) × GoesOn c k seen × (m' ≡ (Seated (with_seen k seen false), m.1))

  -- the turn that a seat has taken with the core that it holds now
  abbrev pub turn_of : (Terms C → Play) → (C → List Event) → Known C → (seat : ℕ) → C → Entry
  turn_of c history k seat core =
      let events : List Event = drop ((c k.terms).before + length (events_of k.seen)) (history core) in
      record { seat = seat; events = events; last = last_reply (c k.terms).reply (events_of k.seen) events }

  -- the seat after its turn
  abbrev pub with_turn : Known C → Entry → Known C
  with_turn k e = record k { seen = k.seen ++ e ∷ []; past = []; drawn = k.drawn - 1; ticket = None; in_turn = false }

  abbrev pub passed : (Terms C → Play) → (C → List Event) → Step C → Me C (View C) → ℕ → Me C (View C) → Type 0
  passed c history st m found m' =
      (k : Known C) (n : ℕ) (core : C) → m ≡ (Seated k, (0, core) ∷ []) → k.numbers ≡ n ∷ [] → m' ≡ (Seated (with_turn k (turn_of c history k n core)), [])

-- ---- Boards of cores

module _ {C M : Type 0} (opening : C → M) (history : C → List Event) (hart_count space : C → ℕ) (evictable : C → ℕ → ℕ → Type 0) where
  -- the core is the opening one with these events played
  abbrev pub IsPlayOf : Terms C → List Event → C → Type 0
  IsPlayOf terms events core = IsPlayed opening history hart_count space evictable terms.opening.value events core

module _ {C M : Type 0} (b : Behaviour M) (opening : C → M) (history : C → List Event) (hart_count : C → ℕ) where
  abbrev pub play_of : Terms C → Play
  play_of terms = play_from b (opening terms.opening.value) (history terms.opening.value) (hart_count terms.opening.value) terms.seats

-- ---- Seats that meet

-- what the other has seen, where that is more
abbrev pub longer : List Entry → List Entry → List Entry
longer xs ys = if nat_lt (length xs) (length ys) then ys else xs

module _ {C : Type 0} where
  -- what a seat knows now, as it will be past
  abbrev pub now_of : Known C → Past
  now_of k = record { numbers = k.numbers; seen = k.seen }

  -- a seat that has met another, which is spent
  abbrev pub met : Known C → Known C → Known C
  met k l = record {
    terms = k.terms;
    seen = longer k.seen l.seen;
    past = now_of k ∷ (now_of l ∷ (k.past ++ l.past));
    numbers = k.numbers ++ l.numbers;
    drawn = k.drawn + l.drawn;
    ticket = k.ticket;
    in_turn = k.in_turn;
  }

  abbrev pub met_view : View C → View C → View C
  met_view (Seated k) (Seated l) = Seated (met k l)
  met_view (Seated k) Spent = Seated k
  met_view Spent v = v

  -- what is known once all is over: this journal begins with all that was seen, and the core is the play of it
  pub record Closed (c : Terms C → Play) (is_play : Terms C → List Event → C → Type 0) (k : Known C) (core : C) : Type 0 where
    pub legal : IsLegal (c k.terms) k.terms.turns k.terms.ceiling k.seen
    pub seats : All (λ e. e.seat < k.terms.seats) k.seen
    pub plays : is_play k.terms (events_of k.seen) core
    pub past : All (IsPast k.seen k.numbers) k.past
