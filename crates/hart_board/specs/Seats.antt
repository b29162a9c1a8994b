-- What a seat knows between two calls, and what a call adds.
use Rattle.std.specs.Prelude.{◌≡◌, ◌≢◌, ℕ, ◌+◌, ◌-◌, ◌%◌, ◌^◌, ◌<◌, ◌≤◌, List, [], ◌∷◌, ◌++◌, length, map, min, replicate, All}
use Rattle.std.specs.Prelude.{Bool, true, false, Option, Some, None}
use mathlib.Core.List.{IsPrefix}
use Rattle.atomic_table.specs.Seated.{TableId}
use Rattle.machine_events.specs.declared.event.Event.{Event}
use Rattle.machine_events.specs.declared.event.Reply.{Reply}
use Rattle.machine_events.specs.Cores.{Behaviour}
use Rattle.hart_board.specs.declared.journal.Entry.{Entry}
use Rattle.hart_board.specs.declared.views.Terms.{Terms}
use Rattle.hart_board.specs.declared.views.Known.{Known}
use Rattle.hart_board.specs.declared.views.View.{View}
use Rattle.hart_board.specs.declared.views.View.TheVariants.{Spent, Seated}
use Rattle.hart_board.specs.declared.board.Board.{Board}
use Rattle.hart_board.specs.declared.seat.Seat.{Seat}
use Rattle.hart_board.specs.declared.seat.Note.{Note}
use Rattle.hart_board.specs.declared.seat.Turn.{Turn}
use Rattle.hart_board.specs.declared.seat.Turn.TheVariants as turn
use Rattle.hart_board.specs.declared.seat.TryTurn.{TryTurn}
use Rattle.hart_board.specs.declared.seat.TryTurn.TheVariants.{Did, Over, Later}
use Rattle.hart_board.specs.Journals.{Play, play_from, events_of, entries_by, made_by, IsLegal}
use Rattle.hart_board.specs.declared.core_turn.Ahead.{Ahead}
use Rattle.hart_board.specs.declared.core_turn.Made.{Made}
use Rattle.hart_board.specs.declared.core_turn.Quota.{Quota}
use Rattle.hart_board.specs.CoreTurns.{Adopts, BeginsAt, HasComeTo, RunsOn}
use Rattle.hart_board.specs.BoardRule.{Has}

-- ---- Seats and what they know

module _ {C : Type 0} where
  abbrev pub seen_in : View C → List Entry
  seen_in Spent = []
  seen_in (Seated k) = k.seen

  -- what the noting seat had seen
  abbrev pub noted_turns : Note C → List Entry
  noted_turns note = seen_in note.place.me.0

module _ {C L : Type 0} where
  -- the core with which the board was made
  abbrev pub opening_core : Board C L → C
  opening_core board = board.table.shared.key.opening.value

  abbrev pub seats_of : Board C L → ℕ
  seats_of board = board.table.shared.key.seats

  abbrev pub turns_of : Board C L → ℕ
  turns_of board = board.table.shared.key.turns

  abbrev pub ceiling_of : Board C L → ℕ
  ceiling_of board = board.table.shared.key.ceiling

  -- the turns that the seat has seen, with which the journal begins
  abbrev pub seen : Seat C L → List Entry
  seen s = seen_in s.place.me.0

  -- the seat's number, which is its hart's
  abbrev pub number : Seat C L → ℕ
  number s = s.number

  -- the ticket that it waits with, modulo 2 ^ 64
  abbrev pub ticket : Seat C L → Option ℕ
  ticket s = s.ticket

-- the seat has a ticket that is this modulo 2 ^ 64, or none
abbrev pub HasTicket : {C : Type 0} → Option ℕ → Known C → Type 0
HasTicket (Some u) k = (k.drawn ≡ 1) × ((t : ℕ) × (k.ticket ≡ Some t) × (u ≡ t % 2 ^ 64))
HasTicket None k = (k.ticket ≡ None) × (k.drawn ≡ 0)

-- the seat knows this between two calls
pub record Represents {C L : Type 0} (s : Seat C L) (k : Known C) : Type 0 where
  pub me : s.place.me ≡ (Seated k, [])
  pub out : k.in_turn ≡ false
  pub numbers : k.numbers ≡ s.number ∷ []
  pub turns_are : s.turns ≡ k.terms.turns
  pub ceiling_is : s.ceiling ≡ k.terms.ceiling
  pub made_is : s.made ≡ made_by s.number k.seen
  pub within : s.made ≤ s.turns
  pub ticket_is : HasTicket s.ticket k
  -- a ticket of the first turns is its number
  pub first : (t : ℕ) → k.ticket ≡ Some t → t < k.terms.seats → s.number ≡ t

-- the seat is in its turn, with this core in hand
pub record IsInTurn {C L : Type 0} (c : Terms C → Play) (is_play : Terms C → List Event → C → Type 0) (s : Seat C L) (k : Known C) (core : C) : Type 0 where
  pub me : s.place.me ≡ (Seated k, (0, core) ∷ [])
  pub turning : k.in_turn ≡ true
  pub one : k.drawn ≡ 1
  pub numbers : k.numbers ≡ s.number ∷ []
  pub turns_are : s.turns ≡ k.terms.turns
  pub ceiling_is : s.ceiling ≡ k.terms.ceiling
  pub made_is : s.made ≡ made_by s.number k.seen
  pub within : s.made ≤ s.turns
  -- one of the first turns is that of its number
  pub first : length k.seen < k.terms.seats → s.number ≡ length k.seen
  pub legal : IsLegal (c k.terms) k.terms.turns k.terms.ceiling k.seen
  pub plays : is_play k.terms (events_of k.seen) core

module _ {C : Type 0} where
  -- the seat is one of the table of this id, whose board was made with these terms
  pub record IsSeatAt {L : Type 0} (id : TableId) (terms : Terms C) (s : Seat C L) : Type 0 where
    pub known : Known C
    pub table : s.place.table_id ≡ id
    pub represents : Represents s known
    pub terms_are : known.terms ≡ terms
    pub inside : s.number < terms.seats

  -- the note is one of this board
  pub record IsNoteOf {L : Type 0} (board : Board C L) (note : Note C) : Type 0 where
    pub known : Known C
    pub table : note.place.table_id ≡ board.table.shared.table_id
    pub me : note.place.me ≡ (Seated known, [])
    pub out : known.in_turn ≡ false
    pub numbers : known.numbers ≡ []
    pub drawn : known.drawn ≡ 0

module _ {C : Type 0} (history : C → List Event) (space : C → ℕ) where
  -- the ceiling is one that the core can reach
  pub record IsInReach (terms : Terms C) : Type 0 where
    pub reached : terms.ceiling ≤ length (history terms.opening.value) + space terms.opening.value
    pub begun : length (history terms.opening.value) ≤ terms.ceiling

  -- the seat is one of this board, between two calls. What it has run ahead is of its hart
  pub record IsSeatOf {L : Type 0} (runs : C → ℕ → Option (Ahead L) → Type 0) (board : Board C L) (s : Seat C L) : Type 0 where
    pub seat : IsSeatAt board.table.shared.table_id board.table.shared.key s
    pub reach : IsInReach board.table.shared.key
    pub ahead : runs (opening_core board) s.number s.local

-- ---- What calls add

-- what makes a journal legal: the play of a core, and the limits of its board
pub record Rules : Type 0 where
  pub play : Play
  pub turns : ℕ
  pub ceiling : ℕ

abbrev pub rules_of : {C L M : Type 0} → Behaviour M → (C → M) → (C → List Event) → (C → ℕ) → Board C L → Rules
rules_of b opening history hart_count board = record {
  play = play_from b (opening (opening_core board)) (history (opening_core board)) (hart_count (opening_core board)) (seats_of board);
  turns = turns_of board;
  ceiling = ceiling_of board;
}

-- what is seen is a legal journal that begins with what was seen, and has no turn more of the seat's own
pub record SeesMore (r : Rules) (seat : ℕ) (old new : List Entry) : Type 0 where
  pub begins : IsPrefix old new
  pub own : entries_by seat new ≡ entries_by seat old
  pub legal : IsLegal r.play r.turns r.ceiling new

-- what is seen is a legal journal: what was seen, turns of others, and this turn
pub record TakesTurn (r : Rules) (e : Entry) (old new : List Entry) : Type 0 where
  pub between : List Entry
  pub seen_is : new ≡ (old ++ between) ++ e ∷ []
  pub others : entries_by e.seat between ≡ []
  pub legal : IsLegal r.play r.turns r.ceiling new

-- the turn of a seat that made the event so often
abbrev pub did_entry : (seat : ℕ) → Event → (count : ℕ) → Reply → Entry
did_entry seat event count last = record { seat = seat; events = replicate count event; last = Some last }

-- the turn of a seat with nothing more to do
abbrev pub over_entry : (seat : ℕ) → Entry
over_entry seat = record { seat = seat; events = []; last = None }

-- so often, at least once and at most so often, the event was made in a turn
pub record DoesTurn (r : Rules) (seat : ℕ) (event : Event) (most count : ℕ) (last : Reply) (old new : List Entry) : Type 0 where
  pub some : 0 < count
  pub few : count ≤ most
  pub turn : TakesTurn r (did_entry seat event count last) old new

-- no turn was taken: what was seen is fewer turns than come before the ticket, which stays
pub record WaitsOn {C L : Type 0} (r : Rules) (drawn serving : ℕ) (old new : Seat C L) : Type 0 where
  pub sees : SeesMore r (number old) (seen old) (seen new)
  pub before : (t : ℕ) × (drawn ≡ t % 2 ^ 64) × (serving ≡ length (seen new) % 2 ^ 64) × (length (seen new) < t)
  pub apart : serving ≢ drawn
  pub kept : ticket new ≡ Some drawn
  pub had : (u : ℕ) → ticket old ≡ Some u → u ≡ drawn

-- what a try at a turn of this event tells
abbrev pub TryTells : {C L : Type 0} → Rules → Event → (most : ℕ) → TryTurn → (old new : Seat C L) → Type 0
TryTells r event most (Did events last) old new = DoesTurn r (number old) event most events last (seen old) (seen new)
TryTells r event most Over old new = TakesTurn r (over_entry (number old)) (seen old) (seen new)
TryTells r event most (Later drawn serving) old new = WaitsOn r drawn serving old new

-- the answer of a turn that was taken
abbrev pub answer_of : Option Made → TryTurn
answer_of None = Over
answer_of (Some made) = Did made.count made.last

-- what a turn of this event tells
abbrev pub TurnTells : {C L : Type 0} → Rules → Event → (most : ℕ) → Turn → (old new : Seat C L) → Type 0
TurnTells r event most (turn.Did events last) old new = DoesTurn r (number old) event most events last (seen old) (seen new)
TurnTells r event most turn.Over old new = TakesTurn r (over_entry (number old)) (seen old) (seen new)

-- ---- What is run ahead of a seat's hart

module _ {C L : Type 0} where
  -- what the seat may make of a core's events
  abbrev pub quota_of : Seat C L → Quota
  quota_of s = record { seat = s.number; made = s.made; turns = s.turns; ceiling = s.ceiling }

  -- how many events the seat's next turn may have, where it is asked for so many at most
  abbrev pub turn_limit : (most : ℕ) → Seat C L → ℕ
  turn_limit most s = min most (s.turns - s.made)

  -- what runs ahead begins at the seat's hart as it is after all turns that the seat has seen
  pub record BeginsAgain (is_play : List Event → C → Type 0) (is_at_beginning : C → ℕ → L → Type 0) (s : Seat C L) : Type 0 where
    pub core : C
    pub plays : is_play (events_of (seen s)) core
    pub begins : BeginsAt is_at_beginning core s.number s.local

  module _ (history : C → List Event) (is_at_beginning : C → ℕ → L → Type 0) (goes_ahead : L → Bool) where
    -- what ran ahead of the seat's hart has run on: as far as the next turn may go, or as it can
    pub record RanAhead (most : ℕ) (s : Seat C L) (ahead : Option (Ahead L)) : Type 0 where
      pub on : RunsOn is_at_beginning (turn_limit most s) s.local ahead
      pub far : HasComeTo goes_ahead (turn_limit most s) ahead

    -- a turn of so many events was taken
    pub record TookAhead (is_play : List Event → C → Type 0) (most count : ℕ) (old new : Seat C L) : Type 0 where
      -- the turns before it, and the core that they have made
      pub before : List Entry
      pub last : Entry
      pub seen_is : seen new ≡ before ++ last ∷ []
      pub core : C
      pub plays : is_play (events_of before) core
      -- what had run ahead, with which the turn begins
      pub ahead : Option (Ahead L)
      pub ran : RanAhead most old ahead
      pub adopts : Adopts history is_at_beginning core (quota_of old) most ahead count
      -- it begins again after the turn
      pub again : BeginsAgain is_play is_at_beginning new

    -- what a try at a turn does with what runs ahead. Where the seat waits it runs on, and stays
    abbrev pub TryAhead : (is_play : List Event → C → Type 0) → (most : ℕ) → TryTurn → (old new : Seat C L) → Type 0
    TryAhead is_play most (Did events last) old new = TookAhead is_play most events old new
    TryAhead is_play most Over old new = TookAhead is_play most 0 old new
    TryAhead is_play most (Later drawn serving) old new = RanAhead most old new.local × (quota_of new ≡ quota_of old)

    -- what a turn does with it
    abbrev pub TurnAhead : (is_play : List Event → C → Type 0) → (most : ℕ) → Turn → (old new : Seat C L) → Type 0
    TurnAhead is_play most (turn.Did events last) old new = TookAhead is_play most events old new
    TurnAhead is_play most turn.Over old new = TookAhead is_play most 0 old new

-- ---- All seats of a board

module _ {C L : Type 0} where
  -- the numbers of these seats, in order
  abbrev pub numbers_of : List (Seat C L) → List ℕ
  numbers_of seats = map number seats

  -- each of the board's seats is one of these, once
  pub record AreAllSeats (board : Board C L) (seats : List (Seat C L)) : Type 0 where
    pub each : (n : ℕ) → n < seats_of board → Has n (numbers_of seats)
    pub once : length seats ≡ seats_of board

  -- a journal that begins with all that these seats had seen, and has no turns of theirs but those that they had seen
  pub record HasSeen (journal : List Entry) (s : Seat C L) : Type 0 where
    pub begins : IsPrefix (seen s) journal
    pub own : entries_by (number s) journal ≡ entries_by (number s) (seen s)

-- one legal journal holds all turns of these seats, and no others. The core is the play of it, and of each seat's events in it there are so many
pub record IsWholeJournal {C L : Type 0} (r : Rules) (is_play : List Event → C → Type 0) (seats : List (Seat C L)) (core : C) (counts : List ℕ) : Type 0 where
  pub journal : List Entry
  pub legal : IsLegal r.play r.turns r.ceiling journal
  pub theirs : All (λ e. e.seat < length seats) journal
  pub plays : is_play (events_of journal) core
  pub seen : All (HasSeen journal) seats
  pub counts_are : counts ≡ map (λ s. made_by (number s) journal) seats
  pub few : All (λ n. n ≤ r.turns) counts
