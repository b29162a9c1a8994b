-- Journals of turns, and which of them are legal.
use Rattle.std.specs.Prelude.{◌≡◌, ◌⊎◌, ◌↔◌, ℕ, ◌+◌, ◌<◌, ◌≤◌, List, [], ◌∷◌, ◌++◌, length, Bool, true, false, All, ◌==◌, Option, Some, None, if◌then◌else◌}
use Rattle.machine_events.specs.declared.event.Event.{Event}
use Rattle.machine_events.specs.declared.event.Event.TheVariants.{Step, Evict, Crash, Start}
use Rattle.machine_events.specs.declared.event.Reply.{Reply}
use Rattle.machine_events.specs.Cores.{Behaviour, played, is_idle}
use Rattle.hart_board.specs.declared.journal.Entry.{Entry}

-- what a core does from here on: its behaviour, played on from the events that it has had
pub record Play : Type 0 where
  pub harts : ℕ
  -- how many seats take turns
  pub seats : ℕ
  -- how many events it has had
  pub before : ℕ
  -- what it replies to an event after these
  pub reply : List Event → Event → Reply
  -- after these events the hart has ended, or its recovery is done
  pub is_stopped : List Event → (hart : ℕ) → Bool

abbrev pub play_from : {M : Type 0} → Behaviour M → (opening : M) → (history : List Event) → (harts seats : ℕ) → Play
play_from b m history harts seats = record {
  harts = harts;
  seats = seats;
  before = length history;
  reply = λ events event. b.reply (played b m (history ++ events)) event;
  is_stopped = λ events hart. b.is_stopped (played b m (history ++ events)) hart;
}

-- the events of all turns, in order
abbrev pub events_of : List Entry → List Event
events_of [] = []
events_of (e ∷ es) = e.events ++ events_of es

-- the seat's own turns
abbrev pub entries_by : (seat : ℕ) → List Entry → List Entry
entries_by seat [] = []
entries_by seat (e ∷ es) = if e.seat == seat then e ∷ entries_by seat es else entries_by seat es

-- how many events the seat has made
abbrev pub made_by : (seat : ℕ) → List Entry → ℕ
made_by seat journal = length (events_of (entries_by seat journal))

-- what is replied to the last of these events, which come after the first ones
abbrev pub last_reply : (List Event → Event → Reply) → List Event → List Event → Option Reply
last_reply reply before [] = None
last_reply reply before (event ∷ []) = Some (reply before event)
last_reply reply before (event ∷ (next ∷ events)) = last_reply reply (before ++ event ∷ []) (next ∷ events)

-- the event is one that the seat makes: a step of its hart, or an eviction where it has none
abbrev pub IsOwn : (harts seat : ℕ) → Event → Type 0
IsOwn harts seat (Step hart) = (hart ≡ seat) × (hart < harts)
IsOwn harts seat (Evict line mask) = harts ≤ seat
IsOwn harts seat Crash = ⊥
IsOwn harts seat Start = ⊥

module _ (p : Play) (turns ceiling : ℕ) where
  -- after these turns, and these events of one that isn't over, the seat has nothing more to do
  abbrev pub IsOver : List Entry → (seat : ℕ) → List Event → Type 0
  IsOver before seat events =
      ((seat < p.harts) × (p.is_stopped (events_of before ++ events) seat ≡ true))
      ⊎ ((made_by seat before + length events ≡ turns) ⊎ (p.before + length (events_of before) + length events ≡ ceiling))

  -- the turn may be taken after these
  pub record IsTurn (before : List Entry) (e : Entry) : Type 0 where
    -- the first turns are those of the seats in order, so that none takes its second before each has taken its first
    pub first : length before < p.seats → e.seat ≡ length before
    pub own : All (IsOwn p.harts e.seat) e.events
    pub over : (e.events ≡ []) ↔ IsOver before e.seat []
    -- each event finds the seat with something to do
    pub each : (xs ys : List Event) (x : Event) → e.events ≡ xs ++ x ∷ ys → ¬ IsOver before e.seat xs
    -- none but the last one waits
    pub moves : (xs ys : List Event) (x y : Event) → e.events ≡ xs ++ x ∷ (y ∷ ys) → is_idle (p.reply (events_of before ++ xs) x) ≡ false
    pub within_turns : made_by e.seat before + length e.events ≤ turns
    pub within_ceiling : p.before + length (events_of before) + length e.events ≤ ceiling
    pub reply : e.last ≡ last_reply p.reply (events_of before) e.events

  abbrev pub IsLegal : List Entry → Type 0
  IsLegal journal = (before : List Entry) (e : Entry) (after : List Entry) → journal ≡ before ++ e ∷ after → IsTurn before e
