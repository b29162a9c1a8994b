-- What a turn does to a core: one event, made again and again.
use Rattle.std.specs.Prelude.{◌≡◌, ◌⊎◌, ◌↔◌, ℕ, ◌+◌, ◌<◌, ◌≤◌, List, [], ◌∷◌, ◌++◌, length, replicate, Bool, true, false, Option, Some, None}
use Rattle.machine_events.specs.declared.event.Event.{Event}
use Rattle.machine_events.specs.declared.event.Reply.{Reply}
use Rattle.machine_events.specs.Cores.{Behaviour, played, is_idle}
use Rattle.hart_board.specs.declared.journal.Entry.{Entry}
use Rattle.hart_board.specs.declared.core_turn.Ahead.{Ahead}
use Rattle.hart_board.specs.declared.core_turn.Quota.{Quota}
use Rattle.hart_board.specs.declared.core_turn.Made.{Made}
use Rattle.hart_board.specs.Journals.{last_reply}

module _ {C M : Type 0} (opening : C → M) (history : C → List Event) (hart_count space : C → ℕ) (evictable : C → ℕ → ℕ → Type 0) where
  -- the core is what another becomes when these events are played
  pub record IsPlayed (from : C) (events : List Event) (to : C) : Type 0 where
    pub opens : opening to ≡ opening from
    pub events_are : history to ≡ history from ++ events
    pub harts : hart_count to ≡ hart_count from
    pub room : space to + length events ≡ space from
    pub evicts : (line mask : ℕ) → evictable to line mask ↔ evictable from line mask

module _ {C M : Type 0} (b : Behaviour M) (opening : C → M) (history : C → List Event) where
  -- what the core replies to an event after these
  abbrev pub reply_after : C → List Event → Event → Reply
  reply_after core events event = b.reply (played b (opening core) (history core ++ events)) event

  -- after these events of its turn the seat has nothing more to do
  abbrev pub IsDone : (C → ℕ) → C → Quota → List Event → Type 0
  IsDone hart_count core q events =
      ((q.seat < hart_count core) × (b.is_stopped (played b (opening core) (history core ++ events)) q.seat ≡ true))
      ⊎ ((q.made + length events ≡ q.turns) ⊎ (length (history core) + length events ≡ q.ceiling))

  -- the event was made so often as told, at least once and at most so often, each time with something to do and none but the last waiting
  pub record Makes (hart_count : C → ℕ) (core : C) (q : Quota) (event : Event) (most : ℕ) (made : Made) : Type 0 where
    pub some : 0 < made.count
    pub few : made.count ≤ most
    pub within_turns : q.made + made.count ≤ q.turns
    pub within_ceiling : length (history core) + made.count ≤ q.ceiling
    pub each : (xs ys : List Event) (x : Event) → replicate made.count event ≡ xs ++ x ∷ ys → ¬ IsDone hart_count core q xs
    pub moves : (xs ys : List Event) (x y : Event) → replicate made.count event ≡ xs ++ x ∷ (y ∷ ys) → is_idle (reply_after core xs x) ≡ false
    pub last : Some made.last ≡ last_reply (reply_after core) [] (replicate made.count event)

  -- what a turn comes to: nothing where there is nothing to do, else so many events
  abbrev pub TurnGives : (C → ℕ) → C → Quota → Event → (most : ℕ) → Option Made → Type 0
  TurnGives hart_count core q event most None = IsDone hart_count core q []
  TurnGives hart_count core q event most (Some made) = Makes hart_count core q event most made

-- it runs ahead of the seat's hart, in a core that opened so with so many harts, by as many steps as are counted. Each seat that has a hart has one
abbrev pub RunsAhead : {L M : Type 0} → (M → ℕ → L → Type 0) → (L → ℕ) → M → (harts seat : ℕ) → Option (Ahead L) → Type 0
RunsAhead is_local ahead_by m harts seat None = harts ≤ seat
RunsAhead is_local ahead_by m harts seat (Some a) = (seat < harts) × is_local m seat a.local × (a.steps ≡ ahead_by a.local)

abbrev pub RunsIn : {C L M : Type 0} → (C → M) → (C → ℕ) → (M → ℕ → L → Type 0) → (L → ℕ) → C → (seat : ℕ) → Option (Ahead L) → Type 0
RunsIn opening hart_count is_local ahead_by core seat ahead = RunsAhead is_local ahead_by (opening core) (hart_count core) seat ahead

-- it has made so many steps, or can make no more
abbrev pub HasComeTo : {L : Type 0} → (goes_ahead : L → Bool) → (limit : ℕ) → Option (Ahead L) → Type 0
HasComeTo goes_ahead limit None = Unit {0}
HasComeTo goes_ahead limit (Some a) = (limit ≤ a.steps) ⊎ (goes_ahead a.local ≡ false)

-- from the same beginning some steps more, up to so many, where it hadn't as many already
abbrev pub RunsOn : {C L : Type 0} → (is_at_beginning : C → ℕ → L → Type 0) → (limit : ℕ) → (old new : Option (Ahead L)) → Type 0
RunsOn is_at_beginning limit None None = Unit {0}
RunsOn is_at_beginning limit (Some a) (Some z) =
    ((core : _) (seat : ℕ) → is_at_beginning core seat z.local ↔ is_at_beginning core seat a.local) × (a.steps ≤ z.steps)
    × ((z ≡ a) ⊎ (z.steps ≤ limit))
RunsOn is_at_beginning limit None (Some z) = ⊥
RunsOn is_at_beginning limit (Some a) None = ⊥

-- it begins at the seat's hart as this core has it, and has made no step
abbrev pub BeginsAt : {C L : Type 0} → (is_at_beginning : C → ℕ → L → Type 0) → C → (seat : ℕ) → Option (Ahead L) → Type 0
BeginsAt is_at_beginning core seat None = Unit {0}
BeginsAt is_at_beginning core seat (Some a) = is_at_beginning core seat a.local × (a.steps ≡ 0)

-- the events of a turn
abbrev pub events_made : Event → Option Made → List Event
events_made event None = []
events_made event (Some made) = replicate made.count event

abbrev pub last_made : Option Made → Option Reply
last_made None = None
last_made (Some made) = Some made.last

abbrev pub count_made : Option Made → ℕ
count_made None = 0
count_made (Some made) = made.count

-- so many steps, one at least, are no more than the turn may have
pub record Fits {C : Type 0} (history : C → List Event) (core : C) (q : Quota) (most steps : ℕ) : Type 0 where
  pub some : 0 < steps
  pub few : steps ≤ most
  pub within_turns : q.made + steps ≤ q.turns
  pub within_ceiling : length (history core) + steps ≤ q.ceiling

-- of so many events the turn has all steps that were run ahead, where the hart still stands at their beginning and they fit
abbrev pub Adopts : {C L : Type 0} → (history : C → List Event) (is_at_beginning : C → ℕ → L → Type 0) → C → Quota → (most : ℕ) → Option (Ahead L) →
    (count : ℕ) → Type 0
Adopts history is_at_beginning core q most None count = Unit {0}
Adopts history is_at_beginning core q most (Some a) count = is_at_beginning core q.seat a.local → Fits history core q most a.steps → a.steps ≤ count

-- the entry of a turn
abbrev pub made_entry : (seat : ℕ) → Event → Option Made → Entry
made_entry seat event result = record { seat = seat; events = events_made event result; last = last_made result }

-- where events were made, it was at least once and at most so often
abbrev pub IsWithin : (most : ℕ) → Option Made → Type 0
IsWithin most None = Unit {0}
IsWithin most (Some made) = (0 < made.count) × (made.count ≤ most)
