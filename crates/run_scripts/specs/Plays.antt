-- The events of a script, made by a core.
use Rattle.std.specs.Prelude.{◌≡◌, ℕ, zero, suc, ◌-◌, List, [], ◌∷◌, ◌++◌, length, replicate, Option, Some, None, Bool, true, false, not, nat_lt, if◌then◌else◌}
use Rattle.machine_events.specs.declared.event.Event.{Event}
use Rattle.machine_events.specs.declared.event.Event.TheVariants as events
use Rattle.machine_events.specs.Cores.{Behaviour, played, least_enabled}
use Rattle.ido_base.specs.declared.limits.TheConstants.{MOST_STEPS_TO}
use Rattle.run_scripts.specs.declared.script.Command.{Command}
use Rattle.run_scripts.specs.declared.script.Command.TheVariants.{Steps, Point, Fence, Enabled, Evict, Crash, Start}
use Rattle.run_scripts.specs.Scripts.{Line}

-- steps of a hart up to the first that passes the test, at most so many; none or no more once the hart is stopped
unfoldable pub steps_until : {M : Type 0} → Behaviour M → (test : M → Event → Bool) → (hart most : ℕ) → M → List Event
steps_until b test hart zero m = []
steps_until b test hart (suc most) m =
    if b.is_stopped m hart then []
    else if test m (events.Step hart) then events.Step hart ∷ []
    else events.Step hart ∷ steps_until b test hart most (b.next m (events.Step hart))

-- steps of harts that are enabled, each of the least such hart of so many, at most so many; none or no more once no hart is
unfoldable pub enabled_steps : {M : Type 0} → Behaviour M → (harts most : ℕ) → M → List Event
enabled_steps b harts zero m = []
enabled_steps b harts (suc most) m = elim (least_enabled b m harts) [
  | None ↦ []
  | Some hart ↦ events.Step hart ∷ enabled_steps b harts most (b.next m (events.Step hart))
]

-- the events of a line, at a core of so many harts
abbrev pub line_events : {M : Type 0} → Behaviour M → (harts : ℕ) → M → Command → List Event
line_events b harts m (Steps hart count) = replicate count (events.Step hart)
line_events b harts m (Point hart) = steps_until b (λ m. b.stores_point m hart) hart MOST_STEPS_TO m
line_events b harts m (Fence hart) = steps_until b (λ m. b.finishes_fence m hart) hart MOST_STEPS_TO m
line_events b harts m (Enabled count) = enabled_steps b harts count m
line_events b harts m (Evict line mask) = events.Evict line mask ∷ []
line_events b harts m Crash = events.Crash ∷ []
line_events b harts m Start = events.Start ∷ []

-- the line is a start, and no life may begin now
abbrev pub is_refused : {M : Type 0} → Behaviour M → M → Command → Bool
is_refused b m (Steps hart count) = false
is_refused b m (Point hart) = false
is_refused b m (Fence hart) = false
is_refused b m (Enabled count) = false
is_refused b m (Evict line mask) = false
is_refused b m Crash = false
is_refused b m Start = not (b.can_start m)

-- the events of lines, each by what the core represents before it, up to a start by which no life may begin
abbrev pub script_events : {M : Type 0} → Behaviour M → (harts : ℕ) → M → List Line → List Event
script_events b harts m [] = []
script_events b harts m (line ∷ lines) =
    let es = line_events b harts m line.command in
    if is_refused b m line.command then [] else es ++ script_events b harts (played b m es) lines

-- ---- Faults that are found while lines are played

-- why lines aren't played to their end, at the line that stands at this place
pub data PlayFault : Type 0 where
  -- its events go past as many as a script may make
  TooMany : (place : ℕ) → PlayFault
  -- it is a start by which no life may begin
  BadStart : (place : ℕ) → PlayFault
  -- its events go past the few that there may be
  PastFew : (place : ℕ) → PlayFault

-- the first fault, where at most so many events may be made, and at most so few are wanted; of one line the first of these three
abbrev pub fault_within : {M : Type 0} → Behaviour M → (harts : ℕ) → M → (room few : ℕ) → List Line → Option PlayFault
fault_within b harts m room few [] = None
fault_within b harts m room few (line ∷ lines) =
    let es = line_events b harts m line.command in
    if nat_lt room (length es) then Some (TooMany line.place)
    else if is_refused b m line.command then Some (BadStart line.place)
    else if nat_lt few (length es) then Some (PastFew line.place)
    else fault_within b harts (played b m es) (room - length es) (few - length es) lines

-- the first fault, where as many are wanted as may be made
abbrev pub play_fault : {M : Type 0} → Behaviour M → (harts : ℕ) → M → (room : ℕ) → List Line → Option PlayFault
play_fault b harts m room lines = fault_within b harts m room room lines

-- ---- Events that are made again

-- another life may begin at each start among the events
abbrev pub MayStart : {M : Type 0} → Behaviour M → M → List Event → Type 0
MayStart b m [] = Unit {0}
MayStart b m (event ∷ more) = (event ≡ events.Start → b.can_start m ≡ true) × MayStart b (b.next m event) more
