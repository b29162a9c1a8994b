-- What a hart has done to each byte first: it has loaded it, or stored to it.
-- That is since it has stored its point last, or since the last crash or start, if that is later. After a crash it completes no instruction before it is
-- resumed, so after a crash it is since then.
use Rattle.std.specs.Prelude.{ℕ, ◌+◌, List, [], ◌∷◌, Option, Some, None, Bool, true, false, ◌&&◌, nat_le, nat_lt, if◌then◌else◌}
use Rattle.machine_events.specs.declared.event.Event.{Event}
use Rattle.machine_events.specs.declared.event.Event.TheVariants.{Step, Evict, Crash, Start}
use Rattle.rv64_isa.specs.declared.object.Slot.{Slot}
use Rattle.rv64_isa.specs.Rows.{Effect, Continues, Loads, Stores, Cleans, Fences, Calls}
use Rattle.machine_model.specs.Machine.{World, after_event, can_start}
use Rattle.machine_model.specs.Schedule.{completes, stores_point}

pub data Access : Type 0 where
  load : Access
  store : Access

-- the byte is one of so many from the address on
abbrev pub is_among : (address bytes byte : ℕ) → Bool
is_among address bytes byte = nat_le address byte && nat_lt byte (address + bytes)

abbrev pub loads_from : (byte : ℕ) → Effect → Bool
loads_from byte (Loads address bytes signed register) = is_among address bytes byte
loads_from byte (Continues registers pc) = false
loads_from byte (Stores address bytes value) = false
loads_from byte (Cleans address) = false
loads_from byte Fences = false
loads_from byte Calls = false

abbrev pub stores_to : (byte : ℕ) → Effect → Bool
stores_to byte (Stores address bytes value) = is_among address bytes byte
stores_to byte (Continues registers pc) = false
stores_to byte (Loads address bytes signed register) = false
stores_to byte (Cleans address) = false
stores_to byte Fences = false
stores_to byte Calls = false

-- the first one, where there was that before
abbrev pub first_of : (before : Option Access) → (loads stores : Bool) → Option Access
first_of (Some access) loads stores = Some access
first_of None true stores = Some load
first_of None false true = Some store
first_of None false false = None

-- the first access of hart h to the byte after the event, where that was it before
abbrev pub first_access_after : List (List Slot) → World → Event → (h byte : ℕ) → (before : Option Access) → Option Access
first_access_after program w (Step g) h byte before =
    if stores_point program w (Step g) h then None else
    first_of before (completes (loads_from byte) program w (Step g) h) (completes (stores_to byte) program w (Step g) h)
first_access_after program w (Evict line mask) h byte before = before
first_access_after program w Crash h byte before = None
first_access_after program w Start h byte before = if can_start w then None else before

abbrev pub first_access_along : List (List Slot) → World → List Event → (h byte : ℕ) → (before : Option Access) → Option Access
first_access_along program w [] h byte before = before
first_access_along program w (event ∷ events) h byte before =
    first_access_along program (after_event program w event) events h byte (first_access_after program w event h byte before)

-- that access after the events, if there was one
abbrev pub first_access : List (List Slot) → World → List Event → (h byte : ℕ) → Option Access
first_access program w events h byte = first_access_along program w events h byte None
