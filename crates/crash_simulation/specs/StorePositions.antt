-- Where in the pasts of words a hart has stored last.
use Rattle.std.specs.Prelude.{ℕ, List, [], ◌∷◌, Option, Some, None, Bool, false, ◌==◌, if◌then◌else◌}
use Rattle.machine_events.specs.declared.event.Event.{Event}
use Rattle.machine_events.specs.declared.event.Event.TheVariants.{Step, Evict, Crash, Start}
use Rattle.ido_base.specs.Words.{word_at, last_position}
use Rattle.ido_base.specs.Layout.{word_number}
use Rattle.rv64_isa.specs.declared.object.Slot.{Slot}
use Rattle.rv64_isa.specs.Rows.{Effect, Continues, Loads, Stores, Cleans, Fences, Calls}
use Rattle.machine_model.specs.Machine.{World, after_event, can_start}
use Rattle.machine_model.specs.Schedule.{completes}

-- stores into the word of that number
abbrev pub stores_into : (word : ℕ) → Effect → Bool
stores_into word (Stores address bytes value) = word_number address == word
stores_into word (Continues registers pc) = false
stores_into word (Loads address bytes signed register) = false
stores_into word (Cleans address) = false
stores_into word Fences = false
stores_into word Calls = false

-- the position of the last value that hart h has stored into the word since the last start or crash, after the event, where it was that before
abbrev pub last_store_after : List (List Slot) → World → Event → (h word : ℕ) → (before : Option ℕ) → Option ℕ
last_store_after program w (Step g) h word before =
    if completes (stores_into word) program w (Step g) h then Some (last_position (word_at (after_event program w (Step g)).words word)) else before
last_store_after program w (Evict line mask) h word before = before
last_store_after program w Crash h word before = None
last_store_after program w Start h word before = if can_start w then None else before

abbrev pub last_store_along : List (List Slot) → World → List Event → (h word : ℕ) → (before : Option ℕ) → Option ℕ
last_store_along program w [] h word before = before
last_store_along program w (event ∷ events) h word before =
    last_store_along program (after_event program w event) events h word (last_store_after program w event h word before)

-- that position after the events, if it has stored into the word
abbrev pub last_store : List (List Slot) → World → List Event → (h word : ℕ) → Option ℕ
last_store program w events h word = last_store_along program w events h word None
