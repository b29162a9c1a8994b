-- The first thread of some that costs too much.
use Rattle.std.specs.Prelude.{◌≡◌, ◌<◌, [], List, Option, Some, find, map, nat_lt}
use Rattle.std.specs.Option.{option_map}
use Rattle.ido_base.specs.declared.place.Place.{Place}
use Rattle.ido_base.specs.declared.limits.TheConstants.{MOST_PRICE}
use Rattle.c_tree.specs.declared.language.Language.{Language}
use Rattle.c_tree.specs.Programs as p
use Rattle.c_tree.specs.Inlining.{flat_thread}
use Rattle.c_tree.specs.Flats as f
use Rattle.c_tree.specs.HoldPrices.{full_price}
use Rattle.c_inline.specs.declared.inline.InlineError.{InlineError}
use Rattle.c_inline.specs.declared.inline.InlineError.TheVariants as e

-- all of a form that prices ask for
abbrev pub form_with : List p.Mutex → f.Flat
form_with ms = record { mutexes = ms; variables = []; threads = [] }

-- the name of the first of these threads whose price is too high
abbrev pub fault_among : Language → List p.Mutex → List p.Function → List p.Thread → Option Place
fault_among l ms fs threads = option_map (λ (t : f.Thread). t.name.place)
    (find (λ (t : f.Thread). nat_lt MOST_PRICE (full_price l (form_with ms) t)) (map (flat_thread fs) threads))

-- of a thread: only that it costs too much is told, by its name, or want of memory
abbrev pub IsDear : Language → List p.Mutex → f.Thread → InlineError → Type 0
IsDear l ms t (e.Code place) = (place ≡ t.name.place) × (MOST_PRICE < full_price l (form_with ms) t)
IsDear l ms t (e.Recursion place) = ⊥
IsDear l ms t e.Memory = Unit {0}

-- of threads: only the first that costs too much is told, or want of memory
abbrev pub IsThreadFault : Language → List p.Mutex → List p.Function → List p.Thread → InlineError → Type 0
IsThreadFault l ms fs threads (e.Code place) = fault_among l ms fs threads ≡ Some place
IsThreadFault l ms fs threads (e.Recursion place) = ⊥
IsThreadFault l ms fs threads e.Memory = Unit {0}
