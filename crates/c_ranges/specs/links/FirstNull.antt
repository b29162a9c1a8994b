-- The first place where a reference may be null, as the code finds it, and which of the two faults is told.
use Rattle.std.specs.Prelude.{◌≡◌, ◌≤◌, List, [], ◌++◌, Contains, map, flat_map, nat_le, Option, Some, None, if◌then◌else◌}
use Rattle.ido_base.specs.declared.place.Place.{Place}
use Rattle.c_tree.specs.Programs as p
use Rattle.c_tree.specs.NullReferences.{statements_nulls, returned_nulls}
use Rattle.c_tree.specs.declared.program.Function as function
use Rattle.c_tree.specs.declared.program.Thread as thread
use Rattle.c_ranges.specs.declared.indexes.IndexError.{IndexError}
use Rattle.c_ranges.specs.declared.checking.RangeError.{RangeError}
use Rattle.c_ranges.specs.declared.checking.RangeError.TheVariants as error

abbrev pub functions_nulls : List function.Function → List Place
functions_nulls fs = flat_map (λ (f : p.Function). statements_nulls [] f.body ++ returned_nulls f.result) (map p.function_of fs)

abbrev pub threads_nulls : List thread.Thread → List Place
threads_nulls ts = flat_map (λ (t : p.Thread). statements_nulls [] t.body) (map p.thread_of ts)

-- the lesser of the two
abbrev pub lesser_place : Option Place → Place → Option Place
lesser_place None b = Some b
lesser_place (Some a) b = if nat_le a.0 b.0 then Some a else Some b

-- the least of the places, if there is one
abbrev pub IsLeastOf : List Place → Option Place → Type 0
IsLeastOf places None = places ≡ []
IsLeastOf places (Some a) = Contains places a × ((b : Place) → Contains places b → a.0 ≤ b.0)

-- the one of the lesser place, or the index where the places are one
abbrev pub told : Option IndexError → Option Place → Option RangeError
told None None = None
told None (Some place) = Some (error.Null place)
told (Some unfit) None = Some (error.Index unfit)
told (Some unfit) (Some place) = if nat_le unfit.place.0 place.0 then Some (error.Index unfit) else Some (error.Null place)
