-- The first index that doesn't fit, as the code finds it.
use Rattle.std.specs.Prelude.{ℕ, List, [], ◌∷◌, ◌++◌, map, flat_map, nat_le, Option, Some, None, if◌then◌else◌}
use Rattle.ido_base.specs.declared.place.Place.{Place}
use Rattle.c_tree.specs.Exprs as e
use Rattle.c_tree.specs.Programs as p
use Rattle.c_tree.specs.Ranges.{Interval, Index, range_of, is_below, statements_indexes, returned_indexes, indexed}
use Rattle.c_tree.specs.declared.program.Function as function
use Rattle.c_tree.specs.declared.program.Thread as thread
use Rattle.c_ranges.specs.declared.interval.Interval.{Interval as Range}
use Rattle.c_ranges.specs.declared.indexes.IndexError.{IndexError}

abbrev pub functions_indexes : List function.Function → List Index
functions_indexes fs = flat_map (λ (f : p.Function). statements_indexes f.body ++ returned_indexes f.result) (map p.function_of fs)

abbrev pub threads_indexes : List thread.Thread → List Index
threads_indexes ts = flat_map (λ (t : p.Thread). statements_indexes t.body) (map p.thread_of ts)

abbrev pub range_in : Interval → Range
range_in i = record { lo = i.lo; hi = i.hi }

-- of an index into so many elements
abbrev pub error_at : (elements : ℕ) → Place → e.Expr → IndexError
error_at elements place x = record { place = place; range = range_in (range_of x); length = elements }

abbrev pub fault_at : (elements : ℕ) → Place → e.Expr → Option IndexError
fault_at elements place x = if is_below x elements then None else Some (error_at elements place x)

abbrev pub elements_for : p.Program → Index → ℕ
elements_for x i = indexed x.variables x.mutexes i.of

abbrev pub fault_of : p.Program → Index → Option IndexError
fault_of x i = fault_at (elements_for x i) i.place i.expr

-- the one of the lesser place, or the first where the places are one
abbrev pub earlier : Option IndexError → Option IndexError → Option IndexError
earlier None second = second
earlier (Some a) None = Some a
earlier (Some a) (Some b) = if nat_le a.place.0 b.place.0 then Some a else Some b

unfoldable pub first_fault : p.Program → List Index → Option IndexError
first_fault x [] = None
first_fault x (i ∷ rest) = earlier (fault_of x i) (first_fault x rest)
