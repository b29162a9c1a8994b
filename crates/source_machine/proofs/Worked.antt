-- Worked rows: which lock guards an element, and who holds it.
use Rattle.std.proofs.Common.{◌≡◌, List, [], ◌∷◌, Some, None, refl, ℤ}
use Rattle.std.specs.Prelude.{pos}
use Rattle.ido_ints.specs.declared.kinds.Kind.TheVariants as kind
use Rattle.c_tree.specs.Trees.{Name}
use Rattle.c_tree.specs.Programs.{Mutex, Variable, By, Each}
use Rattle.c_tree.specs.Flats as f
use Rattle.c_tree.specs.Source.{State}
use Rattle.source_machine.specs.ElementLocks.{element_lock, found_number}
use Rattle.source_machine.specs.Discipline.{Guards, IsSameElement}

abbrev name : Name
name = record { text = []; place = record { 0 = 0 } }

-- an array of two elements, guarded by the second mutex, and a variable guarded by the first
abbrev variables : List Variable
variables = record { name = name; guard = By 1; kind = kind.Int; refers = None; length = Some 2; initial = pos 5 ∷ pos 6 ∷ [] }
    ∷ record { name = name; guard = By 0; kind = kind.Int; refers = None; length = None; initial = pos 7 ∷ [] } ∷ []

abbrev mutex : Mutex
mutex = record { name = name; length = None }

abbrev x : f.Flat
x = record { mutexes = mutex ∷ mutex ∷ []; variables = variables; threads = [] }

-- the numbers of the elements, where thread 3 has the second mutex
abbrev state : List (List ℤ) → State
state numbers = record { variables = numbers; holders = None ∷ Some 3 ∷ []; threads = [] }

abbrev before : State
before = state ((pos 5 ∷ pos 6 ∷ []) ∷ (pos 7 ∷ []) ∷ [])

abbrev after : State
after = state ((pos 5 ∷ pos 8 ∷ []) ∷ (pos 7 ∷ []) ∷ [])

-- ---- Locks

last_of_array : element_lock variables 0 1 ≡ 1
unfolding element_lock
last_of_array = refl

of_variable : element_lock variables 1 0 ≡ 0
unfolding element_lock
of_variable = refl

holder_guards : Guards x before 3 0 1
unfolding element_lock
holder_guards = refl

-- thread 2 has no mutex
others_guard_nothing : ¬ (Guards x before 2 0 1)
unfolding element_lock
others_guard_nothing h = cc

-- thread 3 hasn't the first mutex
none_guards_free : ¬ (Guards x before 3 1 0)
unfolding element_lock
none_guards_free h = cc

-- an array of four elements, under the second mutex and those after it
abbrev each : List Variable
each = record { name = name; guard = Each 1; kind = kind.Int; refers = None; length = Some 4; initial = pos 0 ∷ pos 0 ∷ pos 0 ∷ pos 0 ∷ [] } ∷ []

first_of_each : element_lock each 0 0 ≡ 1
unfolding element_lock
first_of_each = refl

last_of_each : element_lock each 0 3 ≡ 4
unfolding element_lock
last_of_each = refl

-- ---- Numbers

last_number : found_number before.variables 0 1 ≡ Some (pos 6)
last_number = refl

past_end : found_number before.variables 0 2 ≡ None
past_end = refl

no_variable : found_number before.variables 2 0 ≡ None
no_variable = refl

-- one element of an array changes, and the other doesn't
first_stays : IsSameElement before after 0 0
first_stays = refl

second_changes : ¬ (IsSameElement before after 0 1)
second_changes h = cc
