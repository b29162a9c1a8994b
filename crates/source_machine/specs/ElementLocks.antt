-- Which lock guards an element of a variable, and the number that an element has.
use Rattle.std.specs.Prelude.{ℕ, ◌+◌, List, [], slice_get, slice_index_or, Option, ℤ}
use Rattle.c_tree.specs.Programs.{Variable, Guard, By, Each}
use Rattle.c_tree.specs.LockDiscipline.{variable_guard}

-- the lock of an element: under one mutex that one for all of them, under an array of mutexes the one of the element's number
abbrev pub lock_under : Guard → (element : ℕ) → ℕ
lock_under (By mutex) element = mutex
lock_under (Each first) element = first + element

-- the lock that guards the element
unfoldable pub element_lock : List Variable → (variable element : ℕ) → ℕ
element_lock vs variable element = lock_under (variable_guard vs variable) element

-- the number of a variable's element, where the variable has that element
abbrev pub found_number : (variables : List (List ℤ)) → (variable element : ℕ) → Option ℤ
found_number variables variable element = slice_get (slice_index_or variables variable []) element
