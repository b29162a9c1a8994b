-- Elements that have a lock of their own: by which name of a thread they are guarded, and what the names that a thread holds name.
use Rattle.std.specs.Prelude.{ℕ, List, length, slice_get, Option, Some, None, Bool, true, false, nat_lt, ◌==◌, ◌&&◌, if◌then◌else◌, ℤ}
use Rattle.std.specs.Option.{option_map}
use Rattle.c_tree.specs.Exprs as e
use Rattle.c_tree.specs.Programs.{Variable, Guard, By, Each}
use Rattle.c_tree.specs.Values.{key_element}
use Rattle.c_tree.specs.LockNames.{Held, holds, number_in}
use Rattle.c_tree.specs.LockDiscipline.{variable_guard, name_under}

-- the number of the name whose lock guards the element at the index, if each element has a lock of its own and the name is in the table
abbrev pub key_number : List e.LockName → Guard → (index : e.Placed) → Option ℕ
key_number names (By mutex) index = None
key_number names (Each first) index =
    let n = number_in names (name_under (Each first) (Some index)) in if nat_lt n (length names) then Some n else None

-- the name is one of the array's that guards each element
abbrev pub is_key_of : Guard → e.LockName → Bool
is_key_of (By mutex) x = false
is_key_of (Each first) x = first == x.mutex

-- the element that a name names, if it is held
abbrev pub named_by : Guard → (held : Bool) → (locals : List ℤ) → Option e.LockName → Option ℕ
named_by guard held ls None = None
named_by guard held ls (Some x) = if held && is_key_of guard x then option_map (key_element ls) x.key else None

-- of each variable which element the key of this number names, where locals have these numbers: by all names, held or not
abbrev pub names_in : List Variable → List e.LockName → (locals : List ℤ) → (variable key : ℕ) → Option ℕ
names_in vs names ls variable key = named_by (variable_guard vs variable) true ls (slice_get names key)

-- and by those that are held
abbrev pub names_by : List Variable → List e.LockName → Held → (locals : List ℤ) → (variable key : ℕ) → Option ℕ
names_by vs names h ls variable key = named_by (variable_guard vs variable) (holds h key) ls (slice_get names key)
