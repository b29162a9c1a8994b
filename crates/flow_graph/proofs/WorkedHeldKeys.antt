-- Worked rows: keys of locations, and what held keys name.
use Rattle.std.proofs.Common.{◌≡◌, ℕ, List, [], ◌∷◌, map, replicate, Option, Some, None, true, false, refl}
use Rattle.std.specs.Prelude.{pos, codes}
use Rattle.std.specs.Option.{option_map}
use Rattle.ido_base.specs.declared.place.Place.{Place}
use Rattle.ido_base.specs.declared.location.Location.{Location}
use Rattle.ido_base.specs.Locations.{overlap, same}
use Rattle.ido_ints.specs.declared.kinds.Kind.TheVariants as kind
use Rattle.ido_ints.specs.declared.operators.Binary.TheVariants as b
use Rattle.ido_ints.specs.TypedNumbers.{typed}
use Rattle.ido_ints.specs.Reduction.{residue, from_least_on}
use Rattle.c_tree.specs.Exprs as e
use Rattle.c_tree.specs.Programs.{Mutex, Variable, By, Each}
use Rattle.c_tree.specs.Flats as f
use Rattle.flow_graph.specs.HeldKeys.{key_number, names_by}
use Rattle.flow_graph.specs.Nodes.{Node}
use Rattle.flow_graph.specs.Lowering.{Table, elements, lowered}

abbrev at : ℕ → Place
at place = record { 0 = place }

abbrev local : ℕ → (place : ℕ) → e.Placed
local n place = record { place = at place; expr = e.Local n kind.Int }

abbrev next : ℕ → (place : ℕ) → e.Placed
next n place = record { place = at place; expr = e.Binary b.Add (e.Local n kind.Int) (e.Constant (typed kind.Int (pos 1))) }

-- a mutex, and of an array of four mutexes from number 1 on the elements i and i + 1, where i is local 0
abbrev names : List e.LockName
names =
    record { mutex = 0; key = None } ∷ record { mutex = 1; key = Some (local 0 10) } ∷ record { mutex = 1; key = Some (next 0 20) } ∷ []

-- a variable under the mutex, and an array each of whose elements is under one of the array's
abbrev variables : List Variable
variables =
    record { name = record { text = codes "x"; place = at 1 }; guard = By 0; kind = kind.Int; refers = None; length = Some 4; initial = replicate 4 (pos 0) } ∷
    record {
      name = record { text = codes "a"; place = at 2 };
      guard = Each 1;
      kind = kind.Int;
      refers = None;
      length = Some 4;
      initial = replicate 4 (pos 0);
    } ∷ []

-- the spelling of the index at another place is the same name
one_key : key_number names (Each 1) (local 0 30) ≡ Some 1
one_key = refl

other_key : key_number names (Each 1) (next 0 30) ≡ Some 2
other_key = refl

-- no lock of the thread has that name
no_key : key_number names (Each 1) (local 1 30) ≡ None
no_key = refl

-- all elements are under one mutex
plain_key : key_number names (By 0) (local 0 30) ≡ None
plain_key = refl

-- ---- With i = 2, and all three held

names_first : names_by variables names (true ∷ true ∷ true ∷ []) (pos 2 ∷ []) 1 1 ≡ Some 2
names_first = refl

names_second : names_by variables names (true ∷ true ∷ true ∷ []) (pos 2 ∷ []) 1 2 ≡ Some 3
unfolding residue from_least_on
names_second = refl

-- the name of the mutex names no element, and no key names one of what is under the mutex
names_none : names_by variables names (true ∷ true ∷ true ∷ []) (pos 2 ∷ []) 1 0 ≡ None
names_none = refl

names_other_variable : names_by variables names (true ∷ true ∷ true ∷ []) (pos 2 ∷ []) 0 1 ≡ None
names_other_variable = refl

-- a key that isn't held names nothing
names_unheld : names_by variables names (true ∷ true ∷ false ∷ []) (pos 2 ∷ []) 1 2 ≡ None
names_unheld = refl

-- ---- Locations: indexes that are one typed tree have one key

abbrev table : Table
table = record { variables = variables; names = names }

elements_keyed : elements table 1 (local 0 30) ≡ record { variable = 1; lo = 0; hi = 2147483647; key = Some 1 }
unfolding residue from_least_on
elements_keyed = refl

-- at another place it is the same element
one_element : same (elements table 1 (local 0 30)) (elements table 1 (local 0 40)) ≡ true
unfolding residue from_least_on
one_element = refl

one_overlaps : overlap (elements table 1 (local 0 30)) (elements table 1 (local 0 40)) ≡ true
unfolding residue from_least_on
one_overlaps = refl

-- `a[i]` and `a[i + 1]` are two
two_elements : overlap (elements table 1 (local 0 30)) (elements table 1 (next 0 40)) ≡ false
unfolding residue from_least_on
two_elements = refl

-- no lock of the thread has that name, and one mutex guards the other variable
unnamed : (elements table 1 (local 1 30)).key ≡ None
unnamed = refl

unkeyed : (elements table 0 (local 0 30)).key ≡ None
unkeyed = refl

-- ---- `lock(m[i]); a[i] = a[i] + 1; unlock(m[i]);`

abbrev of_array : Mutex
of_array = record { name = record { text = codes "m"; place = at 4 }; length = Some 4 }

abbrev key_at : (place : ℕ) → e.LockName
key_at place = record { mutex = 1; key = Some (local 0 place) }

abbrev read_here : e.Expr
read_here = e.Element (at 26) 1 kind.Int (at 28) (e.Local 0 kind.Int)

abbrev section : f.Flat
section = record {
  mutexes = record { name = record { text = codes "n"; place = at 3 }; length = None } ∷ of_array ∷ of_array ∷ of_array ∷ of_array ∷ [];
  variables = variables;
  threads = record {
    name = record { text = codes "t"; place = at 5 };
    locals = kind.Int ∷ [];
    refers = None ∷ [];
    body = f.statement_and (f.Lock (at 10) (key_at 12)) (f.statement_and
        (f.Assign (at 20) (e.ToElement (at 20) 1 kind.Int (local 0 22)) (record {
          place = at 26;
          expr = e.Binary b.Add read_here (e.Constant (typed kind.Int (pos 1)));
        }))
        (f.statement_and (f.Unlock (at 40) (key_at 42)) f.no_statement));
    closing = at 50;
  } ∷ [];
}

abbrev keys_of : List Location → List (Option ℕ)
keys_of ls = map (λ (l : Location). l.key) ls

section_uses : map (λ (n : Node). n.uses) (lowered section).nodes ≡ (0 ∷ []) ∷ (0 ∷ 0 ∷ []) ∷ [] ∷ (0 ∷ []) ∷ [] ∷ []
unfolding lowered
section_uses = refl

section_reads : map (λ (n : Node). keys_of n.reads) (lowered section).nodes ≡ [] ∷ (Some 1 ∷ []) ∷ [] ∷ [] ∷ [] ∷ []
unfolding lowered
section_reads = refl

section_writes : map (λ (n : Node). option_map (λ (l : Location). l.key) n.writes) (lowered section).nodes ≡ None ∷ None ∷ Some (Some 1) ∷ None ∷ None ∷ []
unfolding lowered
section_writes = refl
