-- Worked rows of checks: locks by keys, words of the frame, what a bank is told, words of references, and references among variables.
use Rattle.std.proofs.Common.{◌≡◌, ◌==◌, refl, ℕ, ◌≤◌, List, [], ◌∷◌, ◌++◌, arith, cond, replicate, Some, None, true, false}
use Rattle.std.specs.Prelude.{map, pos, ◌≤ℤ◌}
use Rattle.std.proofs.lemmas.Int.{ints}
use Rattle.ido_base.specs.declared.place.Place.{Place}
use Rattle.ido_ints.specs.declared.kinds.Kind.TheVariants.{Long, UnsignedChar, UnsignedLong}
use Rattle.ido_ints.specs.Reduction.{from_least_on}
use Rattle.c_tree.specs.Exprs as e
use Rattle.c_tree.specs.Flats.{Flat}
use Rattle.c_tree.specs.Programs as p
use Rattle.c_tree.specs.Trees.{Name}
use Rattle.c_tree.specs.Values.{element_number, lock_number}
use Rattle.c_ranges.specs.Laws.{IsNullOrReference}
use Rattle.variable_words.specs.Variables.{durable_variables}
use Rattle.flat_compile.specs.declared.resumes.LiveLocal.{LiveLocal}
use Rattle.image_checks.specs.Checks.{IsReferenceWord, IsUnnull, bytes_next, home_number}
use Rattle.log_schemes.specs.declared.log.Log.TheVariants.{V2, Justdo}
use Rattle.log_schemes.specs.Schemes.{locals_of, told}
use Rattle.image_checks.specs.Logs.{AreOnce, HavePairs, Lists, home_in, locals_by, logs_of, names_at}
use Rattle.image_checks.specs.VariableReferences.{IsNumberRight, numbers_in}

abbrev at : ℕ → Place
at place = record { 0 = place }

abbrev name : (text : List ℕ) → (place : ℕ) → Name
name text place = record { text = text; place = at place }

-- ---- `mutex n; mutex m[4];`, and `m[i]`, where `i` is the first local, an `unsigned char`

abbrev names : List e.LockName
names =
    record { mutex = 0; key = None }
    ∷ record { mutex = 1; key = Some (record { place = at 1; expr = e.Local 0 UnsignedChar }) } ∷ []

abbrev index : LiveLocal
index = record { colour = 5; local = 0; kind = UnsignedChar; refers = None; known = false }

-- the home of colour 5 has 258, which is 2 as an `unsigned char`
abbrev home : ℕ → ℕ
home k = cond (k == 5) 258 0

-- and two locks are listed
abbrev slot : ℕ → ℕ
slot k = cond (k == 0) 2 (cond (k == 33) 3 0)

of_a_live_local : locals_by home (index ∷ []) 2 ≡ pos 2 ∷ pos 0 ∷ []
unfolding from_least_on
of_a_live_local = refl

by_keys : map (lock_number (locals_by home (index ∷ []) 2)) (names_at names (0 ∷ 1 ∷ [])) ≡ 0 ∷ 3 ∷ []
unfolding from_least_on
by_keys = refl

as_listed : Lists V2 slot (0 ∷ 3 ∷ [])
as_listed = (refl, (refl, (refl, tt)))

-- no more names are there
past_the_names : names_at names (2 ∷ []) ≡ []
past_the_names = refl

stands_twice : ¬ (AreOnce (3 ∷ 3 ∷ []))
stands_twice once = let same : 0 ≡ 1 = once 0 1 3 refl refl in omega (arith, same)

-- ---- Where locals stand in the frame

-- its first word is the 65th of the log
first_word : home_in (logs_of Justdo (replicate 64 0 ++ 7 ∷ [])) 0 0 0 ≡ 7
unfolding home_in
first_word = refl

told_as_register : home_number (locals_of V2) 2 ≡ 11
told_as_register = refl

told_as_word : home_number (locals_of Justdo) 2 ≡ 34
told_as_word = refl

-- eight bytes are told, though nothing is written next
nothing_comes : ¬ (HavePairs (λ k. cond (k == 3) 8 0) (told Justdo (bytes_next [] None None)))
nothing_comes (address, (value, (bytes, rest))) = let wrong : 8 ≡ 0 = bytes in omega (arith, wrong)

-- a local is: of which address and value nothing is said here
a_local_comes : HavePairs (λ k. cond (k == 3) 8 5) (told Justdo (bytes_next [] None (Some index)))
a_local_comes = (refl, tt)

-- ---- `long a[4]; ref(a) h;`

abbrev array : p.Variable
array = record {
  name = name (97 ∷ []) 0;
  guard = p.By 0;
  kind = Long;
  refers = None;
  length = Some 4;
  initial = pos 0 ∷ pos 0 ∷ pos 0 ∷ pos 0 ∷ [];
}

abbrev cell : p.Variable
cell = record { name = name (104 ∷ []) 1; guard = p.By 0; kind = UnsignedLong; refers = Some 0; length = None; initial = pos 0 ∷ [] }

abbrev flat : Flat
flat = record { mutexes = record { name = name (109 ∷ []) 2; length = None } ∷ []; variables = array ∷ cell ∷ []; threads = [] }

-- the last element's word, and one past it
last_word : IsReferenceWord flat.variables (Some 0) 4
last_word = omega arith

past_word : ¬ (IsReferenceWord flat.variables (Some 0) 5)
past_word h = let few : 5 ≤ 4 = h in omega (arith, few)

null_word : ¬ (IsUnnull true 0)
null_word h = h refl

led_to : element_number (numbers_in flat (10 ∷ 20 ∷ 30 ∷ 40 ∷ 3 ∷ [])) 1 0 ≡ pos 3
unfolding durable_variables from_least_on
led_to = refl

three : IsNullOrReference 4 (pos 3)
three = record {
  held = record { from_least = omega (arith, ints); to_greatest = omega (arith, ints) };
  names = record { from_low = omega (arith, ints); to_high = omega (arith, ints) };
}

is_right : IsNumberRight flat (10 ∷ 20 ∷ 30 ∷ 40 ∷ 3 ∷ []) 1 0
unfolding durable_variables from_least_on
is_right = three

is_outside : ¬ (IsNumberRight flat (10 ∷ 20 ∷ 30 ∷ 40 ∷ 5 ∷ []) 1 0)
unfolding durable_variables from_least_on
is_outside h = let high : pos 5 ≤ℤ pos 4 = h.names.to_high in omega (arith, ints, high)

-- any number of what refers to nothing, and past the elements there is none
is_any : IsNumberRight flat (10 ∷ 20 ∷ 30 ∷ 40 ∷ 3 ∷ []) 0 3
is_any = tt
