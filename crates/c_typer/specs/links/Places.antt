-- Where names stand: in a table of places, and in a row.
use Rattle.std.specs.Prelude.{ℕ, suc, List, [], ◌∷◌, length, cond, Option, Some, None}
use Rattle.std.specs.Option.{option_map, option_flatten}
use Rattle.c_tree.specs.Names.{same_name}
use Rattle.indexmap.specs.IndexMap.{get_by}
use Rattle.c_typer.specs.declared.names.Places.{Places}

-- the place of a name in a table
abbrev pub place_of : Places → List ℕ → Option ℕ
place_of x name = option_flatten (get_by (λ k. same_name name k.items) x.by_name)

-- the place of the first of these names that is the name
abbrev pub first_place : List ℕ → List (List ℕ) → Option ℕ
first_place name [] = None
first_place name (x ∷ xs) = cond (same_name x name) (Some 0) (option_map suc (first_place name xs))

-- the place of the last of these names that is the name, where the last one stands first and places are counted from the end
abbrev pub last_place : List ℕ → List (List ℕ) → Option ℕ
last_place name [] = None
last_place name (x ∷ xs) = cond (same_name x name) (Some (length xs)) (last_place name xs)

-- for each of these names the last place before its own at which it stands too
abbrev pub places_before : List (List ℕ) → List (Option ℕ)
places_before [] = []
places_before (x ∷ xs) = last_place x xs ∷ places_before xs
