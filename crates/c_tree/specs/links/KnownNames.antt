-- Names of locks as they are found, one after another.
use Rattle.std.specs.Prelude.{ℕ, List, [], ◌∷◌, ◌++◌, ◌==◌, filter, map, reverse, Option, Some, None}
use Rattle.c_tree.specs.Exprs.{LockName, lock_ref_of}
use Rattle.c_tree.specs.declared.expr.LockRef.{LockRef}
use Rattle.c_tree.specs.LockNames.{once}

abbrev pub names_of : List LockRef → List LockName
names_of xs = map lock_ref_of xs

-- the names that are known, and those of the list that are new, each once
abbrev pub known_then : List LockName → List LockName → List LockName
known_then known xs = known ++ once (reverse known) xs

-- the names of the mutex of that number, where its array has so many elements
abbrev pub names_at : (number : ℕ) → (count : Option ℕ) → (known : List LockName) → List LockName
names_at n None known = record { mutex = n; key = None } ∷ []
names_at n (Some count) known = filter (λ (x : LockName). x.mutex == n) known
