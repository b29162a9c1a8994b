-- Forms in which each thread has a number for every lock that it takes.
use Rattle.std.specs.Prelude.{◌<◌, List, length}
use Rattle.std.specs.List.{AllByRecursion}
use Rattle.c_tree.specs.Exprs.{LockName}
use Rattle.c_tree.specs.Flats.{Flat, Thread}
use Rattle.c_tree.specs.LockNames.{lock_names, locks_in_all, number_in}

-- each of the others is one of the names, in some spelling
abbrev pub AreNamed : (names : List LockName) → List LockName → Type 0
AreNamed names xs = AllByRecursion (λ (x : LockName). number_in names x < length names) xs

abbrev pub HasNumbers : Flat → Thread → Type 0
HasNumbers x t = AreNamed (lock_names x t) (locks_in_all t.body)

abbrev pub HasNames : Flat → Type 0
HasNames x = AllByRecursion (HasNumbers x) x.threads
