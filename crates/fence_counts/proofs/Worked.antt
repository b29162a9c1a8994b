-- Worked rows: which steps of a source are logged by themselves where locals stand in the log.
use Rattle.std.proofs.Common.{◌≡◌, ℕ, List, [], ◌∷◌, replicate, None, false, refl}
use Rattle.std.specs.Prelude.{pos}
use Rattle.ido_base.specs.declared.place.Place.{Place}
use Rattle.ido_ints.specs.declared.kinds.Kind.TheVariants as kind
use Rattle.ido_ints.specs.Reduction as reduction
use Rattle.ido_ints.specs.TypedNumbers.{typed}
use Rattle.c_tree.specs.Exprs as e
use Rattle.c_tree.specs.Flats as f
use Rattle.c_tree.specs.Source.{State, source_step}
use Rattle.fence_counts.specs.LoggedSteps.{steps_logged}

abbrev here : Place
here = record { 0 = 0 }

abbrev one : e.Placed
one = record { place = here; expr = e.Constant (typed kind.Int (pos 1)) }

abbrev mutex : (number : ℕ) → e.LockName
mutex number = record { mutex = number; key = None }

abbrev sets_local : f.Statement
sets_local = f.Assign here (e.ToLocal here 0 kind.Int) one

abbrev sets_variable : f.Statement
sets_variable = f.Assign here (e.ToVariable here 0 kind.Int) one

abbrev locks : (number : ℕ) → f.Statement
locks number = f.Lock here (mutex number)

abbrev unlocks : (number : ℕ) → f.Statement
unlocks number = f.Unlock here (mutex number)

-- a thread with this to do, and two free mutexes
abbrev begun : List f.Statement → State
begun left = record {
  variables = (pos 0 ∷ []) ∷ [];
  holders = None ∷ None ∷ [];
  threads = record { left = left; locals = pos 0 ∷ []; pending = None; ended = false } ∷ [];
}

-- a local before the section isn't: of seven steps the lock, the local in the section, the store and the unlock are
one_section : steps_logged (begun (sets_local ∷ locks 0 ∷ sets_local ∷ sets_variable ∷ unlocks 0 ∷ [])) (replicate 7 0) 0 ≡ 4
unfolding source_step reduction.from_least_on reduction.residue
one_section = refl

-- two stores of a section are two
two_stores : steps_logged (begun (locks 0 ∷ sets_local ∷ sets_variable ∷ sets_variable ∷ unlocks 0 ∷ [])) (replicate 8 0) 0 ≡ 5
unfolding source_step reduction.from_least_on reduction.residue
two_stores = refl

-- a local is logged as long as one of the mutexes is held
still_held : steps_logged (begun (locks 0 ∷ locks 1 ∷ unlocks 0 ∷ sets_local ∷ unlocks 1 ∷ sets_local ∷ [])) (replicate 7 0) 0 ≡ 5
unfolding source_step reduction.from_least_on reduction.residue
still_held = refl

-- steps of another thread aren't counted
another_thread : steps_logged (begun (locks 0 ∷ sets_variable ∷ unlocks 0 ∷ [])) (replicate 5 0) 1 ≡ 0
unfolding source_step reduction.from_least_on reduction.residue
another_thread = refl
