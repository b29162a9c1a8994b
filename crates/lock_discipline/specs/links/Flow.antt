-- The sets of held names by computation: after a part that keeps the discipline, and before each of its steps.
use Rattle.std.specs.Prelude.{true, false, List, [], ◌∷◌, ◌++◌, length, replicate, slice_set}
use Rattle.c_tree.specs.Exprs as e
use Rattle.c_tree.specs.Flats as f
use Rattle.c_tree.specs.LockNames.{Held, none_held, number_in}
use Rattle.lock_discipline.specs.HeldSetsByStep.{assign_steps}

module _ (names : List e.LockName) where
  abbrev mutual
    pub held_after : Held → f.Statement → Held
    held_after h (f.Assign place target value) = h
    held_after h (f.If place arms otherwise) = held_after_all h otherwise
    held_after h (f.While place condition body) = h
    held_after h (f.Do place body condition) = h
    held_after h (f.Lock place name) = slice_set h (number_in names name) true
    held_after h (f.Unlock place name) = slice_set h (number_in names name) false

    pub held_after_all : Held → f.Statements → Held
    held_after_all h f.no_statement = h
    held_after_all h (f.statement_and x rest) = held_after_all (held_after h x) rest

  abbrev mutual
    pub sets_in : Held → f.Statement → List Held
    sets_in h (f.Assign place target value) = replicate (assign_steps target) h
    sets_in h (f.If place arms otherwise) = sets_in_arms h arms ++ sets_in_all h otherwise
    sets_in h (f.While place condition body) = h ∷ sets_in_all h body
    sets_in h (f.Do place body condition) = sets_in_all h body ++ held_after_all h body ∷ []
    sets_in h (f.Lock place name) = h ∷ []
    sets_in h (f.Unlock place name) = h ∷ []

    pub sets_in_all : Held → f.Statements → List Held
    sets_in_all h f.no_statement = []
    sets_in_all h (f.statement_and x rest) = sets_in h x ++ sets_in_all (held_after h x) rest

    pub sets_in_arms : Held → f.Arms → List Held
    sets_in_arms h f.no_arm = []
    sets_in_arms h (f.arm_and condition body rest) = h ∷ sets_in_all h body ++ sets_in_arms h rest

abbrev pub thread_sets : List e.LockName → f.Thread → List Held
thread_sets names t =
    let first = none_held (length names) in sets_in_all names first t.body ++ held_after_all names first t.body ∷ []
