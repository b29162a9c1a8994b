-- Every set that is held before a step speaks of all names of its thread.
use Rattle.std.proofs.Common.{◌≡◌, ℕ, List, length, false, refl, ◌∙◌}
use Rattle.std.proofs.lemmas.List.{length-replicate}
use Rattle.c_tree.specs.Programs.{Variable}
use Rattle.c_tree.specs.Flats as f
use Rattle.c_tree.specs.Exprs.{LockName}
use Rattle.c_tree.specs.LockNames.{Held, lock_names}
use Rattle.lock_discipline.specs.HeldSetsByStep.{HeldIn, HeldInAll, HeldInArms, HeldBefore, evaluate, store_variable, store_element, in_arms, in_otherwise}
use Rattle.lock_discipline.specs.HeldSetsByStep.{test_first, in_while, in_do, test_last, take, give, in_first, in_rest, test_arm, in_arm, in_other_arms}
use Rattle.lock_discipline.specs.HeldSetsByStep.{in_body, at_end}
use Rattle.lock_discipline.proofs.CheckerCorrectness.{keeps_length, keep_all_length}

module _ (vs : List Variable) (names : List LockName) where
  mutual
    in_length : {h k : Held} {s : f.Statement} {n : ℕ} → HeldIn vs names h s n k → length k ≡ length h
    in_length (evaluate place target value) = refl
    in_length (store_variable place name variable kind value) = refl
    in_length (store_element place name variable kind index value) = refl
    in_length (in_arms place arms otherwise p) = arms_length p
    in_length (in_otherwise place arms otherwise p) = all_length p
    in_length (test_first place condition body) = refl
    in_length (in_while place condition body p) = all_length p
    in_length (in_do place body condition p) = all_length p
    in_length (test_last place body condition p) = keep_all_length vs names p
    in_length (take place mutex) = refl
    in_length (give place mutex) = refl

    all_length : {h k : Held} {ss : f.Statements} {n : ℕ} → HeldInAll vs names h ss n k → length k ≡ length h
    all_length (in_first x rest p) = in_length p
    all_length (in_rest x rest p q) = all_length q ∙ keeps_length vs names p

    arms_length : {h k : Held} {arms : f.Arms} {n : ℕ} → HeldInArms vs names h arms n k → length k ≡ length h
    arms_length (test_arm condition body rest) = refl
    arms_length (in_arm condition body rest p) = all_length p
    arms_length (in_other_arms condition body rest p) = arms_length p

pub held_length : (x : f.Flat) (t : f.Thread) (n : ℕ) (k : Held) → HeldBefore x t n k → length k ≡ length (lock_names x t)
held_length x t n k (in_body p) = all_length x.variables (lock_names x t) p ∙ length-replicate (length (lock_names x t)) false
held_length x t n k (at_end p) = keep_all_length x.variables (lock_names x t) p ∙ length-replicate (length (lock_names x t)) false
