-- Well formed forms have a number for each lock that a thread takes.
use Rattle.std.proofs.Common.{List, [], ◌∷◌, ◌++◌}
use Rattle.std.specs.List.{AllByRecursion}
use Rattle.ido_ints.specs.declared.kinds.Kind.{Kind}
use Rattle.c_tree.specs.Exprs as e
use Rattle.c_tree.specs.Flats as f
use Rattle.c_tree.specs.LockNames.{locks_in, locks_in_all, locks_in_arms}
use Rattle.c_tree.specs.WellFormed.{IsFlatLockName, IsFlatStatement, AreFlatStatements, AreFlatArms}
use Rattle.c_tree.proofs.Public.{names_numbered}
use Rattle.lock_discipline.specs.NamedForms.{HasNumbers}
use Rattle.lock_discipline.specs.FormLaws.{WellFormedHasNames}

module _ (x : f.Flat) (ks : List Kind) where
  abbrev AreFormed : List e.LockName → Type 0
  AreFormed xs = AllByRecursion (IsFlatLockName x.mutexes ks) xs

  both : (xs ys : List e.LockName) → AreFormed xs → AreFormed ys → AreFormed (xs ++ ys)
  both [] ys p q = q
  both (y ∷ xs) ys p q = (p.0, both xs ys p.1 q)

  -- each name that a well formed statement locks is formed
  mutual
    formed : (s : f.Statement) → IsFlatStatement x ks s → AreFormed (locks_in s)
    formed (f.Assign place target value) w = tt
    formed (f.If place arms otherwise) w = both (locks_in_arms arms) (locks_in_all otherwise) (formed_arms arms w.1) (formed_all otherwise w.2)
    formed (f.While place condition body) w = formed_all body w.1
    formed (f.Do place body condition) w = formed_all body w.0
    formed (f.Lock place lock) w = (w, tt)
    formed (f.Unlock place lock) w = tt

    formed_all : (ss : f.Statements) → AreFlatStatements x ks ss → AreFormed (locks_in_all ss)
    formed_all f.no_statement w = tt
    formed_all (f.statement_and s rest) w = both (locks_in s) (locks_in_all rest) (formed s w.0) (formed_all rest w.1)

    formed_arms : (arms : f.Arms) → AreFlatArms x ks arms → AreFormed (locks_in_arms arms)
    formed_arms f.no_arm w = tt
    formed_arms (f.arm_and condition body rest) w = both (locks_in_all body) (locks_in_arms rest) (formed_all body w.1) (formed_arms rest w.2)

numbered : (x : f.Flat) (ts : List f.Thread) → AllByRecursion (λ (t : f.Thread). AreFlatStatements x t.locals t.body) ts → AllByRecursion (HasNumbers x) ts
numbered x [] p = tt
numbered x (t ∷ ts) p = (names_numbered x.mutexes t.locals (locks_in_all t.body) (formed_all x t.locals t.body p.0), numbered x ts p.1)

pub well_formed_has_names : WellFormedHasNames
well_formed_has_names x w = numbered x x.threads w.threads
