-- What is left to do keeps the discipline too.
use Rattle.std.proofs.Common.{◌≡◌, refl, List, [], ◌∷◌, ◌++◌, sym, subst, Bool, true, false, Some, slice_set}
use Rattle.std.specs.Prelude.{slice_get}
use Rattle.ido_base.specs.declared.place.Place.{Place}
use Rattle.c_tree.specs.Exprs as e
use Rattle.c_tree.specs.Programs.{Variable}
use Rattle.c_tree.specs.Flats as f
use Rattle.c_tree.specs.Source.{opened, opened_all, tested}
use Rattle.c_tree.specs.LockDiscipline as l
use Rattle.source_machine.specs.Discipline.{KeepList}
use Rattle.c_tree.specs.LockNames.{Held, holds, number_in}
use Rattle.c_tree.specs.LockDiscipline.{expr_uses, assign_uses, AreGuarded, IsFree, Keeps, KeepAll, KeepArms}

module _ (vs : List Variable) (names : List e.LockName) where
  -- one list after another
  pub keep_append : (xs ys : List f.Statement) (h between after : Held) → KeepList vs names h xs between → KeepList vs names between ys after →
      KeepList vs names h (xs ++ ys) after
  keep_append [] ys h between after a b = subst (λ (z : Held). KeepList vs names z ys after) (sym a) b
  keep_append (x ∷ xs) ys h between after a b = (a.0, a.1, keep_append xs ys a.0 between after a.2 b)

  -- ---- What a body opens to

  mutual
    -- a statement
    keep_opened : {h after : Held} {s : f.Statement} → Keeps vs names h s after → KeepList vs names h (opened s) after
    keep_opened (l.assign {h = h} place target value g free) = (h, l.assign place target value g free, refl)
    keep_opened (l.choose {h = h} {after = after} place arms otherwise p q) = (after, l.choose place arms otherwise p q, refl)
    keep_opened (l.repeat {h = h} place condition body g p) = (h, l.repeat place condition body g p, refl)
    keep_opened (l.again {h = h} place body condition p g) = keep_append (opened_all body) (f.While place condition body ∷ []) h h h (keep_opened_all p)
        (h, l.repeat place condition body g p, refl)
    keep_opened (l.lock {h = h} place name free) = (slice_set h (number_in names name) true, l.lock place name free, refl)
    keep_opened (l.unlock {h = h} place name held) = (slice_set h (number_in names name) false, l.unlock place name held, refl)

    -- statements
    pub keep_opened_all : {h after : Held} {ss : f.Statements} → KeepAll vs names h ss after → KeepList vs names h (opened_all ss) after
    keep_opened_all l.no_more = refl
    keep_opened_all (l.then {h = h} {between = between} {after = after} x rest p q) =
        keep_append (opened x) (opened_all rest) h between after (keep_opened p) (keep_opened_all q)

  -- ---- What a statement that keeps it says

  -- the uses of an assignment are guarded, and the set stays
  pub keeps_assign : {h after : Held} {place : Place} {target : e.Lvalue} {value : e.Placed} → Keeps vs names h (f.Assign place target value) after →
      AreGuarded vs names h (assign_uses target value) × (after ≡ h)
  keeps_assign (l.assign place target value g free) = (g, refl)

  -- a local that is assigned is named by no held key
  pub keeps_free : {h after : Held} {place : Place} {target : e.Lvalue} {value : e.Placed} → Keeps vs names h (f.Assign place target value) after →
      IsFree names h target
  keeps_free (l.assign place target value g free) = free

  -- the arms of an `if` and what is otherwise done leave one set
  pub keeps_if : {h after : Held} {place : Place} {arms : f.Arms} {otherwise : f.Statements} → Keeps vs names h (f.If place arms otherwise) after →
      KeepArms vs names h arms after × KeepAll vs names h otherwise after
  keeps_if (l.choose place arms otherwise p q) = (p, q)

  -- a condition's uses are guarded, and its arm leaves that set
  pub keeps_arm : {h after : Held} {condition : e.Placed} {body : f.Statements} {arms : f.Arms} → KeepArms vs names h (f.arm_and condition body arms) after →
      AreGuarded vs names h (expr_uses condition.expr) × KeepAll vs names h body after × KeepArms vs names h arms after
  keeps_arm (l.arm condition body rest g p q) = (g, p, q)

  -- the uses of a `while` are guarded, and its body leaves the set before it
  pub keeps_while : {h after : Held} {place : Place} {condition : e.Placed} {body : f.Statements} → Keeps vs names h (f.While place condition body) after →
      AreGuarded vs names h (expr_uses condition.expr) × KeepAll vs names h body h × (after ≡ h)
  keeps_while (l.repeat place condition body g p) = (g, p, refl)

  -- a lock that is taken has a name that wasn't in the set, and is in the one after the step
  pub keeps_lock : {h : Held} {place : Place} {name : e.LockName} {after : Held} → Keeps vs names h (f.Lock place name) after →
      (slice_get h (number_in names name) ≡ Some false) × (after ≡ slice_set h (number_in names name) true)
  keeps_lock (l.lock place name free) = (free, refl)

  -- one that is given back was in the set, and isn't in the one after the step
  pub keeps_unlock : {h : Held} {place : Place} {name : e.LockName} {after : Held} → Keeps vs names h (f.Unlock place name) after →
      (holds h (number_in names name) ≡ true) × (after ≡ slice_set h (number_in names name) false)
  keeps_unlock (l.unlock place name held) = (held, refl)

  -- ---- After a test

  -- what is left of an `if` whose first condition is tested
  pub keep_tested : (b : Bool) (place : Place) (body : f.Statements) (arms : f.Arms) (otherwise : f.Statements) (h after : Held) →
      KeepAll vs names h body after →
      KeepArms vs names h arms after → KeepAll vs names h otherwise after →
      KeepList vs names h (tested b (opened_all body) (f.If place arms otherwise ∷ []) (opened_all otherwise) arms) after
  keep_tested true place body arms otherwise h after p q r = keep_opened_all p
  keep_tested false place body f.no_arm otherwise h after p q r = keep_opened_all r
  keep_tested false place body (f.arm_and condition next rest) otherwise h after p q r =
      (after, l.choose place (f.arm_and condition next rest) otherwise q r, refl)
