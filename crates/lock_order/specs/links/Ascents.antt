-- That each `lock` of a part is above what is held there.
use Rattle.std.specs.Prelude.{◌≡◌, ◌≤◌, ℕ, List, [], ◌∷◌, Some, true, false, slice_get, slice_set}
use Rattle.c_tree.specs.Exprs.{LockName}
use Rattle.c_tree.specs.Flats as f
use Rattle.c_tree.specs.LockNames.{Held, holds, number_in}
use Rattle.c_tree.specs.Programs.{Mutex}
use Rattle.lock_order.specs.LockOrder.{lock_from, lock_to}

module _ (names : List LockName) where
  -- the set of names, by their numbers, after a part
  abbrev mutual
    pub names_after : Held → f.Statement → Held
    names_after h (f.Assign place target value) = h
    names_after h (f.If place arms otherwise) = names_after_all h otherwise
    names_after h (f.While place condition body) = h
    names_after h (f.Do place body condition) = h
    names_after h (f.Lock place x) = slice_set h (number_in names x) true
    names_after h (f.Unlock place x) = slice_set h (number_in names x) false

    pub names_after_all : Held → f.Statements → Held
    names_after_all h f.no_statement = h
    names_after_all h (f.statement_and x rest) = names_after_all (names_after h x) rest

module _ (ms : List Mutex) (names : List LockName) where
  -- each name that is held is below the wanted one
  abbrev pub AreBelow : Held → (wanted : LockName) → Type 0
  AreBelow h wanted = (number : ℕ) (own : LockName) → slice_get names number ≡ Some own → holds h number ≡ true → lock_to ms own ≤ lock_from wanted

  abbrev mutual
    pub Ascends : Held → f.Statement → Type 0
    Ascends h (f.Assign place target value) = Unit {0}
    Ascends h (f.If place arms otherwise) = AscendArms h arms × AscendAll h otherwise
    Ascends h (f.While place condition body) = AscendAll h body
    Ascends h (f.Do place body condition) = AscendAll h body
    Ascends h (f.Lock place x) = AreBelow h x
    Ascends h (f.Unlock place x) = Unit {0}

    pub AscendAll : Held → f.Statements → Type 0
    AscendAll h f.no_statement = Unit {0}
    AscendAll h (f.statement_and x rest) = Ascends h x × AscendAll (names_after names h x) rest

    pub AscendArms : Held → f.Arms → Type 0
    AscendArms h f.no_arm = Unit {0}
    AscendArms h (f.arm_and condition body rest) = AscendAll h body × AscendArms h rest

  -- of statements in turn
  abbrev pub AscendList : Held → List f.Statement → Type 0
  AscendList h [] = Unit {0}
  AscendList h (x ∷ rest) = Ascends h x × AscendList (names_after names h x) rest
