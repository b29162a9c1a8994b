-- The steps of a thread by number, in the order of its text, and the set of held locks before each, by their names.
use Rattle.std.specs.Prelude.{◌≡◌, ◌↔◌, ℕ, suc, ◌+◌, List, length, slice_get, Some, false}
use Rattle.ido_base.specs.declared.place.Place.{Place}
use Rattle.ido_ints.specs.declared.kinds.Kind.{Kind}
use Rattle.c_tree.specs.declared.language.Language.{Language}
use Rattle.c_tree.specs.Exprs as e
use Rattle.c_tree.specs.Programs.{Variable}
use Rattle.c_tree.specs.Flats as f
use Rattle.c_tree.specs.LockNames.{Held, none_held, lock_names}
use Rattle.c_tree.specs.LockDiscipline.{Keeps, KeepAll, IsDisciplined, are_too_many}

-- ---- How many steps

-- an assignment of a variable has a second step, the store
abbrev pub assign_steps : e.Lvalue → ℕ
assign_steps (e.ToLocal place local kind) = 1
assign_steps (e.ToVariable place variable kind) = 2
assign_steps (e.ToElement place variable kind index) = 2

-- each condition is a step: that of a `while` before its body, that of a `do` after it
abbrev mutual
  pub steps : f.Statement → ℕ
  steps (f.Assign place target value) = assign_steps target
  steps (f.If place arms otherwise) = steps_of_arms arms + steps_of_all otherwise
  steps (f.While place condition body) = suc (steps_of_all body)
  steps (f.Do place body condition) = steps_of_all body + 1
  steps (f.Lock place name) = 1
  steps (f.Unlock place name) = 1

  pub steps_of_all : f.Statements → ℕ
  steps_of_all f.no_statement = 0
  steps_of_all (f.statement_and x rest) = steps x + steps_of_all rest

  pub steps_of_arms : f.Arms → ℕ
  steps_of_arms f.no_arm = 0
  steps_of_arms (f.arm_and condition body rest) = suc (steps_of_all body + steps_of_arms rest)

-- the end is the last one
abbrev pub thread_steps : f.Thread → ℕ
thread_steps t = steps_of_all t.body + 1

-- ---- The set before a step

-- where the part begins with the one set, the other is held before its step of this number
module _ (vs : List Variable) (names : List e.LockName) where
  mutual
    pub data HeldIn : Held → f.Statement → (step : ℕ) → Held → Type 0 where
      evaluate : {h : Held} (place : Place) (target : e.Lvalue) (value : e.Placed) → HeldIn h (f.Assign place target value) 0 h
      store_variable : {h : Held} (place : Place) (name : Place) (variable : ℕ) (kind : Kind) (value : e.Placed) →
          HeldIn h (f.Assign place (e.ToVariable name variable kind) value) 1 h
      store_element : {h : Held} (place : Place) (name : Place) (variable : ℕ) (kind : Kind) (index : e.Placed) (value : e.Placed) →
          HeldIn h (f.Assign place (e.ToElement name variable kind index) value) 1 h
      in_arms : {h k : Held} {n : ℕ} (place : Place) (arms : f.Arms) (otherwise : f.Statements) → HeldInArms h arms n k →
          HeldIn h (f.If place arms otherwise) n k
      in_otherwise : {h k : Held} {n : ℕ} (place : Place) (arms : f.Arms) (otherwise : f.Statements) → HeldInAll h otherwise n k →
          HeldIn h (f.If place arms otherwise) (steps_of_arms arms + n) k
      test_first : {h : Held} (place : Place) (condition : e.Placed) (body : f.Statements) → HeldIn h (f.While place condition body) 0 h
      in_while : {h k : Held} {n : ℕ} (place : Place) (condition : e.Placed) (body : f.Statements) → HeldInAll h body n k →
          HeldIn h (f.While place condition body) (suc n) k
      in_do : {h k : Held} {n : ℕ} (place : Place) (body : f.Statements) (condition : e.Placed) → HeldInAll h body n k →
          HeldIn h (f.Do place body condition) n k
      test_last : {h k : Held} (place : Place) (body : f.Statements) (condition : e.Placed) → KeepAll vs names h body k →
          HeldIn h (f.Do place body condition) (steps_of_all body) k
      take : {h : Held} (place : Place) (name : e.LockName) → HeldIn h (f.Lock place name) 0 h
      give : {h : Held} (place : Place) (name : e.LockName) → HeldIn h (f.Unlock place name) 0 h

    pub data HeldInAll : Held → f.Statements → (step : ℕ) → Held → Type 0 where
      in_first : {h k : Held} {n : ℕ} (x : f.Statement) (rest : f.Statements) → HeldIn h x n k → HeldInAll h (f.statement_and x rest) n k
      in_rest : {h between k : Held} {n : ℕ} (x : f.Statement) (rest : f.Statements) → Keeps vs names h x between → HeldInAll between rest n k →
          HeldInAll h (f.statement_and x rest) (steps x + n) k

    pub data HeldInArms : Held → f.Arms → (step : ℕ) → Held → Type 0 where
      test_arm : {h : Held} (condition : e.Placed) (body : f.Statements) (rest : f.Arms) → HeldInArms h (f.arm_and condition body rest) 0 h
      in_arm : {h k : Held} {n : ℕ} (condition : e.Placed) (body : f.Statements) (rest : f.Arms) → HeldInAll h body n k →
          HeldInArms h (f.arm_and condition body rest) (suc n) k
      in_other_arms : {h k : Held} {n : ℕ} (condition : e.Placed) (body : f.Statements) (rest : f.Arms) → HeldInArms h rest n k →
          HeldInArms h (f.arm_and condition body rest) (suc (steps_of_all body + n)) k

-- a thread begins with no lock held
pub data HeldBefore (x : f.Flat) (t : f.Thread) : (step : ℕ) → Held → Type 0 where
  in_body : {k : Held} {n : ℕ} → HeldInAll x.variables (lock_names x t) (none_held (length (lock_names x t))) t.body n k → HeldBefore x t n k
  at_end : {k : Held} → KeepAll x.variables (lock_names x t) (none_held (length (lock_names x t))) t.body k → HeldBefore x t (steps_of_all t.body) k

-- before none of its steps a thread holds too many
abbrev pub HoldsFew : Language → f.Flat → f.Thread → Type 0
HoldsFew l x t = (n : ℕ) (k : Held) → HeldBefore x t n k → are_too_many l k ≡ false

-- ---- All the sets of a program

-- of each step of a thread the set before it
pub record AreSetsOf (x : f.Flat) (t : f.Thread) (sets : List Held) : Type 0 where
  pub disciplined : IsDisciplined x t
  pub each_step : length sets ≡ thread_steps t
  pub exactly : (n : ℕ) (k : Held) → (slice_get sets n ≡ Some k) ↔ HeldBefore x t n k

-- of each thread its sets
pub record AreAllSetsOf (x : f.Flat) (table : List (List Held)) : Type 0 where
  pub each_thread : length table ≡ length x.threads
  pub sets : (n : ℕ) (t : f.Thread) (sets : List Held) → slice_get x.threads n ≡ Some t → slice_get table n ≡ Some sets → AreSetsOf x t sets
