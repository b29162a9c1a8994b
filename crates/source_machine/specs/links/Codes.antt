-- Code of threads: what is left to do at each position of it, and what is emitted.
use Rattle.std.specs.Prelude.{◌≡◌, ℕ, ◌<◌, ◌≤◌, List, [], ◌∷◌, ◌++◌, length, slice_get, Some}
use Rattle.ido_base.specs.declared.place.Place.{Place}
use Rattle.c_tree.specs.Exprs.{Placed, Lvalue, LockName, placed_of, lvalue_of, lock_name_of}
use Rattle.c_tree.specs.Flats as f
use Rattle.c_tree.specs.Flats.{statements_of}
use Rattle.c_tree.specs.declared.flat.Arm as code_arm
use Rattle.c_tree.specs.Source.{opened_all}
use Rattle.source_machine.specs.declared.code.Node.{Node}
use Rattle.source_machine.specs.declared.code.Node.TheVariants as node
use Rattle.source_machine.specs.declared.code.Loop.{Loop}
use Rattle.source_machine.specs.declared.code.Code.{Code}

-- what is left to do at each position
abbrev pub Lefts : Type 0
Lefts = List (List f.Statement)

abbrev pub At : Lefts → (position : ℕ) → List f.Statement → Type 0
At lefts position left = slice_get lefts position ≡ Some left

-- what an `if` leaves after the arms whose conditions don't hold
abbrev pub else_part : Place → f.Arms → (otherwise : f.Statements) → List f.Statement
else_part place f.no_arm otherwise = opened_all otherwise
else_part place (f.arm_and condition body rest) otherwise = f.If place (f.arm_and condition body rest) otherwise ∷ []

-- ---- What is left at a node

pub record Assigns (lefts : Lefts) (target : Lvalue) (value : Placed) (next : ℕ) (left : List f.Statement) : Type 0 where
  pub place : Place
  pub rest : List f.Statement
  pub follows : At lefts next rest
  pub is : left ≡ f.Assign place target value ∷ rest

pub record Locks (lefts : Lefts) (lock : LockName) (next : ℕ) (left : List f.Statement) : Type 0 where
  pub place : Place
  pub rest : List f.Statement
  pub follows : At lefts next rest
  pub is : left ≡ f.Lock place lock ∷ rest

pub record Unlocks (lefts : Lefts) (lock : LockName) (next : ℕ) (left : List f.Statement) : Type 0 where
  pub place : Place
  pub rest : List f.Statement
  pub follows : At lefts next rest
  pub is : left ≡ f.Unlock place lock ∷ rest

pub record IsStuck (left : List f.Statement) : Type 0 where
  pub place : Place
  pub otherwise : f.Statements
  pub rest : List f.Statement
  pub is : left ≡ f.If place f.no_arm otherwise ∷ rest

-- the test of an arm, or that of a loop
pub data Tests (lefts : Lefts) (condition : Placed) (holds fails : ℕ) (left : List f.Statement) : Type 0 where
  chooses : (place : Place) (body : f.Statements) (arms : f.Arms) (otherwise : f.Statements) (rest : List f.Statement) →
      At lefts holds (opened_all body ++ rest) → At lefts fails (else_part place arms otherwise ++ rest) →
      left ≡ f.If place (f.arm_and condition body arms) otherwise ∷ rest → Tests lefts condition holds fails left
  repeats : (place : Place) (body : f.Statements) (rest : List f.Statement) →
      At lefts holds (opened_all body ++ (f.While place condition body ∷ rest)) → At lefts fails rest →
      left ≡ f.While place condition body ∷ rest → Tests lefts condition holds fails left

abbrev pub DoesNode : Lefts → Node → List f.Statement → Type 0
DoesNode lefts node.End left = left ≡ []
DoesNode lefts (node.Assign target value next) left = Assigns lefts (lvalue_of target.now) (placed_of value.now) next left
DoesNode lefts (node.Test condition holds fails) left = Tests lefts (placed_of condition.now) holds fails left
DoesNode lefts (node.Lock lock next) left = Locks lefts (lock_name_of lock.now) next left
DoesNode lefts (node.Unlock lock next) left = Unlocks lefts (lock_name_of lock.now) next left
DoesNode lefts node.Never left = IsStuck left

-- at each position that is left which its node does
pub record IsCode (nodes : List Node) (lefts : Lefts) : Type 0 where
  pub count : length lefts ≡ length nodes
  pub each : (position : ℕ) (node : Node) (left : List f.Statement) → slice_get nodes position ≡ Some node → At lefts position left → DoesNode lefts node left

-- the code is that of a body
pub record IsCodeOf (code : Code) (body : f.Statements) : Type 0 where
  pub lefts : Lefts
  pub nodes : IsCode code.nodes.items lefts
  pub start : At lefts code.start (opened_all body)

-- ---- What is emitted

-- a node more, at that position
pub record IsPushed (before after : List Node) (node : Node) (position : ℕ) : Type 0 where
  pub at : position ≡ length before
  pub nodes : after ≡ before ++ node ∷ []

-- nodes after those before, and that is left at the entry
pub record Extends (before after : List Node) (lefts : Lefts) (entry : ℕ) (left : List f.Statement) : Type 0 where
  pub all : Lefts
  pub grown : (position : ℕ) (there : List f.Statement) → At lefts position there → At all position there
  pub count : length all ≡ length after
  pub longer : length before ≤ length after
  pub kept : (position : ℕ) → position < length before → slice_get after position ≡ slice_get before position
  pub each : (position : ℕ) (node : Node) (there : List f.Statement) → length before ≤ position → slice_get after position ≡ Some node →
      At all position there → DoesNode all node there
  pub entered : At all entry left

-- code that does this, and then what is left at the next position
pub record Emits (before after : List Node) (does : List f.Statement) (next entry : ℕ) : Type 0 where
  pub each : (lefts : Lefts) (rest : List f.Statement) → length lefts ≡ length before → At lefts next rest → Extends before after lefts entry (does ++ rest)

-- some arms of an `if`, where its last part stands at a position
pub record EmitsArms (before after : List Node) (arms : f.Arms) (last next entry : ℕ) : Type 0 where
  pub each : (lefts : Lefts) (place : Place) (otherwise : f.Statements) (rest : List f.Statement) → length lefts ≡ length before → At lefts next rest →
      At lefts last (opened_all otherwise ++ rest) →
      Extends before after lefts entry (else_part place arms otherwise ++ rest)

pub record Arm : Type 0 where
  pub condition : Placed
  pub body : f.Statements

-- an arm, where other arms or the last part stand at the position for a condition that fails
pub record EmitsTest (before after : List Node) (arm : Arm) (fails next entry : ℕ) : Type 0 where
  pub each : (lefts : Lefts) (place : Place) (arms : f.Arms) (otherwise : f.Statements) (rest : List f.Statement) → length lefts ≡ length before →
      At lefts next rest → At lefts fails (else_part place arms otherwise ++ rest) →
      Extends before after lefts entry (f.If place (f.arm_and arm.condition arm.body arms) otherwise ∷ rest)

-- an arm as the code has it, where other arms or the last part stand at the position for a condition that fails
abbrev pub EmitsArm : (before after : List Node) → code_arm.Arm → (fails next entry : ℕ) → Type 0
EmitsArm before after arm fails next entry =
    EmitsTest before after (record { condition = placed_of arm.condition; body = statements_of arm.body.items }) fails next entry

-- a loop that begins with its test, and one that begins with its body
pub record EmitsLoop (before after : List Node) (condition : Placed) (body : f.Statements) (next : ℕ) (made : Loop) : Type 0 where
  pub tests : (place : Place) → Emits before after (f.While place condition body ∷ []) next made.test
  pub begins : (place : Place) → Emits before after (opened_all body ++ (f.While place condition body ∷ [])) next made.body
