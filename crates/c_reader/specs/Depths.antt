-- How deep the blocks of a tree are, and how high its expressions.
use Rattle.std.specs.Prelude.{ℕ, zero, suc, ◌+◌, ◌≤◌, List, max, Option, Some, None}
use Rattle.std.specs.List.{AllByRecursion}
use Rattle.c_tree.specs.Trees as t

-- nodes on the longest way down from an expression, with itself
abbrev pub height : t.Expression → ℕ
height (t.Number place value) = 1
height (t.Named x) = 1
height (t.Element array index) = 1 + height index
height (t.Null place) = 1
height (t.Address place array index) = 1 + height index
height (t.Referent place reference) = 1
height (t.Parenthesised place inner) = 1 + height inner
height (t.Unary place operator operand) = 1 + height operand
height (t.Cast place kind operand) = 1 + height operand
height (t.Binary operator left right) = 1 + max (height left) (height right)
height (t.Conditional condition chosen otherwise) = 1 + max (height condition) (max (height chosen) (height otherwise))

-- the index of what is assigned, if it has one
abbrev pub index_of : t.Lvalue → Option t.Expression
index_of (t.Target x index) = index
index_of (t.Followed place reference) = None

-- all expressions of a tree are at most so high
module _ (high : ℕ) where
  abbrev pub IsLow : t.Expression → Type 0
  IsLow x = height x ≤ high

  abbrev pub IsLowIf : Option t.Expression → Type 0
  IsLowIf None = Unit {0}
  IsLowIf (Some x) = IsLow x

  abbrev pub IsLowChange : t.Change → Type 0
  IsLowChange (t.Set value) = IsLow value
  IsLowChange (t.Update operator value) = IsLow value
  IsLowChange t.Increment = Unit {0}
  IsLowChange t.Decrement = Unit {0}

  abbrev pub IsLowAssignment : t.Assignment → Type 0
  IsLowAssignment x = IsLowIf (index_of x.target) × IsLowChange x.change

  abbrev pub IsLowLast : Option t.Assignment → Type 0
  IsLowLast None = Unit {0}
  IsLowLast (Some x) = IsLowAssignment x

  abbrev pub IsLowCall : t.Call → Type 0
  IsLowCall x = AllByRecursion IsLow x.arguments

  abbrev pub IsLowInitial : t.Initial → Type 0
  IsLowInitial t.Absent = Unit {0}
  IsLowInitial (t.Value x) = IsLow x
  IsLowInitial (t.Result x) = IsLowCall x

  abbrev pub IsLowFirst : t.First → Type 0
  IsLowFirst t.NoFirst = Unit {0}
  IsLowFirst (t.Declared x) = IsLowInitial x.initial
  IsLowFirst (t.Assigned x) = IsLowAssignment x

  -- blocks are nested at most so deep, each block one deeper than what stands in it, and their expressions are at most so high
  abbrev mutual
    pub IsFlat : (deep : ℕ) → t.Statement → Type 0
    IsFlat deep (t.BlockOf x) = IsFlatBlock deep x
    IsFlat deep (t.Empty place) = Unit {0}
    IsFlat deep (t.Declare x) = IsLowInitial x.initial
    IsFlat deep (t.Assign x) = IsLowAssignment x
    IsFlat deep (t.AssignResult x c) = IsLowIf (index_of x) × IsLowCall c
    IsFlat deep (t.CallOnly c) = IsLowCall c
    IsFlat deep (t.If place arms otherwise) = AreFlatArms deep arms × IsFlatOtherwise deep otherwise
    IsFlat deep (t.While place condition inside) = IsLow condition × IsFlatBlock deep inside
    IsFlat deep (t.Do place inside condition) = IsFlatBlock deep inside × IsLow condition
    IsFlat deep (t.For place first condition last inside) = IsLowFirst first × IsLowIf condition × IsLowLast last × IsFlatBlock deep inside
    IsFlat deep (t.Lock place mutex key) = IsLowIf key
    IsFlat deep (t.Unlock place mutex key) = IsLowIf key

    pub IsFlatBlock : (deep : ℕ) → t.Block → Type 0
    IsFlatBlock zero (t.Braced opening inside closing) = ⊥
    IsFlatBlock (suc deep) (t.Braced opening inside closing) = AreFlat deep inside

    pub AreFlat : (deep : ℕ) → t.Statements → Type 0
    AreFlat deep t.no_statement = Unit {0}
    AreFlat deep (t.statement_and x rest) = IsFlat deep x × AreFlat deep rest

    pub AreFlatArms : (deep : ℕ) → t.Arms → Type 0
    AreFlatArms deep t.no_arm = Unit {0}
    AreFlatArms deep (t.arm_and condition inside rest) = IsLow condition × IsFlatBlock deep inside × AreFlatArms deep rest

    pub IsFlatOtherwise : (deep : ℕ) → t.Otherwise → Type 0
    IsFlatOtherwise deep t.Nothing = Unit {0}
    IsFlatOtherwise deep (t.Else inside) = IsFlatBlock deep inside

  abbrev pub IsLowReturn : Option t.Return → Type 0
  IsLowReturn None = Unit {0}
  IsLowReturn (Some x) = IsLowIf x.value

  abbrev pub IsFlatBody : (deep : ℕ) → t.Body → Type 0
  IsFlatBody zero x = ⊥
  IsFlatBody (suc deep) x = AreFlat deep x.statements × IsLowReturn x.returned

  abbrev pub IsFlatItem : (deep : ℕ) → t.Item → Type 0
  IsFlatItem deep (t.MutexItem x length) = Unit {0}
  IsFlatItem deep (t.PersistentItem x) = Unit {0}
  IsFlatItem deep (t.ThreadItem x) = IsFlatBlock deep x.block
  IsFlatItem deep (t.FunctionItem x) = IsFlatBody deep x.body

-- the blocks of a tree are at most so deep, and its expressions at most so high
abbrev pub IsShallow : (deep high : ℕ) → List t.Item → Type 0
IsShallow deep high xs = AllByRecursion (IsFlatItem high deep) xs
