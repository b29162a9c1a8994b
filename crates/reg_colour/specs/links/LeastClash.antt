-- The least clash among those that were looked at.
use Rattle.std.specs.Prelude.{◌≡◌, ◌⊎◌, ◌<◌, ◌≤◌, ℕ, List, Option, Some, None, MatchOption, slice_get}
use Rattle.flow_graph.specs.declared.graph.Part.{Part}
use Rattle.flow_graph.specs.Nodes.{Graph}
use Rattle.flow_graph.specs.Liveness.{Spans, Colouring}
use Rattle.reg_colour.specs.declared.checking.Found.{Found}
use Rattle.reg_colour.specs.declared.intervals.Interval.{Interval}
use Rattle.reg_colour.specs.links.Intervals.{Intervals, Holds, IsInInterval}

-- ---- Which is the lesser one

-- what was found comes before the node and the two locals, or is there and of these
abbrev pub IsUpTo : Found → (node a b : ℕ) → Type 0
IsUpTo x node a b = (x.node < node) ⊎ ((x.node ≡ node) × ((x.a < a) ⊎ ((x.a ≡ a) × (x.b ≤ b))))

abbrev pub IsLesser : Option Found → Option Found → Option Found → Type 0
IsLesser None other x = x ≡ other
IsLesser (Some one) None x = x ≡ Some one
IsLesser (Some one) (Some other) x = ((x ≡ Some one) × IsUpTo one other.node other.a other.b) ⊎ ((x ≡ Some other) × IsUpTo other one.node one.a one.b)

pub record IsLeast (is : ℕ → ℕ → ℕ → Type 0) (x : Found) : Type 0 where
  pub is_one : is x.node x.a x.b
  pub least : (node a b : ℕ) → is node a b → IsUpTo x node a b

-- the least one, if there is one
abbrev pub IsLeastOf : (ℕ → ℕ → ℕ → Type 0) → Option Found → Type 0
IsLeastOf is found = MatchOption found ((node a b : ℕ) → ¬ (is node a b)) (IsLeast is)

-- ---- A thread

abbrev pub AreDisjoint : Option Interval → Option Interval → Type 0
AreDisjoint one other = (node : ℕ) → IsInInterval one node → ¬ (IsInInterval other node)

pub record IsFirstShared (one other : Option Interval) (node : ℕ) : Type 0 where
  pub in_one : IsInInterval one node
  pub in_other : IsInInterval other node
  pub first : (later : ℕ) → IsInInterval one later → IsInInterval other later → node ≤ later

-- the locals of a thread
pub record Locals : Type 0 where
  pub intervals : Intervals
  pub registers : List ℕ

abbrev pub locals_of : Intervals → (registers : List ℕ) → Locals
locals_of intervals registers = record { intervals = intervals; registers = registers }

-- two of them clash at the node
pub record ClashAt (locals : Locals) (node a b : ℕ) : Type 0 where
  pub register : ℕ
  pub of_first : slice_get locals.registers a ≡ Some register
  pub of_second : slice_get locals.registers b ≡ Some register
  pub different : a < b
  pub first : Holds locals.intervals node a
  pub second : Holds locals.intervals node b

-- a clash of which the first local is this one
pub record ClashOf (locals : Locals) (local node a b : ℕ) : Type 0 where
  pub own : a ≡ local
  pub clash : ClashAt locals node a b

-- a clash of these two locals
pub record ClashBoth (locals : Locals) (one other node a b : ℕ) : Type 0 where
  pub first : a ≡ one
  pub second : b ≡ other
  pub clash : ClashAt locals node a b

-- ---- The first threads

pub record ClashIn (g : Graph) (colours : Colouring) (thread node a b : ℕ) : Type 0 where
  pub part : Part
  pub given : List ℕ
  pub register : ℕ
  pub own : slice_get g.threads thread ≡ Some part
  pub of_thread : slice_get colours thread ≡ Some given
  pub of_first : slice_get given a ≡ Some register
  pub of_second : slice_get given b ≡ Some register
  pub different : a < b
  pub first : Spans g part a node
  pub second : Spans g part b node
