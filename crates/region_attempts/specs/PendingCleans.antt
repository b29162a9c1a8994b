-- What the stores of an attempt leave to be cleaned at its region's end.
use Rattle.std.specs.Prelude.{◌≡◌, ◌≢◌, ℕ, ◌/◌, ◌<◌, ◌≤◌, List, slice_get, Some, Bool, true}
use Rattle.ido_base.specs.declared.location.Shape.{Shape}
use Rattle.ido_base.specs.Layout.{line_bytes, variable_at}
use Rattle.c_tree.specs.Flats as f
use Rattle.flow_graph.specs.Lowering.{lowered}
use Rattle.flow_graph.specs.Actions.{FlowState}
use Rattle.flow_graph.specs.IdempotentCuts.{Boundaries}
use Rattle.flow_graph.specs.OmittedCleans.{IsCleanedLater}
use Rattle.recovery_semantics.specs.Attempts.{WritesAt}
use Rattle.recovery_semantics.specs.Configs.{Config}
use Rattle.region_attempts.specs.GraphStates.{node_after}

-- the line of an element
abbrev pub line_of : List Shape → (variable element : ℕ) → ℕ
line_of shapes variable element = variable_at shapes variable element / line_bytes

-- cleans are left out only at stores that are cleaned later; of each node it is said whether its clean is left out
abbrev pub AreLeftOut : f.Flat → Boundaries → List Shape → (left_out : List Bool) → Type 0
AreLeftOut x b shapes left_out = (node : ℕ) → slice_get left_out node ≡ Some true → IsCleanedLater (lowered x) b shapes node

-- the attempts of a config over the graph's kept state, and by which code: where its elements lie, and which cleans it leaves out
pub record Attempts : Type 0 where
  pub flat : f.Flat
  pub kept : FlowState
  pub config : Config
  pub shapes : List Shape
  pub left_out : List Bool

-- the thread's step that comes after `steps` others stores into the line, and cleans it
pub record Cleans (a : Attempts) (thread steps line : ℕ) : Type 0 where
  pub node : ℕ
  pub at : node_after a.flat a.kept thread steps ≡ Some node
  pub variable : ℕ
  pub element : ℕ
  pub stores : WritesAt a.config.kept thread steps variable element
  pub in_line : line_of a.shapes variable element ≡ line
  pub cleans : slice_get a.left_out node ≢ Some true

-- one of the thread's steps, from the given one on and below `steps`, stores into the line and cleans it
pub record CleansSince (a : Attempts) (thread first steps line : ℕ) : Type 0 where
  pub last : ℕ
  pub since : first ≤ last
  pub within : last < steps
  pub at : Cleans a thread last line
