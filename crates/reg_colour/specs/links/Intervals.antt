-- Intervals of locals, as the code has them.
use Rattle.std.specs.Prelude.{◌≡◌, ◌↔◌, ◌<◌, ◌≤◌, ℕ, suc, List, length, slice_get, Contains, Option, Some, None, MatchOption}
use Rattle.flow_graph.specs.declared.graph.Part.{Part}
use Rattle.flow_graph.specs.Nodes.{Graph}
use Rattle.flow_graph.specs.Liveness.{Touches}
use Rattle.reg_colour.specs.declared.intervals.Interval.{Interval}

abbrev pub IsUnassigned : Graph → Part → (local : ℕ) → Type 0
IsUnassigned g part local = (node : ℕ) → ¬ (Touches g part local node)

pub record IsFirstTouched (g : Graph) (part : Part) (local node : ℕ) : Type 0 where
  pub touches : Touches g part local node
  pub first : (other : ℕ) → Touches g part local other → node ≤ other

pub record IsLastTouched (g : Graph) (part : Part) (local node : ℕ) : Type 0 where
  pub touches : Touches g part local node
  pub last : (other : ℕ) → Touches g part local other → other ≤ node

-- the local's nodes begin at the one, and the last one is the one before the other
pub record IsInterval (g : Graph) (part : Part) (local : ℕ) (interval : Interval) : Type 0 where
  pub first : IsFirstTouched g part local interval.first
  pub last : ℕ
  pub is_last : IsLastTouched g part local last
  pub ends : interval.end ≡ suc last

-- the interval of a local; none where no node touches it
abbrev pub IsIntervalOf : Graph → Part → (local : ℕ) → Option Interval → Type 0
IsIntervalOf g part local interval = MatchOption interval (IsUnassigned g part local) (IsInterval g part local)

abbrev pub Intervals : Type 0
Intervals = List (Option Interval)

-- local by local
pub record AreIntervals (g : Graph) (part : Part) (intervals : Intervals) : Type 0 where
  pub each : (local : ℕ) (interval : Option Interval) → slice_get intervals local ≡ Some interval → IsIntervalOf g part local interval

-- the local has an interval
abbrev pub IntervalAt : Intervals → (local : ℕ) → Interval → Type 0
IntervalAt intervals local interval = slice_get intervals local ≡ Some (Some interval)

-- the local has an interval that holds the node
pub record Holds (intervals : Intervals) (node local : ℕ) : Type 0 where
  pub interval : Interval
  pub at : IntervalAt intervals local interval
  pub from_first : interval.first ≤ node
  pub below_end : node < interval.end

-- the interval, if there is one, holds the node
abbrev pub IsInInterval : Option Interval → (node : ℕ) → Type 0
IsInInterval None node = ⊥
IsInInterval (Some interval) node = (interval.first ≤ node) × (node < interval.end)

-- the interval begins at the node and ends there
abbrev pub IsBegun : Option Interval → (node : ℕ) → Option ℕ → Type 0
IsBegun interval node None = (own : Interval) → interval ≡ Some own → ¬ (own.first ≡ node)
IsBegun interval node (Some end) = interval ≡ Some (record { first = node; end = end })

-- how many intervals hold the node
pub record AreHolding (intervals : Intervals) (node wanted : ℕ) : Type 0 where
  pub locals : List ℕ
  pub each : (local : ℕ) → Contains locals local ↔ Holds intervals node local
  pub once : (i j local : ℕ) → slice_get locals i ≡ Some local → slice_get locals j ≡ Some local → i ≡ j
  pub count : length locals ≡ wanted

-- no interval is empty
pub record AreFilled (intervals : Intervals) : Type 0 where
  pub each : (local : ℕ) (interval : Interval) → IntervalAt intervals local interval → interval.first < interval.end

-- the intervals begin at nodes of the thread
pub record AreWithin (part : Part) (intervals : Intervals) : Type 0 where
  pub each : (local : ℕ) (interval : Interval) → IntervalAt intervals local interval → (part.first ≤ interval.first) × (interval.first < part.end)
