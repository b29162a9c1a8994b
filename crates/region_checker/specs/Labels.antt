-- Why labels of straight code are refused.
use Rattle.std.specs.Prelude.{◌≡◌, ◌⊎◌, ◌<◌, ◌≤◌, ℕ, suc, List}
use Rattle.flow_graph.specs.Nodes.{Graph}
use Rattle.region_cutter.specs.FewestCuts.{IsSteep, at}
use Rattle.region_checker.specs.declared.error.LabelError.{LabelError}
use Rattle.region_checker.specs.declared.error.LabelError.TheVariants as error

abbrev pub NoneSteep : Graph → (first past : ℕ) → List ℕ → Type 0
NoneSteep g first past labels = (from to : ℕ) → ¬ (IsSteep g first past labels from to)

-- of the regions at whose end the label is more than one greater, the one that begins first, and of these the shortest
pub record IsFirstSteep (g : Graph) (first past : ℕ) (labels : List ℕ) (from to : ℕ) : Type 0 where
  pub steep : IsSteep g first past labels from to
  pub least : (other end : ℕ) → IsSteep g first past labels other end → (from < other) ⊎ ((from ≡ other) × (to ≤ end))

-- the first fault is this one; want of memory may come at any time after the first label
abbrev pub IsRefusedLabel : Graph → (first past cuts : ℕ) → List ℕ → LabelError → Type 0
IsRefusedLabel g first past cuts labels error.Start = ¬ (at first labels first ≡ 0)
IsRefusedLabel g first past cuts labels (error.Edge from to) = (at first labels first ≡ 0) × IsFirstSteep g first past labels from to
IsRefusedLabel g first past cuts labels (error.End label count) =
    (at first labels first ≡ 0) × NoneSteep g first past labels × (label ≡ at first labels past) × (count ≡ cuts) × ¬ (label ≡ suc count)
IsRefusedLabel g first past cuts labels error.Memory = Unit {0}
