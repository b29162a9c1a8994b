-- Boundaries that are added before assignments of locals.
use Rattle.std.specs.Prelude.{◌≡◌, ◌⊎◌, ◌↔◌, ℕ, List, length, slice_get, Bool, true, false, Some}
use Rattle.c_tree.specs.Exprs.{Lvalue, ToLocal, ToVariable, ToElement}
use Rattle.c_tree.specs.LockNames.{Held}
use Rattle.flow_graph.specs.Nodes.{Action, Eval, Store, Test, Lock, Unlock, End, Graph}
use Rattle.region_cutter.specs.EachWrite.{AssignsLocked}

abbrev pub is_local_target : Lvalue → Bool
is_local_target (ToLocal place local kind) = true
is_local_target (ToVariable place variable kind) = false
is_local_target (ToElement place variable kind index) = false

abbrev pub assigns_local : Action → Bool
assigns_local (Eval target value next) = is_local_target target
assigns_local (Store variable kind next) = false
assigns_local (Test condition holds fails) = false
assigns_local (Lock lock next) = false
assigns_local (Unlock lock next) = false
assigns_local End = false

-- the node of this thread assigns a local while a lock is held
pub record AssignsIn (g : Graph) (table : List (List Held)) (thread node : ℕ) : Type 0 where
  pub assigns : AssignsLocked g table node
  pub own : assigns.before.thread ≡ thread

-- boundaries were added before such nodes
pub record AreAdded (Such : ℕ → Type 0) (old new : List Bool) : Type 0 where
  pub count : length new ≡ length old
  pub each : (node : ℕ) → (slice_get new node ≡ Some true) ↔ ((slice_get old node ≡ Some true) ⊎ Such node)
