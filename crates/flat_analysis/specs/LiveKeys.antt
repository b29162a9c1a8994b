-- The locals of a key that is held are live.
use Rattle.std.specs.Prelude.{◌≡◌, ℕ, ◌+◌, slice_get, Contains, Some, true}
use Rattle.c_tree.specs.Exprs.{LockName}
use Rattle.c_tree.specs.Flats as f
use Rattle.c_tree.specs.LockNames.{Held, holds, lock_names}
use Rattle.c_tree.specs.LockDiscipline.{key_locals, IsDisciplined}
use Rattle.lock_discipline.specs.HeldSetsByStep.{HeldBefore}
use Rattle.flow_graph.specs.declared.graph.Part.{Part}
use Rattle.flow_graph.specs.Lowering.{lowered}
use Rattle.flow_graph.specs.Liveness.{IsLive}

-- where a name is held before a step of its thread, each local that its key reads is live at the step's node
abbrev pub HeldKeysAreLive : Type 0
HeldKeysAreLive = (x : f.Flat) (thread : ℕ) (t : f.Thread) (part : Part) (step number local : ℕ) (h : Held) (name : LockName) → IsDisciplined x t →
    slice_get x.threads thread ≡ Some t → slice_get (lowered x).threads thread ≡ Some part → HeldBefore x t step h →
    slice_get (lock_names x t) number ≡ Some name → holds h number ≡ true → Contains (key_locals name) local → IsLive (lowered x) local (part.first + step)
