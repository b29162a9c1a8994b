-- What follows from a thread's registers representing what it sees.
use Rattle.std.specs.Prelude.{◌≡◌, ℕ, ℤ, List, Contains}
use Rattle.rv64_isa.specs.Rows.{read}
use Rattle.boundary_code.specs.Boundaries.{IsOnSide}
use Rattle.flow_graph.specs.Actions.{Seen}
use Rattle.thread_code.specs.Plans.{Plan, Thread, AreKept, AreKeptBefore}
use Rattle.thread_code.specs.RegistersAtNodes.{Enters, IsFrameOn, IsFrameOnAtCore, IsReady, LogView}

-- a thread may enter a node with any registers in which those that a boundary keeps are as they were, whatever side they are at
abbrev pub EntersAgain : Type 0
EntersAgain = (p : Plan) (t : Thread) (node : ℕ) (seen : Seen) (view other : LogView) (x y : List ℕ) (live : List ℕ) → AreKept p t node live →
    Enters p t node seen view x → IsOnSide p.log other.side y → IsFrameOn p t node view other →
    ((register : ℕ) → Contains live register → read y register ≡ read x register) → Enters p t node seen other y

-- and go on at its core
abbrev pub IsReadyAgain : Type 0
IsReadyAgain = (p : Plan) (t : Thread) (node : ℕ) (seen : Seen) (view other : LogView) (owed : ℤ) (x y : List ℕ) (kept : List ℕ) → AreKeptBefore p t node kept →
    IsReady p t node seen view owed x → IsOnSide p.log other.side y → IsFrameOnAtCore p t node view other →
    ((register : ℕ) → Contains kept register → read y register ≡ read x register) → IsReady p t node seen other owed y

-- where a thread is at a core depends on no variable
abbrev pub ReadyWhatever : Type 0
ReadyWhatever = (p : Plan) (t : Thread) (node : ℕ) (seen : Seen) (variables : List (List ℤ)) (view : LogView) (owed : ℤ) (registers : List ℕ) →
    IsReady p t node seen view owed registers → IsReady p t node (record seen { variables = variables }) view owed registers
