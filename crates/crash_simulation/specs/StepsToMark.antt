-- How many steps a thread's hart makes at most before it passes its next mark, by where in its code it is.
use Rattle.std.specs.Prelude.{ℕ, suc, ◌+◌, ◌-◌, ◌*◌, ◌≤◌, length, slice_get, Some, None, true}
use Rattle.rv64_isa.specs.Programs.{code_of}
use Rattle.boundary_code.specs.Boundaries.{frame_lines}
use Rattle.flow_graph.specs.Nodes.{Action, Eval, Store, Test, Lock, Unlock, End}
use Rattle.thread_code.specs.Plans.{Plan}
use Rattle.thread_code.specs.NodeCodeEffects.{Places}
use Rattle.thread_runs.specs.CodeFragments.{ExitPoint, Arrives, Keeps, Computes, Asks, Took, Gives, Ends}
use Rattle.crash_simulation.specs.Systems.{System}

-- from the entry of a node to its mark: through the boundary before a write, and to a lock's call
abbrev pub weight : Action → (words : ℕ) → ℕ
weight (Eval target value next) words = 2 * words
weight (Store variable kind next) words = 2 * words
weight (Test condition holds fails) words = 0
weight (Lock lock next) words = 2 * words
weight (Unlock lock next) words = 0
weight End words = 0

-- from a node's code to its mark: a lock's call is its mark
abbrev pub call_weight : Action → (words : ℕ) → ℕ
call_weight (Eval target value next) words = 0
call_weight (Store variable kind next) words = 0
call_weight (Test condition holds fails) words = 0
call_weight (Lock lock next) words = 2 * words
call_weight (Unlock lock next) words = 0
call_weight End words = 0

abbrev pub weight_at : (Action → (words : ℕ) → ℕ) → Plan → Places → (node : ℕ) → ℕ
weight_at by p c node = elim (slice_get p.graph.nodes node) [
  | None ↦ 0
  | Some is ↦ by is.action (c.words node)
]

abbrev pub entry_ahead : Plan → Places → (node : ℕ) → ℕ
entry_ahead p c node = weight_at weight p c node

abbrev pub core_ahead : Plan → Places → (node : ℕ) → ℕ
core_ahead p c node = weight_at call_weight p c node

-- after a fragment's end; of the words of a lock or an unlock three are its call's
abbrev pub beyond : Plan → Places → ExitPoint → (node : ℕ) → ℕ
beyond p c Arrives node = entry_ahead p c node
beyond p c (Keeps owed) node = core_ahead p c node
beyond p c (Computes from local number) node = c.words from + entry_ahead p c node
beyond p c (Asks mutex next) node = 0
beyond p c (Took from) node = c.words from - 3 + entry_ahead p c node
beyond p c (Gives from mutex) node = suc (c.words from - 3 + entry_ahead p c node)
beyond p c Ends node = 0

-- the most from any place; a boundary that opens a section cleans the lines of a frame, too
abbrev pub most_ahead : System → (thread : ℕ) → ℕ
most_ahead y thread = 2 * length (code_of y.runs.program thread) + 17 + length (frame_lines y.plan.log true)

-- what is ahead is no more than is said, and that no more than the most
abbrev pub IsSoon : System → (thread before_mark ahead : ℕ) → Type 0
IsSoon y thread before_mark ahead = (ahead ≤ before_mark) × (before_mark ≤ most_ahead y thread)
