-- What a state in the code represents.
use Rattle.std.specs.Prelude.{◌≡◌, ℕ, List, length, slice_get, Some, true}
use Rattle.c_tree.specs.Flats as f
use Rattle.c_tree.specs.Source as m
use Rattle.source_machine.specs.declared.thread.ThreadState.{ThreadState}
use Rattle.source_machine.specs.declared.state.SourceState.{SourceState}
use Rattle.source_machine.specs.Lives.{restart}
use Rattle.source_machine.specs.Sections.{AreCounted}
use Rattle.source_machine.specs.links.Holders.{hold_none}
use Rattle.source_machine.specs.links.Threads.{HasStatementsLeft, IsCodeOfThread, code_of, model_of}

abbrev pub threads_in : SourceState → ℕ
threads_in state = length state.threads.items

-- the thread is that one, with what is left by its code
pub record RepresentsThread (thread : ThreadState) (model : m.Thread) : Type 0 where
  pub left : List f.Statement
  pub code : HasStatementsLeft thread left
  pub is : model ≡ model_of thread left

-- the state is that one, and of each thread so many sections have ended
pub record RepresentsState (state : SourceState) (s : m.State) (ended : ℕ → ℕ) : Type 0 where
  pub variables : s.variables ≡ state.variables
  pub holders : s.holders ≡ state.holders.items
  pub count : length s.threads ≡ length state.threads.items
  pub each : (k : ℕ) (thread : ThreadState) (model : m.Thread) → slice_get state.threads.items k ≡ Some thread → slice_get s.threads k ≡ Some model →
      RepresentsThread thread model
  pub sections : AreCounted state.sections.items ended

-- ---- From one life to the next

-- the state is one of a run of the flat form: it has the form's mutexes and threads, and each thread has its code
pub record IsRunOf (state : SourceState) (x : f.Flat) : Type 0 where
  pub holders : length state.holders.items ≡ length x.mutexes
  pub count : length state.threads.items ≡ length x.threads
  pub each : (k : ℕ) (thread : ThreadState) (source : f.Thread) → slice_get state.threads.items k ≡ Some thread → slice_get x.threads k ≡ Some source →
      IsCodeOfThread (code_of thread) source

-- of whichever form it was one
abbrev pub KeepsRun : (before after : SourceState) → Type 0
KeepsRun before after = (x : f.Flat) → IsRunOf before x → IsRunOf after x

-- no thread holds a mutex
abbrev pub AreBetween : SourceState → Type 0
AreBetween state = hold_none state.holders.items (threads_in state) ≡ true

-- the state is that in which the next life begins, and as many sections have ended
abbrev pub Restarts : (before after : SourceState) → Type 0
Restarts before after =
    (x : f.Flat) (s : m.State) (ended : ℕ → ℕ) → IsRunOf before x → RepresentsState before s ended → RepresentsState after (restart x s) ended
