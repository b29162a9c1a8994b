-- What a thread in the code represents, and what a step of it is.
use Rattle.std.specs.Prelude.{◌≡◌, ℕ, List, length, slice_set, Option, Some, None, ℤ}
use Rattle.std.specs.Option.{option_map}
use Rattle.c_tree.specs.Flats as f
use Rattle.c_tree.specs.Source as m
use Rattle.source_machine.specs.Answers.{answer_of}
use Rattle.source_machine.specs.Assignments.{pending_of}
use Rattle.source_machine.specs.links.Codes.{Lefts, At, IsCode}
use Rattle.source_machine.specs.declared.code.Node.{Node}
use Rattle.source_machine.specs.declared.answers.Stepped.{Stepped}
use Rattle.source_machine.specs.declared.thread.ThreadState.{ThreadState}

-- ---- Threads and states

-- the thread, where these statements are left to do
abbrev pub model_of : ThreadState → (left : List f.Statement) → m.Thread
model_of thread left = record { left = left; locals = thread.locals.items; pending = option_map pending_of thread.pending; ended = thread.ended }

-- by the thread's code these statements are left where it stands
pub record HasStatementsLeft (thread : ThreadState) (left : List f.Statement) : Type 0 where
  pub lefts : Lefts
  pub nodes : IsCode thread.nodes.items lefts
  pub here : At lefts thread.at left

-- the thread is at its start
pub record IsStarted (thread : ThreadState) (source : f.Thread) : Type 0 where
  pub left : List f.Statement
  pub code : HasStatementsLeft thread left
  pub is : model_of thread left ≡ m.thread_start source

-- ---- What no step of a thread changes

pub record ThreadCode : Type 0 where
  pub nodes : List Node
  -- where they begin
  pub start : ℕ
  -- how many locals there are
  pub locals : ℕ

abbrev pub code_of : ThreadState → ThreadCode
code_of thread = record { nodes = thread.nodes.items; start = thread.start; locals = length thread.locals.items }

-- the code is that of the source's thread
pub record IsCodeOfThread (code : ThreadCode) (source : f.Thread) : Type 0 where
  pub lefts : Lefts
  pub nodes : IsCode code.nodes lefts
  pub start : At lefts code.start (m.opened_all source.body)
  pub locals : code.locals ≡ length source.locals

-- the thread is at its start, whichever source has its code
abbrev pub StartsAnew : ThreadCode → ThreadState → Type 0
StartsAnew code thread = (source : f.Thread) → IsCodeOfThread code source → IsStarted thread source

-- ---- States by their parts

abbrev pub state_in : (variables : List (List ℤ)) → (holders : List (Option ℕ)) → List m.Thread → m.State
state_in variables holders threads = record { variables = variables; holders = holders; threads = threads }

-- ---- A step of a thread

-- the state after a step, or the same where there is none
abbrev pub reached : (step : Option m.State) → (before : m.State) → m.State
reached (Some next) before = next
reached None before = before

-- what a step of one thread changes
pub record Hand : Type 0 where
  pub thread : ThreadState
  pub variables : List (List ℤ)
  pub holders : List (Option ℕ)

abbrev pub hand : ThreadState → (variables : List (List ℤ)) → (holders : List (Option ℕ)) → Hand
hand thread variables holders = record { thread = thread; variables = variables; holders = holders }

-- the state with these threads
abbrev pub state_with : Hand → List m.Thread → m.State
state_with h threads = state_in h.variables h.holders threads

pub record IsMade (number : ℕ) (before after : Hand) (answer : Stepped) (threads : List m.Thread) (left : List f.Statement) : Type 0 where
  pub left_after : List f.Statement
  pub code : HasStatementsLeft after.thread left_after
  pub state : reached (m.thread_step (state_with before threads) number (model_of before.thread left))
      (m.with_thread (state_with before threads) number (model_of before.thread left)) ≡ state_with after
      (slice_set threads number (model_of after.thread left_after))
  pub answered : answer ≡ answer_of (model_of before.thread left) (m.thread_step (state_with before threads) number (model_of before.thread left))

-- the step is made so, whatever is left to do by the thread's code
abbrev pub StepIsMade : (number : ℕ) → (before after : Hand) → Stepped → Type 0
StepIsMade number before after answer =
    (left : List f.Statement) (threads : List m.Thread) → HasStatementsLeft before.thread left → IsMade number before after answer threads left
