-- What a step of a hart makes of the world while it stands on a run.
use Rattle.std.specs.Prelude.{◌≡◌, ℕ, suc, ◌+◌, ◌/◌, ◌<◌, ◌≤◌, List, [], ◌∷◌, ◌++◌, length, Some, Bool, true, false, if◌then◌else◌}
use Rattle.machine_events.specs.declared.event.Event.TheVariants.{Step}
use Rattle.machine_events.specs.declared.event.Reply.TheVariants.{Moved, Drained}
use Rattle.ido_base.specs.Words.{Word, Entry, stored, entry_of, drained}
use Rattle.ido_base.specs.Layout.{byte_number, line_bytes}
use Rattle.rv64_isa.specs.declared.object.Slot.{Slot}
use Rattle.rv64_isa.specs.Rows.{Effect, Continues, Loads, Stores, Cleans, Fences, Calls}
use Rattle.machine_model.specs.Machine.{World, with_hart, queue_limit, after_event, reply_to}
use Rattle.machine_model.specs.Schedule.{effect_at}
use Rattle.code_runs.specs.ComputingRuns.{LocalConfig, config}
use Rattle.code_runs.specs.CodeTraces.{Observation, Mark, Does, marked, outside, passed}
use Rattle.hart_runs.specs.HartsOnRuns.{IsOnTrace, OnRun}

-- ---- What an instruction makes of words and of its hart's queue

pub record Contents : Type 0 where
  pub words : List Word
  pub queue : List Entry

-- what comes after an instruction of that effect, once it is completed: a clean queues its line after all others, and a fence is passed with an empty queue
abbrev pub Changes : (old : Contents) → Effect → (new : Contents) → Type 0
Changes old (Continues registers pc) new = new ≡ old
Changes old (Loads address bytes signed register) new = new ≡ old
Changes old (Stores address bytes value) new = new ≡ record old { words = stored old.words (byte_number address) bytes value }
Changes old (Cleans address) new = (length old.queue < queue_limit) ×
    (new ≡ record old { queue = old.queue ++ entry_of old.words (byte_number address / line_bytes) ∷ [] })
Changes old Fences new = (old.queue ≡ []) × (new ≡ old)
Changes old Calls new = ⊥

-- what can't be completed before an entry of the queue is written back: a fence, and a clean where the queue is full
abbrev pub IsHeldUp : (queue : List Entry) → Effect → Type 0
IsHeldUp queue (Continues registers pc) = ⊥
IsHeldUp queue (Loads address bytes signed register) = ⊥
IsHeldUp queue (Stores address bytes value) = ⊥
IsHeldUp queue (Cleans address) = queue_limit ≤ length queue
IsHeldUp queue Fences = 1 ≤ length queue
IsHeldUp queue Calls = ⊥

-- ---- What a step of a hart on a run does

-- the next instruction is completed: the hart stands after it, on the rest of the run
pub record GoesForward (program : List (List Slot)) (w : World) (h : ℕ) (run : OnRun w h) : Type 0 where
  pub effect : Effect
  pub effect_is : effect_at program h run.on.hart ≡ Some effect
  pub later : List Observation
  pub seen_is : run.seen ≡ (marked run.environment.marks run.on.hart.pc ++ outside effect) ++ later
  -- the local config after it
  pub by : LocalConfig
  pub leads : passed run.environment.around (config run.on.hart.registers run.on.hart.pc) effect ≡ Some by
  pub contents : Contents
  pub changes : Changes (record { words = w.words; queue = run.on.hart.queue }) effect contents
  pub world : after_event program w (Step h) ≡
      with_hart (record w { words = contents.words }) h (record run.on.hart { registers = by.registers; pc = by.pc; queue = contents.queue })
  pub reply : reply_to program w (Step h) ≡ Moved
  pub on : IsOnTrace (after_event program w (Step h)) h run.environment run.steps later run.to
  pub same : on.hart ≡ record run.on.hart { registers = by.registers; pc = by.pc; queue = contents.queue }

-- the oldest entry of the queue is written back, and the hart stands where it stood
pub record Drains (program : List (List Slot)) (w : World) (h : ℕ) (run : OnRun w h) : Type 0 where
  pub effect : Effect
  pub effect_is : effect_at program h run.on.hart ≡ Some effect
  pub held_up : IsHeldUp run.on.hart.queue effect
  pub entry : Entry
  pub rest : List Entry
  pub queue_is : run.on.hart.queue ≡ entry ∷ rest
  pub world : after_event program w (Step h) ≡ with_hart (record w { words = drained w.words entry }) h (record run.on.hart { queue = rest })
  pub reply : reply_to program w (Step h) ≡ Drained
  pub on : IsOnTrace (after_event program w (Step h)) h run.environment (suc run.steps) run.seen run.to
  pub same : on.hart ≡ record run.on.hart { queue = rest }

-- ---- How many steps are left

abbrev pub is_clean : Effect → Bool
is_clean (Cleans address) = true
is_clean (Continues registers pc) = false
is_clean (Loads address bytes signed register) = false
is_clean (Stores address bytes value) = false
is_clean Fences = false
is_clean Calls = false

-- how many cleans are seen
abbrev pub cleans_in : List Observation → ℕ
cleans_in [] = 0
cleans_in (Mark ∷ seen) = cleans_in seen
cleans_in (Does effect ∷ seen) = (if is_clean effect then 1 else 0) + cleans_in seen

-- the most steps that a hart needs for a run: one for each instruction, and for each entry that is queued or will be
abbrev pub steps_left : (steps : ℕ) → (seen : List Observation) → (queue : List Entry) → ℕ
steps_left steps seen queue = steps + cleans_in seen + length queue
