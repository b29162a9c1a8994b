-- Two lists of steps of one life without a crash that differ in evictions alone, and what they have in common.
use Rattle.std.specs.Prelude.{◌≡◌, ℕ, List, [], ◌∷◌, map, slice_get, Some, Bool, true, false}
use Rattle.machine_events.specs.declared.event.Event.{Event}
use Rattle.machine_events.specs.declared.event.Event.TheVariants.{Step, Evict, Crash, Start}
use Rattle.machine_events.specs.declared.event.Reply.{Reply}
use Rattle.log_schemes.specs.declared.log.Log.{Log}
use Rattle.ido_base.specs.Words.{Word, live_value, word_at}
use Rattle.rv64_isa.specs.declared.object.Slot.{Slot}
use Rattle.machine_model.specs.declared.phase.Phase.{Phase}
use Rattle.machine_model.specs.declared.phase.Phase.TheVariants.{Take, Wait, Resume, Run, Done, Ended}
use Rattle.machine_model.specs.Machine.{Hart, World, after_event, after_events, reply_to, start_of, started_anew}
use Rattle.machine_model.specs.Schedule.{KeepsOn, Steps, steps_along, released_along}

-- ---- Harts that enter recovery

-- in that phase a hart takes its locks in recovery, waits for those that do, or is about to be resumed
abbrev pub is_entering : Phase → Bool
is_entering Take = true
is_entering Wait = true
is_entering Resume = true
is_entering Run = false
is_entering Done = false
is_entering Ended = false

-- each hart executes instructions, is done with its recovery or has ended
abbrev pub NoneEnters : World → Type 0
NoneEnters w = (h : ℕ) (hart : Hart) → slice_get w.harts h ≡ Some hart → is_entering hart.phase ≡ false

-- ---- Lists of steps

-- steps of the same harts in the same order, with any evictions before, between and after them
pub data DifferInEvictions : (one other : List Event) → Type 0 where
  no_more : DifferInEvictions [] []
  both_step : (h : ℕ) (one other : List Event) → DifferInEvictions one other → DifferInEvictions (Step h ∷ one) (Step h ∷ other)
  one_evicts : (line mask : ℕ) (one other : List Event) → DifferInEvictions one other → DifferInEvictions (Evict line mask ∷ one) other
  other_evicts : (line mask : ℕ) (one other : List Event) → DifferInEvictions one other → DifferInEvictions one (Evict line mask ∷ other)

-- the replies to the steps among the events, in their order
abbrev pub step_replies : List (List Slot) → World → List Event → List Reply
step_replies program w [] = []
step_replies program w (Step h ∷ events) = reply_to program w (Step h) ∷ step_replies program (after_event program w (Step h)) events
step_replies program w (Evict line mask ∷ events) = step_replies program (after_event program w (Evict line mask)) events
step_replies program w (Crash ∷ events) = step_replies program (after_event program w Crash) events
step_replies program w (Start ∷ events) = step_replies program (after_event program w Start) events

-- ---- What they have in common

-- of each word the values that it has had since the start or the last crash, the oldest first
abbrev pub values_of : List Word → List (List ℕ)
values_of words = map (λ (word : Word). word.values) words

-- The same harts, with the same registers, pc, phases and queues, the same holders of locks, and of each word the same values: nothing but how many of these
-- are durable may differ.
pub record DifferInDurability (one other : World) : Type 0 where
  pub all_but_words : record other { words = one.words } ≡ one
  pub values : values_of other.words ≡ values_of one.words

-- by the one list and by the other, from a world and an account of its steps on
pub record HaveInCommon (marks : List (List ℕ)) (program : List (List Slot)) (w : World) (s : Steps) (one other : List Event) : Type 0 where
  pub replies : step_replies program w other ≡ step_replies program w one
  pub worlds : DifferInDurability (after_events program w one) (after_events program w other)
  -- what a load reads
  pub live : (word : ℕ) → live_value (word_at (after_events program w other).words word) ≡ live_value (word_at (after_events program w one).words word)
  -- the steps of the source that are begun in this life
  pub begun : (steps_along marks program w other s).begun ≡ (steps_along marks program w one s).begun
  -- how often a release has left a hart with nothing
  pub released : (h before : ℕ) → released_along program w other h before ≡ released_along program w one h before

-- ---- Laws

-- where no hart enters recovery, evictions change no reply to a step, and of what the events leave only what is durable, and which steps are kept
abbrev pub EvictionsOnlyPersist : Type 0
EvictionsOnlyPersist = (marks : List (List ℕ)) (program : List (List Slot)) (w : World) (s : Steps) (one other : List Event) → NoneEnters w →
    DifferInEvictions one other → HaveInCommon marks program w s one other

-- at the start of a machine, and of another life, no hart enters recovery
abbrev pub StartsEnterNone : Type 0
StartsEnterNone = (log : Log) (program : List (List Slot)) (locks : ℕ) (initial : List ℕ) → NoneEnters (start_of log program locks initial)

abbrev pub OtherLivesEnterNone : Type 0
OtherLivesEnterNone = (program : List (List Slot)) (w : World) → NoneEnters (started_anew program w)

-- and none does as long as the life goes on
abbrev pub LivesEnterNone : Type 0
LivesEnterNone = (program : List (List Slot)) (w : World) (event : Event) → KeepsOn event → NoneEnters w → NoneEnters (after_event program w event)
