-- Worked rows: x = x + 1 by a load, a store, a clean and a fence, and calls.
use Rattle.std.proofs.Common.{zero, suc, subst, ◌≤◌, ◌≡◌, ℕ, List, [], ◌∷◌, length, replicate, refl, Bool, true, false, Option, Some, None}
use Rattle.std.specs.Prelude.{slice_get, slice_set}
use Rattle.log_schemes.specs.declared.log.Log.TheVariants.{V1}
use Rattle.machine_events.specs.declared.event.Event.{Event}
use Rattle.machine_events.specs.declared.event.Event.TheVariants.{Step}
use Rattle.machine_events.specs.declared.event.Reply.{Reply}
use Rattle.machine_events.specs.declared.event.Reply.TheVariants.{Moved, Drained, Waits}
use Rattle.ido_base.specs.Words.{Word, word_of, word_at, live_value, durable_value, entry_of}
use Rattle.rv64_isa.specs.declared.instr.Instr.{Instr}
use Rattle.rv64_isa.specs.declared.instr.Instr.TheVariants.{Load, Store, OpImmediate, CboClean, Fence, Ecall}
use Rattle.rv64_isa.specs.declared.instr.ImmediateOperation.TheVariants.{Addi}
use Rattle.rv64_isa.specs.declared.instr.LoadKind.TheVariants.{Ld}
use Rattle.rv64_isa.specs.declared.instr.StoreKind.TheVariants.{Sd}
use Rattle.rv64_isa.specs.declared.object.Slot.{Slot}
use Rattle.rv64_isa.specs.declared.object.Slot.TheVariants.{Row}
use Rattle.machine_model.specs.declared.phase.Phase.{Phase}
use Rattle.machine_model.specs.declared.phase.Phase.TheVariants.{Run, Done}
use Rattle.rv64_isa.specs.Arithmetic.{result_of}
use Rattle.rv64_isa.specs.Rows.{Stores, Cleans, Fences, row}
use Rattle.machine_model.specs.Machine.{Hart, World, happens, after_event, after_events, reply_to}
use Rattle.code_runs.specs.ComputingRuns.{LocalConfig, config}
use Rattle.code_runs.specs.CodeTraces.{MarkedEnvironment, Observation, Mark, Does, Trace}
use Rattle.hart_runs.specs.HartsOnRuns.{instr_at, live_loads, environment_of, Agrees, IsOnTrace}
use Rattle.hart_runs.specs.RunSteps.{steps_left}
use Rattle.hart_runs.specs.Laws.{AreCrashless, own_steps, ComesTo}
use Rattle.hart_runs.proofs.Worlds.{none_some, some_same}
use Rattle.hart_runs.proofs.Delay.{harts_come}
use Rattle.machine_model.specs.Frames.{IsWellFormedWorld}
use Rattle.ido_base.specs.Growth.{AreEntries}
use Rattle.log_schemes.specs.Layout.{word_count}

abbrev code : List Instr
code = Load Ld 5 28 0 ∷ OpImmediate Addi 5 5 1 ∷ Store Sd 5 28 0 ∷ CboClean 28 ∷ Fence ∷ Ecall ∷ []

abbrev rows : List Instr → List Slot
rows [] = []
rows (instr ∷ instrs) = Row instr ∷ rows instrs

abbrev program : List (List Slot)
program = rows code ∷ []

-- the mark is the store
abbrev marks : List ℕ
marks = 0x10008 ∷ []

-- the address of x, and a call's number
abbrev registers : (five seventeen : ℕ) → List ℕ
registers five seventeen = slice_set (slice_set (slice_set (replicate 32 0) 28 0x10000000) 5 five) 17 seventeen

abbrev world_of : (holders : List (Option ℕ)) → (recovering : Bool) → Hart → World
world_of holders recovering hart =
    record { words = word_of 6 ∷ replicate 7 (word_of 0); harts = hart ∷ []; holders = holders; recovering = recovering; log = V1 }

abbrev first : World
first = world_of (None ∷ []) false (record { registers = registers 0 0; pc = 0x10000; phase = Run; queue = [] })

abbrev all : ℕ → ℕ → Bool
all address bytes = true

-- what is around the code, by what loads give
abbrev s : (loads : ℕ → ℕ → Option ℕ) → MarkedEnvironment
s loads = record { around = record { fetch = instr_at program 0; loads = loads }; marks = marks }

abbrev seen : List Observation
seen = Mark ∷ Does (Stores 0x10000000 8 7) ∷ Does (Cleans 0x10000000) ∷ Does Fences ∷ []

abbrev to : LocalConfig
to = config (registers 7 0) 0x10014

-- ---- The run

module _ (loads : ℕ → ℕ → Option ℕ) where
  fence : Trace (s loads) 1 (config (registers 7 0) 0x10010) (Does Fences ∷ []) to
  unfolding row
  fence = (to, Does Fences ∷ [], [], record { instr = Fence; stands = refl; does = refl; sees = refl }, (refl, refl), refl)

  clean : Trace (s loads) 2 (config (registers 7 0) 0x1000c) (Does (Cleans 0x10000000) ∷ Does Fences ∷ []) to
  unfolding row
  clean = (
    config (registers 7 0) 0x10010,
    Does (Cleans 0x10000000) ∷ [],
    Does Fences ∷ [],
    record { instr = CboClean 28; stands = refl; does = refl; sees = refl },
    fence,
    refl,
  )

  store : Trace (s loads) 3 (config (registers 7 0) 0x10008) seen to
  unfolding row
  store = (
    config (registers 7 0) 0x1000c,
    Mark ∷ Does (Stores 0x10000000 8 7) ∷ [],
    Does (Cleans 0x10000000) ∷ Does Fences ∷ [],
    record { instr = Store Sd 5 28 0; stands = refl; does = refl; sees = refl },
    clean,
    refl,
  )

  add : Trace (s loads) 4 (config (registers 6 0) 0x10004) seen to
  unfolding row result_of
  add = (config (registers 7 0) 0x10008, [], seen, record { instr = OpImmediate Addi 5 5 1; stands = refl; does = refl; sees = refl }, store, refl)

-- memory gives 6
load : Trace (environment_of program marks all first 0) 5 (config (registers 0 0) 0x10000) seen to
unfolding row
load = (
  config (registers 6 0) 0x10004,
  [],
  seen,
  record { instr = Load Ld 5 28 0; stands = refl; does = refl; sees = refl },
  add (live_loads all first),
  refl,
)

stands : IsOnTrace first 0 (environment_of program marks all first 0) 5 seen to
stands = record {
  hart = record { registers = registers 0 0; pc = 0x10000; phase = Run; queue = [] };
  here = refl;
  runs = refl;
  walks = load;
  may = (refl, (refl, (refl, tt)));
}

left : steps_left 5 seen [] ≡ 6
left = refl

-- ---- The store, clean and fence, whatever happens between them

module _ (ws : List Word) (size : length ws ≡ word_count V1 1) where
  before : World
  before = record {
    words = ws;
    harts = record { registers = registers 7 0; pc = 0x10008; phase = Run; queue = [] } ∷ [];
    holders = None ∷ [];
    recovering =
        false;
    log = V1;
  }

  no_loads : ℕ → ℕ → Option ℕ
  no_loads address bytes = None

  on : IsOnTrace before 0 (s no_loads) 3 seen to
  unfolding before
  on = record {
    hart = record { registers = registers 7 0; pc = 0x10008; phase = Run; queue = [] };
    here = refl;
    runs = refl;
    walks = store no_loads;
    may = (refl, (refl, (refl, tt)));
  }

  sound : IsWellFormedWorld before
  unfolding before
  sound = record { size = size; queues = none }
    where
      none : (h : ℕ) (hart : Hart) → slice_get before.harts h ≡ Some hart → AreEntries ws hart.queue
      none zero hart e = subst (λ (x : Hart). AreEntries ws x.queue) (some_same _ hart e) tt
      none (suc h) hart e = absurd (none_some hart e)

  agrees : (w : World) → Agrees program w 0 (s no_loads)
  unfolding no_loads
  agrees w = record { fetches = λ address instr e. e; loads = λ address bytes value e. absurd (none_some value e) }

  -- four steps are enough
  comes_whatever : (events : List Event) → AreCrashless events → 4 ≤ own_steps 0 events → ComesTo program before 0 events to 4
  unfolding before on
  comes_whatever events crashless enough =
      harts_come program before 0 (s no_loads) 3 seen to events refl sound on crashless
      (λ prefix suffix parts steps later stands. agrees (after_events program before prefix)) enough

-- ---- What comes of it

-- where the hart is, what is queued, and what x is now and durably
record Told : Type 0 where
  pc : ℕ
  queued : ℕ
  live : ℕ
  durable : ℕ
  reply : Reply

told : World → Told
told w = of (slice_get w.harts 0)
  where
    of : Option Hart → Told
    of None = record { pc = 0; queued = 0; live = 0; durable = 0; reply = Moved }
    of (Some hart) = record {
      pc = hart.pc;
      queued = length hart.queue;
      live = live_value (word_at w.words 0);
      durable = durable_value (word_at w.words 0);
      reply = reply_to program w (Step 0);
    }

-- the fence waits for the queue
at_fence : told (after_events program first (replicate 4 (Step 0))) ≡ record { pc = 0x10010; queued = 1; live = 7; durable = 6; reply = Drained }
unfolding told happens row result_of
at_fence = refl

-- the fifth step has written the entry back, and the sixth passes the fence
written_back : told (after_events program first (replicate 5 (Step 0))) ≡ record { pc = 0x10010; queued = 0; live = 7; durable = 7; reply = Moved }
unfolding told happens row result_of
written_back = refl

comes : slice_get (after_events program first (replicate 6 (Step 0))).harts 0 ≡ Some
    (record { registers = registers 7 0; pc = 0x10014; phase = Run; queue = [] })
unfolding happens row result_of
comes = refl

-- a clean waits where the queue is full
full : World
full = record first { harts = record { registers = registers 7 0; pc = 0x1000c; phase = Run; queue = replicate 16 (entry_of first.words 0) } ∷ [] }

at_clean : told full ≡ record { pc = 0x1000c; queued = 16; live = 6; durable = 6; reply = Drained }
unfolding full told happens row result_of
at_clean = refl

drained_once : told (after_event program full (Step 0)) ≡ record { pc = 0x1000c; queued = 15; live = 6; durable = 6; reply = Moved }
unfolding full told happens row result_of
drained_once = refl

-- ---- Calls

abbrev calling : (number : ℕ) → (holders : List (Option ℕ)) → (recovering : Bool) → World
calling number holders recovering = world_of holders recovering (record { registers = registers 0 number; pc = 0x10014; phase = Run; queue = [] })

abbrev phase_of : World → Option Phase
phase_of w = elim (slice_get w.harts 0) [
  | Some hart ↦ Some hart.phase
  | None ↦ None
]

acquires : (after_event program (calling 1 (None ∷ []) false) (Step 0)).holders ≡ Some 0 ∷ []
unfolding happens row
acquires = refl

waits : reply_to program (calling 1 (Some 3 ∷ []) false) (Step 0) ≡ Waits 0 3
unfolding happens row
waits = refl

-- the last release in recovery makes the hart done, and no other one does
done : phase_of (after_event program (calling 2 (Some 0 ∷ Some 3 ∷ []) true) (Step 0)) ≡ Some Done
unfolding happens row
done = refl

not_recovering : phase_of (after_event program (calling 2 (Some 0 ∷ Some 3 ∷ []) false) (Step 0)) ≡ Some Run
unfolding happens row
not_recovering = refl

holds_another : phase_of (after_event program (calling 2 (Some 0 ∷ Some 0 ∷ []) true) (Step 0)) ≡ Some Run
unfolding happens row
holds_another = refl
