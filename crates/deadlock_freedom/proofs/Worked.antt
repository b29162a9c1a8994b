-- Worked rows: harts that wait for each other. None can step, and none has stopped; where one of their locks is free, who wants it can.
use Rattle.std.proofs.Common.{◌≡◌, ℕ, List, [], ◌∷◌, replicate, refl, true, Option, Some, None}
use Rattle.std.specs.Prelude.{slice_set}
use Rattle.log_schemes.specs.declared.log.Log.TheVariants.{V1}
use Rattle.machine_events.specs.Cores.{least_enabled}
use Rattle.rv64_isa.specs.declared.instr.Instr.TheVariants.{Ecall}
use Rattle.rv64_isa.specs.declared.object.Slot.{Slot}
use Rattle.rv64_isa.specs.declared.object.Slot.TheVariants.{Row}
use Rattle.machine_model.specs.declared.phase.Phase.{Phase}
use Rattle.machine_model.specs.declared.phase.Phase.TheVariants.{Run, Done, Ended}
use Rattle.rv64_isa.specs.Programs.{code_start}
use Rattle.rv64_isa.specs.Rows.{row}
use Rattle.machine_model.specs.Machine.{Hart, happens}
use Rattle.machine_model.specs.Schedule.{only_life}
use Rattle.run_tracker.specs.ObjectLives.{LifeConfig, living}

-- two harts, each at a call
program : List (List Slot)
program = (Row Ecall ∷ []) ∷ (Row Ecall ∷ []) ∷ []

-- for a lock
asks : (h lock : ℕ) → Phase → Hart
unfolding program
asks h lock phase = record {
  registers = slice_set (slice_set (replicate 32 0) 17 1) 10 lock;
  pc = code_start program h;
  phase = phase;
  queue = [];
}

-- of two locks
config : (holders : List (Option ℕ)) → List Hart → LifeConfig
unfolding program
config holders harts = record {
  runs = record { log = V1; program = program; marks = []; resumes = []; initial = []; mutexes = 2 };
  kept_before = only_life [];
  ended_before = [];
  world = record { log = V1; words = []; harts = harts; holders = holders; recovering = true };
}

-- each wants what the other holds
crossed : least_enabled living (config (Some 0 ∷ Some 1 ∷ []) (asks 0 1 Run ∷ asks 1 0 Run ∷ [])) 2 ≡ None
unfolding row happens program asks config
crossed = refl

-- the first one waits for the second, whose lock is free
waits : least_enabled living (config (None ∷ Some 1 ∷ []) (asks 0 1 Run ∷ asks 1 0 Run ∷ [])) 2 ≡ Some 1
unfolding row happens program asks config
waits = refl

-- both have stopped
stopped : least_enabled living (config (None ∷ None ∷ []) (asks 0 0 Ended ∷ asks 1 1 Done ∷ [])) 2 ≡ None
unfolding row happens program asks config
stopped = refl
