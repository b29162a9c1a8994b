-- Worked rows of the definitions.
use Rattle.std.proofs.Common.{◌≡◌, List, [], ◌∷◌, ◌++◌, refl, replicate}
use Rattle.machine_events.specs.declared.event.Event.{Event}
use Rattle.machine_events.specs.declared.event.Event.TheVariants.{Step, Evict, Crash}
use Rattle.log_schemes.specs.declared.log.Log.TheVariants.{V1}
use Rattle.ido_base.specs.Words.{live_value, durable_value, word_at}
use Rattle.log_schemes.specs.Layout.{initial_words}
use Rattle.rv64_isa.specs.declared.instr.Instr.TheVariants.{Lui, Store, OpImmediate, CboClean, Fence}
use Rattle.rv64_isa.specs.declared.instr.ImmediateOperation.TheVariants.{Addi}
use Rattle.rv64_isa.specs.declared.instr.StoreKind.TheVariants.{Sd}
use Rattle.rv64_isa.specs.declared.object.Slot.{Slot}
use Rattle.rv64_isa.specs.declared.object.Slot.TheVariants.{Row}
use Rattle.rv64_isa.specs.Arithmetic.{result_of}
use Rattle.rv64_isa.specs.Rows.{row}
use Rattle.machine_model.specs.Machine.{World, start_of, after_events, happens, after_crash_of, resumed_registers}

-- x5 := 0x10000000; x6 := 7; stored, cleaned, fenced
code : List Slot
code = Row (Lui 5 0x10000) ∷ Row (OpImmediate Addi 6 0 7) ∷ Row (Store Sd 6 5 0) ∷ Row (CboClean 5) ∷ Row Fence ∷ []

after : List Event → World
after events = after_events (code ∷ []) (start_of V1 (code ∷ []) 1 (5 ∷ [])) events

live_seven : live_value (word_at (after (replicate 3 (Step 0))).words 0) ≡ 7
unfolding initial_words start_of happens row result_of after code
live_seven = refl

not_durable : durable_value (word_at (after (replicate 4 (Step 0))).words 0) ≡ 5
unfolding initial_words start_of happens row result_of after code
not_durable = refl

durable_by_fence : durable_value (word_at (after (replicate 5 (Step 0))).words 0) ≡ 7
unfolding initial_words start_of happens row result_of after code
durable_by_fence = refl

durable_by_eviction : durable_value (word_at (after (replicate 3 (Step 0) ++ Evict 0 1 ∷ [])).words 0) ≡ 7
unfolding initial_words start_of happens row result_of after code
durable_by_eviction = refl

lost_by_crash : live_value (word_at (after (replicate 4 (Step 0) ++ Crash ∷ [])).words 0) ≡ 5
unfolding initial_words start_of happens row result_of after code after_crash_of resumed_registers
lost_by_crash = refl
