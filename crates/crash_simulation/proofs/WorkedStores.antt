-- Worked rows: where harts have stored last.
use Rattle.std.proofs.Common.{◌≡◌, List, [], ◌∷◌, ◌++◌, map, replicate, Some, None, refl}
use Rattle.machine_events.specs.declared.event.Event.{Event}
use Rattle.machine_events.specs.declared.event.Event.TheVariants.{Step, Evict, Crash}
use Rattle.log_schemes.specs.declared.log.Log.TheVariants.{V1}
use Rattle.log_schemes.specs.Layout.{initial_words}
use Rattle.rv64_isa.specs.declared.instr.Instr.{Instr}
use Rattle.rv64_isa.specs.declared.instr.Instr.TheVariants.{Lui, Store}
use Rattle.rv64_isa.specs.declared.instr.StoreKind.TheVariants.{Sd}
use Rattle.rv64_isa.specs.declared.object.Slot.{Slot}
use Rattle.rv64_isa.specs.declared.object.Slot.TheVariants.{Row}
use Rattle.rv64_isa.specs.Arithmetic.{result_of}
use Rattle.rv64_isa.specs.Rows.{row}
use Rattle.machine_model.specs.Machine.{World, happens, start_of}
use Rattle.crash_simulation.specs.StorePositions.{last_store}

-- stores into the first word, into the second one, and into the first one again
code : List Instr
code = Lui 28 0x1_0000 ∷ Store Sd 29 28 0 ∷ Store Sd 28 28 8 ∷ Store Sd 28 28 0 ∷ []

program : List (List Slot)
unfolding code
program = map Row code ∷ map Row code ∷ []

world : World
world = start_of V1 program 1 (5 ∷ [])

-- hart 0 makes all of its stores, and then hart 1 its first one
events : List Event
events = replicate 4 (Step 0) ++ Step 1 ∷ Step 1 ∷ []

own_last : last_store program world events 0 0 ≡ Some 2
unfolding events world program code start_of initial_words happens row result_of
own_last = refl

own_other_word : last_store program world events 0 1 ≡ Some 1
unfolding events world program code start_of initial_words happens row result_of
own_other_word = refl

other_hart : last_store program world events 1 0 ≡ Some 3
unfolding events world program code start_of initial_words happens row result_of
other_hart = refl

-- hart 1 has not come to its store into the second word
none_yet : last_store program world events 1 1 ≡ None
unfolding events world program code start_of initial_words happens row result_of
none_yet = refl

-- an eviction makes no store, and after a crash there is none
evicted : last_store program world (events ++ Evict 0 255 ∷ []) 0 0 ≡ Some 2
unfolding events world program code start_of initial_words happens row result_of
evicted = refl

crashed : last_store program world (events ++ Crash ∷ []) 0 0 ≡ None
unfolding events world program code start_of initial_words happens row result_of
crashed = refl
