-- Worked rows: what harts have done first to bytes.
use Rattle.std.proofs.Common.{◌≡◌, List, [], ◌∷◌, ◌++◌, map, replicate, Some, None, refl}
use Rattle.machine_events.specs.declared.event.Event.{Event}
use Rattle.machine_events.specs.declared.event.Event.TheVariants.{Step, Evict, Crash}
use Rattle.log_schemes.specs.declared.log.Log.TheVariants.{V1}
use Rattle.log_schemes.specs.Layout.{initial_words}
use Rattle.rv64_isa.specs.declared.instr.Instr.{Instr}
use Rattle.rv64_isa.specs.declared.instr.Instr.TheVariants.{Load, Lui, Store}
use Rattle.rv64_isa.specs.declared.instr.LoadKind.TheVariants.{Ld}
use Rattle.rv64_isa.specs.declared.instr.StoreKind.TheVariants.{Sb, Sd}
use Rattle.rv64_isa.specs.declared.object.Slot.{Slot}
use Rattle.rv64_isa.specs.declared.object.Slot.TheVariants.{Row}
use Rattle.rv64_isa.specs.Arithmetic.{result_of}
use Rattle.rv64_isa.specs.Rows.{row}
use Rattle.machine_model.specs.Machine.{World, happens, start_of}
use Rattle.crash_simulation.specs.Accesses.{first_access, load, store}

-- loads the first word and stores into it, stores to the first byte of the second word and loads that word, and then stores the point of the first thread
code : List Instr
code = Lui 28 0x1_0000 ∷ Load Ld 29 28 0 ∷ Store Sd 29 28 0 ∷ Store Sb 29 28 8 ∷ Load Ld 30 28 8 ∷ Lui 31 0x2_0000 ∷ Store Sd 29 31 0 ∷ []

program : List (List Slot)
unfolding code
program = map Row code ∷ map Row code ∷ []

world : World
world = start_of V1 program 1 (5 ∷ [])

-- hart 0 has come to its store of the point
events : List Event
events = replicate 6 (Step 0)

loaded_then_stored : first_access program world events 0 0x1000_0000 ≡ Some load
unfolding events world program code start_of initial_words happens row result_of
loaded_then_stored = refl

loaded_to_its_end : first_access program world events 0 0x1000_0007 ≡ Some load
unfolding events world program code start_of initial_words happens row result_of
loaded_to_its_end = refl

stored_then_loaded : first_access program world events 0 0x1000_0008 ≡ Some store
unfolding events world program code start_of initial_words happens row result_of
stored_then_loaded = refl

-- beside the byte that is stored
only_loaded : first_access program world events 0 0x1000_0009 ≡ Some load
unfolding events world program code start_of initial_words happens row result_of
only_loaded = refl

untouched : first_access program world events 0 0x1000_0010 ≡ None
unfolding events world program code start_of initial_words happens row result_of
untouched = refl

other_hart : first_access program world events 1 0x1000_0000 ≡ None
unfolding events world program code start_of initial_words happens row result_of
other_hart = refl

-- an eviction accesses nothing, and after the store of its point, or a crash, a hart has done nothing
evicted : first_access program world (events ++ Evict 0 255 ∷ []) 0 0x1000_0000 ≡ Some load
unfolding events world program code start_of initial_words happens row result_of
evicted = refl

point_stored : first_access program world (events ++ Step 0 ∷ []) 0 0x1000_0000 ≡ None
unfolding events world program code start_of initial_words happens row result_of
point_stored = refl

crashed : first_access program world (events ++ Crash ∷ []) 0 0x1000_0008 ≡ None
unfolding events world program code start_of initial_words happens row result_of
crashed = refl
