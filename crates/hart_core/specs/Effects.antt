-- What the effects in the code represent.
use Rattle.std.specs.Prelude.{ℕ, List}
use Rattle.rv64_isa.specs.Rows.{Effect as Meaning, Continues, Loads as TheLoad, Stores as TheStore, Cleans as TheClean}
use Rattle.rv64_isa.specs.Rows.{Fences as TheFence, Calls as TheCall, written, load_bytes, load_signed, store_bytes}
use Rattle.hart_core.specs.declared.effects.Effect.{Effect}
use Rattle.hart_core.specs.declared.effects.Effect.TheVariants.{Writes, Goes, Loads, Stores, Cleans, Fences, Calls}

-- the effect that the code speaks of, of a hart with these registers
abbrev pub effect_in : Effect → List ℕ → Meaning
effect_in (Writes register value pc) registers = Continues (written registers register value) pc
effect_in (Goes pc) registers = Continues registers pc
effect_in (Loads kind address register) registers = TheLoad address (load_bytes kind) (load_signed kind) register
effect_in (Stores kind address value) registers = TheStore address (store_bytes kind) value
effect_in (Cleans address) registers = TheClean address
effect_in Fences registers = TheFence
effect_in Calls registers = TheCall
