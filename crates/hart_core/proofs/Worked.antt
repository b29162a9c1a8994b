-- Worked rows: how far a hart runs ahead.
use Rattle.std.proofs.Common.{◌≡◌, ℕ, List, [], ◌∷◌, map, replicate, slice_index, Option, Some, None, refl}
use Rattle.rv64_isa.specs.declared.instr.Instr.{Instr}
use Rattle.rv64_isa.specs.declared.instr.Instr.TheVariants.{Jal, Store, OpImmediate, Op}
use Rattle.rv64_isa.specs.declared.instr.Operation.TheVariants.{Add}
use Rattle.rv64_isa.specs.declared.instr.ImmediateOperation.TheVariants.{Addi}
use Rattle.rv64_isa.specs.declared.instr.StoreKind.TheVariants.{Sd}
use Rattle.rv64_isa.specs.declared.object.Slot.TheVariants.{Row}
use Rattle.rv64_isa.specs.Arithmetic.{result_of}
use Rattle.rv64_isa.specs.Rows.{row}
use Rattle.hart_core.specs.declared.local.LocalState.{LocalState}
use Rattle.hart_core.specs.LocalSteps.{PlacedCode, local_run}

-- x5 := 7; x6 := x5 + x5; a jump over a word; and a store
instructions : List Instr
instructions = OpImmediate Addi 5 0 7 ∷ Op Add 6 5 5 ∷ Jal 0 8 ∷ OpImmediate Addi 6 0 1 ∷ Store Sd 6 8 0 ∷ []

straight : PlacedCode
straight = record { slots = map (λ instr. Row instr) instructions; start = 65536 }

first : LocalState
first = record { registers = replicate 32 0; pc = 65536 }

pc_of : Option LocalState → Option ℕ
pc_of (Some s) = Some s.pc
pc_of None = None

x6_of : Option LocalState → Option ℕ
x6_of (Some s) = Some (slice_index s.registers 6)
x6_of None = None

sum_of_two : x6_of (local_run straight first 2) ≡ Some 14
unfolding instructions straight first x6_of row result_of
sum_of_two = refl

jumps_over : pc_of (local_run straight first 3) ≡ Some 65552
unfolding instructions straight first pc_of row result_of
jumps_over = refl

stops_at_the_store : local_run straight first 4 ≡ None
unfolding instructions straight first row result_of
stops_at_the_store = refl
