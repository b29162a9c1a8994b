-- Worked rows of the definitions: a boundary of the first thread that keeps lock 0 and no register.
use Rattle.std.proofs.Common.{◌≡◌, ℕ, List, [], ◌∷◌, refl, pos}
use Rattle.std.specs.Prelude.{replicate, slice_set, None, Some, true, false}
use Rattle.log_schemes.specs.declared.log.Log.TheVariants.{V1, V2, Justdo}
use Rattle.rv64_isa.specs.declared.instr.Instr.{Instr}
use Rattle.rv64_isa.specs.declared.instr.Instr.TheVariants.{Lui, OpImmediate}
use Rattle.rv64_isa.specs.declared.instr.ImmediateOperation.TheVariants.{Addi}
use Rattle.rv64_isa.specs.Rows.{Stores, Cleans, Fences, row, read}
use Rattle.rv64_isa.specs.Arithmetic.{result_of}
use Rattle.operator_code.specs.StraightLineCode.{effects, registers_after}
use Rattle.boundary_code.specs.Boundaries.{Boundary, boundary_effects, boundary_list, lines_in_use}

first : Boundary
first = record { log = V1; thread = 0; locks = 0 ∷ []; live = []; resume = pos 0; written = None; opens = false }

code : List Instr
unfolding first
code = boundary_list first (Lui 31 0x2_0000 ∷ []) (OpImmediate Addi 7 0 1 ∷ []) []

zeros : List ℕ
zeros = replicate 32 0

seen_of_code : effects code zeros 0x1_0000 ≡
    Stores 0x2000_0140 8 1 ∷ Cleans 0x2000_0140 ∷ Fences ∷ Stores 0x2000_0000 8 0x1_003D ∷ Cleans 0x2000_0000 ∷ Fences ∷ []
unfolding first code zeros row result_of
seen_of_code = refl

as_defined : boundary_effects first 0 0x1_003C zeros ≡ effects code zeros 0x1_0000
unfolding first code zeros row result_of
as_defined = refl

other_bank : read (registers_after code zeros 0x1_0000) 3 ≡ 256
unfolding first code zeros row result_of
other_bank = refl

-- after a boundary that wrote the second bank, the next one writes the first
back : effects code (slice_set zeros 3 256) 0x1_0000 ≡
    Stores 0x2000_0040 8 1 ∷ Cleans 0x2000_0040 ∷ Fences ∷ Stores 0x2000_0000 8 0x1_003C ∷ Cleans 0x2000_0000 ∷ Fences ∷ []
unfolding first code zeros row result_of
back = refl

ending : Boundary
ending = record { log = V1; thread = 0; locks = []; live = []; resume = pos 0; written = None; opens = false }

no_bank : effects (boundary_list ending (Lui 31 0x2_0000 ∷ []) [] []) zeros 0x1_0000 ≡ Fences ∷ Stores 0x2000_0000 8 0 ∷ Cleans 0x2000_0000 ∷ Fences ∷ []
unfolding ending zeros row result_of
no_bank = refl

lines_of_pending : lines_in_use V1 (0 ∷ 8 ∷ 28 ∷ 29 ∷ []) ≡ 0 ∷ 1 ∷ 3 ∷ []
lines_of_pending = refl

-- ---- A log that lists its locks: locks 5 and 9, and register 8

listing : Boundary
listing = record { log = V2; thread = 0; locks = 5 ∷ 9 ∷ []; live = 8 ∷ []; resume = pos 0; written = None; opens = false }

lock_numbers : List (List Instr)
lock_numbers = (OpImmediate Addi 5 0 5 ∷ []) ∷ (OpImmediate Addi 5 0 9 ∷ []) ∷ []

list_code : List Instr
unfolding listing lock_numbers
list_code = boundary_list listing (Lui 31 0x2_0000 ∷ []) (OpImmediate Addi 7 0 2 ∷ []) lock_numbers

seen_of_list : effects list_code zeros 0x1_0000 ≡
    Stores 0x2000_0440 8 2 ∷ Stores 0x2000_0540 8 5 ∷ Stores 0x2000_0548 8 9 ∷ Stores 0x2000_0480 8 0 ∷
    Cleans 0x2000_0440 ∷ Cleans 0x2000_0480 ∷ Cleans 0x2000_0540 ∷ Fences ∷ Stores 0x2000_0000 8 0x1_0061 ∷ Cleans 0x2000_0000 ∷ Fences ∷ []
unfolding listing list_code lock_numbers zeros row result_of
seen_of_list = refl

listed_as_defined : boundary_effects listing 0 0x1_0060 zeros ≡ effects list_code zeros 0x1_0000
unfolding listing list_code lock_numbers zeros row result_of
listed_as_defined = refl

other_bank_of_list : read (registers_after list_code zeros 0x1_0000) 3 ≡ 1024
unfolding listing list_code lock_numbers zeros row result_of
other_bank_of_list = refl

-- ---- A log that keeps each write: lock 5 is held, and a store of four bytes comes, whose address and value are in x28 and x29

writing : Boundary
writing = record { log = Justdo; thread = 0; locks = 5 ∷ []; live = 28 ∷ 29 ∷ []; resume = pos 0; written = Some 4; opens = false }

write_code : List Instr
unfolding writing
write_code = boundary_list writing (Lui 31 0x2_0000 ∷ []) (OpImmediate Addi 7 0 1 ∷ []) ((OpImmediate Addi 5 0 5 ∷ []) ∷ [])

seen_of_write : effects write_code zeros 0x1_0000 ≡
    Stores 0x2000_0440 8 1 ∷ Stores 0x2000_0460 8 5 ∷ Stores 0x2000_0458 8 4 ∷ Stores 0x2000_0448 8 0 ∷ Stores 0x2000_0450 8 0 ∷
    Cleans 0x2000_0440 ∷ Fences ∷ Stores 0x2000_0000 8 0x1_0055 ∷ Cleans 0x2000_0000 ∷ Fences ∷ []
unfolding writing write_code zeros row result_of
seen_of_write = refl

written_as_defined : boundary_effects writing 0 0x1_0054 zeros ≡ effects write_code zeros 0x1_0000
unfolding writing write_code zeros row result_of
written_as_defined = refl

-- the lock that opens a section: no write comes, and the frame is cleaned
opening : Boundary
opening = record { log = Justdo; thread = 0; locks = 5 ∷ []; live = []; resume = pos 0; written = None; opens = true }

opening_code : List Instr
unfolding opening
opening_code = boundary_list opening (Lui 31 0x2_0000 ∷ []) (OpImmediate Addi 7 0 1 ∷ []) ((OpImmediate Addi 5 0 5 ∷ []) ∷ [])

seen_of_opening : effects opening_code zeros 0x1_0000 ≡
    Stores 0x2000_0440 8 1 ∷ Stores 0x2000_0460 8 5 ∷ Stores 0x2000_0448 8 0 ∷ Stores 0x2000_0450 8 0 ∷ Stores 0x2000_0458 8 0 ∷
    Cleans 0x2000_0440 ∷ Cleans 0x2000_0200 ∷ Cleans 0x2000_0240 ∷ Cleans 0x2000_0280 ∷ Fences ∷ Stores 0x2000_0000 8 0x1_0075 ∷ Cleans 0x2000_0000 ∷
    Fences ∷ []
unfolding opening opening_code zeros row result_of
seen_of_opening = refl
