-- Names for pieces of the code of boundaries.
use Rattle.std.specs.Prelude.{ℕ, List, [], ◌∷◌, ◌++◌, Bool, true, false}
use Rattle.log_schemes.specs.declared.log.Log.{Log}
use Rattle.log_schemes.specs.Layout.{bank_bytes}
use Rattle.rv64_isa.specs.declared.instr.Instr.{Instr}
use Rattle.rv64_isa.specs.declared.instr.Instr.TheVariants.{Store, OpImmediate, Op, Fence}
use Rattle.rv64_isa.specs.declared.instr.Operation.TheVariants.{Add}
use Rattle.rv64_isa.specs.declared.instr.ImmediateOperation.TheVariants.{Xori}
use Rattle.rv64_isa.specs.declared.instr.StoreKind.TheVariants.{Sd}
use Rattle.log_schemes.specs.Schemes.{told}
use Rattle.boundary_code.specs.Boundaries.{Boundary, clean_frame, clean_lines, commit, frame_lines, keep_slots, keep_told, lines_in_use, point, slots_kept}

-- a line that is in use or not
abbrev pub clean_where : Bool → (line : ℕ) → List Instr
clean_where true line = clean_lines (line ∷ [])
clean_where false line = []

-- the part before the locks, and the one after them
abbrev pub opening_list : Log → (address first : List Instr) → List Instr
opening_list log address first = OpImmediate Xori 3 3 (bank_bytes log) ∷ address ++ Op Add 30 31 3 ∷ first ++ Store Sd 7 30 64 ∷ []

-- what a boundary that writes a bank does beside its locks: the codes of what is told of a write, its slots in use, the live registers, and the frame's lines
pub record Beside : Type 0 where
  pub telling : List Instr
  pub slots : List ℕ
  pub live : List ℕ
  pub frame : List ℕ

abbrev pub beside_of : Boundary → Beside
beside_of b = record {
  telling = keep_told (told b.log b.written);
  slots = slots_kept b.log b.locks b.written b.live;
  live = b.live;
  frame = frame_lines b.log b.opens;
}

abbrev pub closing_list : Log → Beside → (resume : ℕ) → List Instr
closing_list log beside resume =
    (beside.telling ++ keep_slots log beside.live ++ clean_lines (lines_in_use log beside.slots) ++ clean_frame beside.frame)
    ++ (Fence ∷ point log resume ++ commit 30)

-- a boundary that writes a bank, by its parts
abbrev pub bank_list : Log → (address first others : List Instr) → Beside → (resume : ℕ) → List Instr
bank_list log address first others beside resume =
    OpImmediate Xori 3 3 (bank_bytes log) ∷ address ++ Op Add 30 31 3 ∷ first ++ Store Sd 7 30 64 ∷ others ++ beside.telling
    ++ keep_slots log beside.live ++ clean_lines (lines_in_use log beside.slots) ++ clean_frame beside.frame ++ Fence ∷ point log resume ++ commit 30

-- a section's last one
abbrev pub last_list : (address : List Instr) → List Instr
last_list address = address ++ Fence ∷ commit 0
