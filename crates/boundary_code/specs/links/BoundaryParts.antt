-- What the code of a boundary does, by its parts: what links its instructions to its effects.
use Rattle.std.specs.Prelude.{◌≡◌, ◌≢◌, ℕ, ◌+◌, ◌*◌, ◌%◌, ◌^◌, ◌<◌, ◌≤◌, List, [], ◌∷◌, ◌++◌, map, length, false, if◌then◌else◌}
use Rattle.ido_base.specs.declared.limits.TheConstants.{MOST_THREADS}
use Rattle.log_schemes.specs.declared.log.Log.{Log}
use Rattle.log_schemes.specs.Schemes.{keeping_of, register_slot, told}
use Rattle.log_schemes.specs.Layout.{bank_bytes, frame_at, slot_at}
use Rattle.rv64_isa.specs.declared.instr.Instr.{Instr}
use Rattle.rv64_isa.specs.Rows.{Effect, Stores, Cleans, read}
use Rattle.rv64_isa.specs.Signed.{twos_complement}
use Rattle.memory_layout.specs.Roles.{bank_offset, is_temporary}
use Rattle.operator_code.specs.StraightLineCode.{effects, registers_after}
use Rattle.boundary_code.specs.Boundaries.{Boundary, IsBoundaryCode, IsOnSide, IsUnderWay, boundary_effects, commit_effects, first_kept, frame_lines, is_empty, keep_locks}
use Rattle.boundary_code.specs.Boundaries.{lines_in_use, listed_locks, other_side, slots_kept}

-- where recovery resumes, where the boundary's code stands at this address
abbrev pub resume_address : Boundary → List Instr → (pc : ℕ) → ℕ
resume_address b code pc = (pc + 4 * length code + twos_complement 64 b.resume) % 2 ^ 64

-- ---- In one part

-- memory sees these stores, cleans and fences, in this order, and nothing else
pub record HasEffects (b : Boundary) (code : List Instr) : Type 0 where
  pub does : (x : List ℕ) (pc side : ℕ) → IsOnSide b.log side x → effects code x pc ≡ boundary_effects b side (resume_address b code pc) x

-- after a boundary's code x3 has the other side's offset, but the same side's where no bank was written
pub record HasOffset (log : Log) (locks : List ℕ) (code : List Instr) : Type 0 where
  pub leaves : (x : List ℕ) (pc side : ℕ) → IsOnSide log side x →
      read (registers_after code x pc) bank_offset ≡ bank_bytes log * (if is_empty locks then side else other_side side)

-- every register but x3 and the temporaries is as it was
pub record KeepsRegisters (log : Log) (code : List Instr) : Type 0 where
  pub keeps : (x : List ℕ) (pc side : ℕ) → IsOnSide log side x → (r : ℕ) → is_temporary r ≡ false → r ≢ bank_offset →
      read (registers_after code x pc) r ≡ read x r

-- straight code of the boundary
pub record IsStraightCodeOf (b : Boundary) (code : List Instr) : Type 0 where
  pub effects_are : HasEffects b code
  pub offset : HasOffset b.log b.locks code
  pub keeps : KeepsRegisters b.log code

-- ---- In two parts: before the locks, and after them

-- code that begins one: slot 0 of the other side's bank gets a number
pub record Opens (log : Log) (thread value : ℕ) (code : List Instr) : Type 0 where
  pub does : (x : List ℕ) (pc side : ℕ) → IsOnSide log side x → effects code x pc ≡ Stores (slot_at log thread (other_side side) 0) 8 value ∷ []
  pub leaves : (x : List ℕ) (pc side : ℕ) → IsOnSide log side x → IsUnderWay log thread (other_side side) x (registers_after code x pc)

-- what is left to do after the locks: the bank is told of a write and gets the live registers, its lines in use and those of the frame are cleaned, and the point
-- names it
abbrev pub closing_effects : Boundary → (bank resume : ℕ) → (registers : List ℕ) → List Effect
closing_effects b bank resume x =
    map (λ (one : ℕ × ℕ). Stores (slot_at b.log b.thread bank one.0) 8 one.1) (told b.log b.written) ++
    map (λ r. Stores (slot_at b.log b.thread bank (register_slot b.log r)) 8 (read x r)) b.live ++
    map (λ line. Cleans (slot_at b.log b.thread bank (8 * line))) (lines_in_use b.log (slots_kept b.log b.locks b.written b.live)) ++
    map (λ line. Cleans (frame_at b.log b.thread (8 * line))) (frame_lines b.log b.opens) ++
    commit_effects b.log b.thread ((resume + bank) % 2 ^ 64)

-- code that ends the boundary
pub record Closes (b : Boundary) (code : List Instr) : Type 0 where
  pub does : (x y : List ℕ) (pc side : ℕ) → IsUnderWay b.log b.thread (other_side side) x y →
      effects code y pc ≡ closing_effects b (other_side side) (resume_address b code pc) x
  pub offset : (x y : List ℕ) (pc side : ℕ) → IsUnderWay b.log b.thread (other_side side) x y →
      read (registers_after code y pc) bank_offset ≡ bank_bytes b.log * other_side side
  pub others : (x y : List ℕ) (pc side : ℕ) → IsUnderWay b.log b.thread (other_side side) x y → (r : ℕ) → is_temporary r ≡ false → r ≢ bank_offset →
      read (registers_after code y pc) r ≡ read x r

-- between the two parts stands for each lock that is listed the code that leaves its number in x5, and a store into its slot
pub record IsInParts (b : Boundary) (codes : List (List Instr)) (code : List Instr) : Type 0 where
  pub thread_is : b.thread < MOST_THREADS
  pub some : is_empty b.locks ≡ false
  pub many : length codes ≡ length (listed_locks (keeping_of b.log) b.locks)
  pub few : length codes ≤ 16
  pub opening : List Instr
  pub closing : List Instr
  pub split : code ≡ opening ++ (keep_locks b.log 0 codes ++ closing)
  pub opens : Opens b.log b.thread (first_kept (keeping_of b.log) b.locks) opening
  pub closes : Closes b closing

-- ---- Either

pub data DoesBoundary (b : Boundary) (codes : List (List Instr)) (code : List Instr) : Type 0 where
  undivided : IsStraightCodeOf b code → DoesBoundary b codes code
  in_parts : IsInParts b codes code → DoesBoundary b codes code

-- the code of a boundary does what the boundary does
abbrev pub CodeDoesBoundary : Type 0
CodeDoesBoundary = (b : Boundary) (codes : List (List Instr)) (code : List Instr) → IsBoundaryCode b codes code → DoesBoundary b codes code
