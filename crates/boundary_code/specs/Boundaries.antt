-- What the code of a boundary does.
use Rattle.std.specs.Prelude.{◌≡◌, ◌≢◌, ℕ, ℤ, ◌+◌, ◌-◌, ◌*◌, ◌/◌, ◌%◌, ◌^◌, ◌<◌, ◌≤◌, List, [], ◌∷◌, ◌++◌, map, filter, length, Bool, true, false, ◌==◌}
use Rattle.std.specs.Prelude.{if◌then◌else◌, Vec, pos, negsuc, ◌≤ℤ◌, Option, Some}
use Rattle.std.specs.Global.{Global}
use Rattle.std.specs.List.{list_all, list_any}
use Rattle.ido_base.specs.declared.limits.TheConstants.{MOST_THREADS}
use Rattle.ido_base.specs.Locks.{mask_with}
use Rattle.log_schemes.specs.declared.log.Log.{Log}
use Rattle.log_schemes.specs.declared.log.TheConstants.{MOST_LISTED}
use Rattle.log_schemes.specs.declared.keeping.Keeping.{Keeping}
use Rattle.log_schemes.specs.declared.keeping.Keeping.TheVariants.{Masked, Listed}
use Rattle.log_schemes.specs.declared.addresses.TheConstants.{FRAME, FRAME_LINES}
use Rattle.log_schemes.specs.declared.locals.Locals.{Locals}
use Rattle.log_schemes.specs.declared.locals.Locals.TheVariants.{Registers, Frame}
use Rattle.log_schemes.specs.Schemes.{bank_lines, distance_bits, keeping_of, kept_locks, lines_in_bank, locals_of, lock_slot, may_keep, numbers_from, register_slot}
use Rattle.log_schemes.specs.Schemes.{size_of, told}
use Rattle.log_schemes.specs.Layout.{bank_bytes, frame_at, log_of, point_at, slot_at}
use Rattle.rv64_isa.specs.declared.instr.Instr.{Instr}
use Rattle.rv64_isa.specs.declared.instr.Instr.TheVariants.{Auipc, Store, OpImmediate, ShiftImmediate, Op, CboClean, Fence}
use Rattle.rv64_isa.specs.declared.instr.Operation.TheVariants.{Add}
use Rattle.rv64_isa.specs.declared.instr.ImmediateOperation.TheVariants.{Addi, Xori}
use Rattle.rv64_isa.specs.declared.instr.ShiftOperation.TheVariants.{Srli}
use Rattle.rv64_isa.specs.declared.instr.StoreKind.TheVariants.{Sd}
use Rattle.rv64_isa.specs.Rows.{Effect, Stores, Cleans, Fences, read}
use Rattle.rv64_isa.specs.Signed.{twos_complement}
use Rattle.memory_layout.specs.Roles.{bank_offset, is_temporary}
use Rattle.operator_code.specs.StraightLineCode.{IsConstant}

pub record Boundary : Type 0 where
  -- how its thread logs
  pub log : Log
  pub thread : ℕ
  -- the numbers of the locks held after the boundary; where there is none, it ends a section
  pub locks : List ℕ
  -- the registers that are live after the boundary
  pub live : List ℕ
  -- how far after the boundary's end recovery resumes, in bytes
  pub resume : ℤ
  -- where each write has a record: how many bytes the one has that comes next, or none comes
  pub written : Option ℕ
  -- it opens a section
  pub opens : Bool

abbrev pub is_empty : (locks : List ℕ) → Bool
is_empty [] = true
is_empty (lock ∷ locks) = false

-- the lines of a bank that have one of these slots
abbrev pub lines_in_use : Log → (slots : List ℕ) → List ℕ
lines_in_use log slots = filter (λ line. list_any (λ slot. slot / 8 == line) slots) (bank_lines log)

-- how many words the codes of the locks' numbers have, each with the store into its slot
abbrev pub number_words : (codes : List (List Instr)) → ℕ
number_words [] = 0
number_words (code ∷ codes) = length code + 1 + number_words codes

-- how many words the locks take, where a bank that lists them has these codes for their numbers
abbrev pub words_for : Keeping → (codes : List (List Instr)) → ℕ
words_for Masked codes = 0
words_for Listed codes = number_words codes

-- how many it takes to tell of a write, and to clean the frame
abbrev pub frame_words : Locals → ℕ
frame_words Registers = 0
frame_words Frame = 12

-- how many words a boundary's code has at most, beside one for each live register and those that the locks take
abbrev pub fixed_words : Log → ℕ
fixed_words log = 27 + 2 * lines_in_bank (size_of log) + frame_words (locals_of log)

abbrev pub words_beside : Log → (codes : List (List Instr)) → ℕ
words_beside log codes = fixed_words log + words_for (keeping_of log) codes

-- the slots of a bank that a boundary writes, and but for the registers what they get
abbrev pub pairs_kept : Log → (locks : List ℕ) → (written : Option ℕ) → List (ℕ × ℕ)
pairs_kept log locks written = kept_locks log locks ++ told log written

abbrev pub slots_kept : Log → (locks : List ℕ) → (written : Option ℕ) → (live : List ℕ) → List ℕ
slots_kept log locks written live = map (λ (kept : ℕ × ℕ). kept.0) (pairs_kept log locks written) ++ map (register_slot log) live

-- the lines of the frame that are cleaned: all of them where a section is opened, so that it begins with its locals durable
abbrev pub frame_lines_at : Locals → (opens : Bool) → List ℕ
frame_lines_at Registers opens = []
frame_lines_at Frame opens = if opens then numbers_from 0 FRAME_LINES else []

abbrev pub frame_lines : Log → (opens : Bool) → List ℕ
frame_lines log opens = frame_lines_at (locals_of log) opens

-- the bank gets the locks, what is told of a write, and the live registers; its lines in use are cleaned, and those of the frame
abbrev pub bank_effects : Boundary → (bank : ℕ) → (registers : List ℕ) → List Effect
bank_effects b bank x =
    map (λ (kept : ℕ × ℕ). Stores (slot_at b.log b.thread bank kept.0) 8 kept.1) (pairs_kept b.log b.locks b.written) ++
    map (λ r. Stores (slot_at b.log b.thread bank (register_slot b.log r)) 8 (read x r)) b.live ++
    map (λ line. Cleans (slot_at b.log b.thread bank (8 * line))) (lines_in_use b.log (slots_kept b.log b.locks b.written b.live)) ++
    map (λ line. Cleans (frame_at b.log b.thread (8 * line))) (frame_lines b.log b.opens)

-- all that was cleaned is durable, before the point has a value, and then that is
abbrev pub commit_effects : Log → (thread point : ℕ) → List Effect
commit_effects log thread point = Fences ∷ Stores (point_at log thread) 8 point ∷ Cleans (point_at log thread) ∷ Fences ∷ []

-- ---- The sides of a log: it has two, each with a bank, of which x3 has one from one boundary to the next. Which one is of no concern above

abbrev pub other_side : (side : ℕ) → ℕ
other_side side = 1 - side

-- what a boundary does to memory, where x3 has this side before it: the other side's bank is written, and the point names it
abbrev pub boundary_effects : Boundary → (side resume : ℕ) → (registers : List ℕ) → List Effect
boundary_effects b side resume x =
    if is_empty b.locks then commit_effects b.log b.thread 0
    else bank_effects b (other_side side) x ++ commit_effects b.log b.thread ((resume + other_side side) % 2 ^ 64)

-- the side that x3 has after a boundary: where it has no locks none was written
abbrev pub side_after : Boundary → (side : ℕ) → ℕ
side_after b side = if is_empty b.locks then side else other_side side

-- registers of a thread whose log is on this side: x3 has the offset of its bank
pub record IsOnSide (log : Log) (side : ℕ) (x : List ℕ) : Type 0 where
  pub count : length x ≡ 32
  pub zero_is : read x 0 ≡ 0
  pub offset : read x bank_offset ≡ bank_bytes log * side
  pub exists : side < 2

-- ---- Within a boundary

-- registers y within a boundary that writes this bank of the thread's log, begun with registers x: x31 has the log's address, x3 the bank's offset, and x30 the
-- sum of both; all others but temporaries are as they were
pub record IsUnderWay (log : Log) (thread bank : ℕ) (x y : List ℕ) : Type 0 where
  pub count : length y ≡ 32
  pub zero_is : read y 0 ≡ 0
  pub offset : read y 3 ≡ bank_bytes log * bank
  pub logged : read y 31 ≡ log_of log thread
  pub base : read y 30 ≡ log_of log thread + bank_bytes log * bank
  pub others : (r : ℕ) → is_temporary r ≡ false → r ≢ 3 → read y r ≡ read x r

-- ---- The instructions of a boundary. x31 has the address of the log, x3 the offset of the bank that is written, and x30 the sum of both

-- what slot 0 gets of the locks: their mask, or how many there are
abbrev pub first_kept : Keeping → (locks : List ℕ) → ℕ
first_kept Masked locks = mask_with locks
first_kept Listed locks = length locks

-- the locks that have slots of their own
abbrev pub listed_locks : Keeping → (locks : List ℕ) → List ℕ
listed_locks Masked locks = []
listed_locks Listed locks = locks

-- each of them gets its slot, the first of them that of this index: code leaves its number in x5, and that is stored
abbrev pub keep_locks : Log → (index : ℕ) → (codes : List (List Instr)) → List Instr
keep_locks log index [] = []
keep_locks log index (code ∷ codes) = code ++ Store Sd 5 30 (64 + 8 * lock_slot log index) ∷ keep_locks log (index + 1) codes

-- what is told of a write gets its slots: each of these numbers is small
abbrev pub keep_told : (pairs : List (ℕ × ℕ)) → List Instr
keep_told [] = []
keep_told (one ∷ pairs) = OpImmediate Addi 7 0 one.1 ∷ Store Sd 7 30 (64 + 8 * one.0) ∷ keep_told pairs

-- each live register gets its slot
abbrev pub keep_slots : Log → (live : List ℕ) → List Instr
keep_slots log [] = []
keep_slots log (r ∷ rs) = Store Sd r 30 (64 + 8 * register_slot log r) ∷ keep_slots log rs

abbrev pub clean_lines : (lines : List ℕ) → List Instr
clean_lines [] = []
clean_lines (line ∷ lines) = OpImmediate Addi 7 30 (64 + 64 * line) ∷ CboClean 7 ∷ clean_lines lines

-- lines of the frame
abbrev pub clean_frame : (lines : List ℕ) → List Instr
clean_frame [] = []
clean_frame (line ∷ lines) = OpImmediate Addi 7 31 (FRAME + 64 * line) ∷ CboClean 7 ∷ clean_frame lines

-- x30 gets the address where recovery resumes, and the number of the bank. That address lies so many bytes after the boundary's end, in two's complement of 32
-- bits
abbrev pub point : Log → (resume : ℕ) → List Instr
point log resume =
    Auipc 30 ((resume + 28 + 2048) % 2 ^ 32 / 4096) ∷ OpImmediate Addi 30 30 ((resume + 28) % 4096) ∷ ShiftImmediate Srli 7 3 (distance_bits (size_of log)) ∷
    Op Add 30 30 7 ∷ []

-- the point gets a register's number, and is durable
abbrev pub commit : (register : ℕ) → List Instr
commit register = Store Sd register 31 0 ∷ CboClean 31 ∷ Fence ∷ []

-- all of them, where `address` leave the log's address in x31, and `first` in x7 what slot 0 gets: the other bank gets the locks and the live registers, its
-- lines that have such slots are cleaned, and after a FENCE the point names it. Where no lock is held no bank is written, and the point gets 0
abbrev pub boundary_list : Boundary → (address first : List Instr) → (codes : List (List Instr)) → List Instr
boundary_list b address first codes =
    if is_empty b.locks then address ++ Fence ∷ commit 0
    else OpImmediate Xori 3 3 (bank_bytes b.log) ∷ address ++ Op Add 30 31 3 ∷ first ++ Store Sd 7 30 64 ∷ keep_locks b.log 0 codes
    ++ keep_told (told b.log b.written) ++ keep_slots b.log b.live ++ clean_lines (lines_in_use b.log (slots_kept b.log b.locks b.written b.live))
    ++ clean_frame (frame_lines b.log b.opens) ++ Fence ∷ point b.log (twos_complement 32 b.resume) ++ commit 30

-- the code of a boundary, where these are the codes of the numbers of the locks that have slots of their own
pub record IsBoundaryCode (b : Boundary) (codes : List (List Instr)) (code : List Instr) : Type 0 where
  pub address : List Instr
  pub first : List Instr
  pub is : code ≡ boundary_list b address first codes
  pub is_log : IsConstant 31 (log_of b.log b.thread) address
  pub is_first : is_empty b.locks ≡ false → IsConstant 7 (first_kept (keeping_of b.log) b.locks) first
  pub many : length codes ≡ length (listed_locks (keeping_of b.log) b.locks)
  -- there is room for all of it
  pub few : length codes ≤ MOST_LISTED
  pub thread_is : b.thread < MOST_THREADS
  pub live_are : list_all (may_keep b.log) b.live ≡ true
  -- a number of bytes is small
  pub bytes : (bytes : ℕ) → b.written ≡ Some bytes → bytes ≤ 8
  pub low : negsuc 262143 ≤ℤ b.resume
  pub high : b.resume ≤ℤ pos 262144

-- the instructions in each of the lists
abbrev pub lists_of : List (Vec Instr Global) → List (List Instr)
lists_of codes = map (λ (code : Vec Instr Global). code.items) codes
