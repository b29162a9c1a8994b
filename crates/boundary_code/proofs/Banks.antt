-- The first part of a boundary, up to its first fence: the bank is stored, and its lines in use are cleaned.
use Rattle.std.proofs.Common.{◌≡◌, ◌≢◌, ℕ, zero, suc, ◌+◌, ◌-◌, ◌*◌, ◌/◌, ◌^◌, ◌<◌, ◌≤◌, List, [], ◌∷◌, ◌++◌, length, map}
use Rattle.std.proofs.Common.{refl, ap, sym, ◌∙◌, arith, Bool, true, false, ◌==◌, lit<, if◌then◌else◌}
use Rattle.std.specs.Prelude.{slice_set, filter, Option, None, Some}
use Rattle.std.specs.List.{list_all, list_any}
use Rattle.std.proofs.lemmas.Bool.{and_parts}
use Rattle.std.proofs.lemmas.Bool.Decides.{nat_tests}
use Rattle.ido_base.specs.declared.limits.TheConstants.{MOST_THREADS}
use Rattle.log_schemes.specs.Layout.{bank_bytes, frame_at, log_of, slot_at}
use Rattle.log_schemes.specs.declared.addresses.TheConstants.{FRAME}
use Rattle.log_schemes.specs.declared.locals.Locals.{Locals}
use Rattle.log_schemes.specs.declared.locals.Locals.TheVariants.{Registers, Frame}
use Rattle.log_schemes.specs.declared.log.Log.{Log}
use Rattle.rv64_isa.specs.declared.instr.Instr.{Instr}
use Rattle.rv64_isa.specs.declared.instr.Instr.TheVariants.{Store, OpImmediate, Op, CboClean}
use Rattle.rv64_isa.specs.declared.instr.Operation.TheVariants.{Add, Xor}
use Rattle.rv64_isa.specs.declared.instr.ImmediateOperation.TheVariants.{Addi, Xori}
use Rattle.rv64_isa.specs.declared.instr.StoreKind.TheVariants.{Sd}
use Rattle.rv64_isa.specs.Rows.{Effect, Continues, Stores, Cleans, row, read, next, displaced}
use Rattle.rv64_isa.specs.Arithmetic.{sign_extended, result_of}
use Rattle.memory_layout.specs.Roles.{is_temporary, is_kept}
use Rattle.operator_code.specs.StraightLineCode.{IsConstant}
use Rattle.boundary_code.specs.Boundaries.{frame_lines, frame_lines_at, lines_in_use, IsOnSide, IsUnderWay}
use Rattle.log_schemes.specs.declared.keeping.Keeping.TheVariants.{Listed}
use Rattle.log_schemes.specs.Schemes.{bank_lines, bank_slots, keeping_of, lines_in_bank, locals_of, lock_slot, may_keep, may_keep_at, numbers_from, register_slot}
use Rattle.log_schemes.specs.Schemes.{size_of, told, told_at}
use Rattle.log_schemes.proofs.Public.{scheme, size_holds}
use Rattle.boundary_code.specs.Boundaries.{clean_frame, clean_lines, keep_slots, keep_told}
use Rattle.boundary_code.specs.links.InstructionLists.{opening_list}
use Rattle.operator_code.proofs.Public.{RunsFrom, stop, go, store, clean, along, constant_runs, read_same, read_other, length-changed, small_immediate}
use Rattle.operator_code.proofs.Public.{add_small, displaced_small}
use Rattle.boundary_code.proofs.Registers.{ready, ready_still, flip, bank_immediate, base_small, log_small}

-- ---- Slots

abbrev AreKept : Log → List ℕ → Type 0
AreKept log [] = Unit {0}
AreKept log (r ∷ rs) = ((register_slot log r < 48) × (is_temporary r ≡ false) × (r ≢ 3)) × AreKept log rs

no_temporary : (r : ℕ) → is_kept r ≡ true → is_temporary r ≡ false
no_temporary r h = grind (arith, nat_tests)

-- a bank has 48 slots at most
few_slots : (log : Log) (slot : ℕ) → slot < bank_slots log → slot < 48
few_slots log slot below = let few = (size_holds (size_of log)).few_in_bank in omega (arith, below, few)

may_be : (locals : Locals) (r : ℕ) → may_keep_at locals r ≡ true → is_kept r ≡ true
may_be Registers r h = h
may_be Frame r h = grind (arith, nat_tests)

pub may_be_kept : (log : Log) (r : ℕ) → may_keep log r ≡ true → is_kept r ≡ true
may_be_kept log r h = may_be (locals_of log) r h

kept_register : (log : Log) (r : ℕ) → may_keep log r ≡ true → (register_slot log r < 48) × (is_temporary r ≡ false) × (r ≢ 3)
kept_register log r h =
    let apart = (scheme log).apart in
    let own = apart.register r (apart.kept r h) in
    let kept = may_be_kept log r h in (
      few_slots log (register_slot log r) own.exists,
      no_temporary r kept,
      λ e. let z : is_kept 3 ≡ true = ap (λ (n : ℕ). is_kept n) (sym e) ∙ kept in cc z,
    )

pub kept_registers : (log : Log) (live : List ℕ) → list_all (may_keep log) live ≡ true → AreKept log live
kept_registers log [] h = tt
kept_registers log (r ∷ rs) h =
    let parts = and_parts (may_keep log r) (list_all (may_keep log) rs) h in (kept_register log r parts.0, kept_registers log rs parts.1)

-- the slots of listed locks
pub lock_slots_few : (log : Log) (index : ℕ) → keeping_of log ≡ Listed → index < 16 → lock_slot log index < 48
lock_slots_few log index is below = few_slots log (lock_slot log index) ((scheme log).apart.lock index is below).exists

slot_address : (log : Log) (thread bank slot : ℕ) → thread < MOST_THREADS → bank < 2 → slot < 48 →
    displaced (log_of log thread + bank_bytes log * bank) 12 (64 + 8 * slot) ≡ slot_at log thread bank slot
slot_address log thread bank slot t b s =
    displaced_small (log_of log thread + bank_bytes log * bank) (64 + 8 * slot) (omega (arith, s)) (omega (arith, s, base_small log thread bank t b))
    ∙ sums (log_of log thread) (bank_bytes log * bank) slot
  where
    sums : (a c n : ℕ) → a + c + (64 + 8 * n) ≡ a + 64 + c + 8 * n
    sums a c n = omega arith

slot_row : (log : Log) (thread bank : ℕ) (x y : List ℕ) (r slot offset pc : ℕ) →
    displaced (log_of log thread + bank_bytes log * bank) 12 offset ≡ slot_at log thread bank slot → IsUnderWay log thread bank x y →
    row (Store Sd r 30 offset) y pc ≡ Stores (slot_at log thread bank slot) 8 (read y r)
unfolding row
slot_row log thread bank x y r slot offset pc e h =
    ap (λ (n : ℕ). Stores (displaced n 12 offset) 8 (read y r)) h.base ∙ ap (λ (n : ℕ). Stores n 8 (read y r)) e

pub slots_run : (log : Log) (thread bank : ℕ) (x y : List ℕ) (live : List ℕ) (pc : ℕ) → thread < MOST_THREADS → bank < 2 → AreKept log live →
    IsUnderWay log thread bank x y →
    RunsFrom (keep_slots log live) y pc (map (λ r. Stores (slot_at log thread bank (register_slot log r)) 8 (read x r)) live) y
slots_run log thread bank x y [] pc t b kept h = stop y pc
slots_run log thread bank x y (r ∷ rs) pc t b kept h =
    let slot : ℕ = register_slot log r in
    let here = slot_row log thread bank x y r slot (64 + 8 * slot) pc (slot_address log thread bank slot t b kept.0.0) h in
    let value : read y r ≡ read x r = h.others r kept.0.1 kept.0.2 in
    store (Store Sd r 30 (64 + 8 * slot)) (keep_slots log rs) y pc (slot_at log thread bank slot) 8 (read x r)
    (map (λ s. Stores (slot_at log thread bank (register_slot log s)) 8 (read x s)) rs) y
    (here ∙ ap (λ (n : ℕ). Stores (slot_at log thread bank slot) 8 n) value) (slots_run log thread bank x y rs (pc + 4) t b kept.1 h)

-- ---- Lines

abbrev pub AreLines : List ℕ → Type 0
AreLines [] = Unit {0}
AreLines (line ∷ lines) = (line < 6) × AreLines lines

lines-filter : (p : ℕ → Bool) (lines : List ℕ) → AreLines lines → AreLines (filter p lines)
lines-filter p [] h = tt
lines-filter p (line ∷ lines) h = by (p line) (lines-filter p lines h.1)
  where
    by : (b : Bool) → AreLines (filter p lines) → AreLines (if b then line ∷ filter p lines else filter p lines)
    by true rest = (h.0, rest)
    by false rest = rest

lines_below : (at count : ℕ) → at + count ≤ 6 → AreLines (numbers_from at count)
lines_below at zero few = tt
lines_below at (suc count) few = (omega (arith, few), lines_below (at + 1) count (omega (arith, few)))

all_lines : (log : Log) → AreLines (bank_lines log)
all_lines log = lines_below 0 (lines_in_bank (size_of log)) (let few = (size_holds (size_of log)).few_in_bank in omega (arith, few))

pub are_lines : (log : Log) (slots : List ℕ) → AreLines (lines_in_use log slots)
are_lines log slots = lines-filter (λ line. list_any (λ slot. slot / 8 == line) slots) (bank_lines log) (all_lines log)

-- code that runs within a boundary with these effects, and leaves its registers ready
pub record Written (log : Log) (thread bank : ℕ) (x y : List ℕ) (code : List Instr) (pc : ℕ) (es : List Effect) : Type 0 where
  pub left : List ℕ
  pub runs : RunsFrom code y pc es left
  pub ready : IsUnderWay log thread bank x left

line_address : (log : Log) (thread bank line : ℕ) → thread < MOST_THREADS → bank < 2 → line < 6 →
    result_of Add (log_of log thread + bank_bytes log * bank) (sign_extended 12 64 (64 + 64 * line)) ≡ slot_at log thread bank (8 * line)
line_address log thread bank line t b l =
    ap (λ (n : ℕ). result_of Add (log_of log thread + bank_bytes log * bank) n) (small_immediate (64 + 64 * line) (omega (arith, l))) ∙
    add_small (log_of log thread + bank_bytes log * bank) (64 + 64 * line) (omega (arith, l, base_small log thread bank t b)) ∙
    sums (log_of log thread) (bank_bytes log * bank) line
  where
    sums : (a c n : ℕ) → a + c + (64 + 64 * n) ≡ a + 64 + c + 8 * (8 * n)
    sums a c n = omega arith

line_row : (log : Log) (thread bank : ℕ) (x y : List ℕ) (line pc : ℕ) → thread < MOST_THREADS → bank < 2 → line < 6 → IsUnderWay log thread bank x y →
    row (OpImmediate Addi 7 30 (64 + 64 * line)) y pc ≡ Continues (slice_set y 7 (slot_at log thread bank (8 * line))) (next pc)
unfolding row
line_row log thread bank x y line pc t b l h =
    ap (λ (n : ℕ). Continues (slice_set y 7 (result_of Add n (sign_extended 12 64 (64 + 64 * line)))) (next pc)) h.base ∙
    ap (λ (n : ℕ). Continues (slice_set y 7 n) (next pc)) (line_address log thread bank line t b l)

clean_row : (y : List ℕ) (r address pc : ℕ) → read y r ≡ address → row (CboClean r) y pc ≡ Cleans address
unfolding row
clean_row y r address pc e = ap (λ (n : ℕ). Cleans n) e

pub cleans_run : (log : Log) (thread bank : ℕ) (x y : List ℕ) (lines : List ℕ) (pc : ℕ) → thread < MOST_THREADS → bank < 2 → AreLines lines →
    IsUnderWay log thread bank x y →
    Written log thread bank x y (clean_lines lines) pc (map (λ line. Cleans (slot_at log thread bank (8 * line))) lines)
cleans_run log thread bank x y [] pc t b few h = record { left = y; runs = stop y pc; ready = h }
cleans_run log thread bank x y (line ∷ lines) pc t b few h =
    let address : ℕ = slot_at log thread bank (8 * line) in
    let y' : List ℕ = slice_set y 7 address in
    let more = cleans_run log thread bank x y' lines (pc + 4 + 4) t b few.1 (ready_still log thread bank x y address h) in
    let rest : List Effect = map (λ l. Cleans (slot_at log thread bank (8 * l))) lines in
    record {
      left = more.left;
      runs = go (OpImmediate Addi 7 30 (64 + 64 * line)) (CboClean 7 ∷ clean_lines lines) y y' pc (Cleans address ∷ rest) more.left
          (line_row log thread bank x y line pc t b few.0 h)
          (clean (CboClean 7) (clean_lines lines) y' (pc + 4) address rest more.left
          (clean_row y' 7 address (pc + 4) (read_same y 7 address h.count (lit< tt))) more.runs);
      ready = more.ready;
    }

-- a number in x5 gets a slot
pub number_stored : (log : Log) (thread bank slot : ℕ) (x y : List ℕ) (number pc : ℕ) → thread < MOST_THREADS → bank < 2 → slot < 48 →
    IsUnderWay log thread bank x y → read y 5 ≡ number →
    RunsFrom (Store Sd 5 30 (64 + 8 * slot) ∷ []) y pc (Stores (slot_at log thread bank slot) 8 number ∷ []) y
number_stored log thread bank slot x y number pc t b s under is =
    store (Store Sd 5 30 (64 + 8 * slot)) [] y pc (slot_at log thread bank slot) 8 number [] y
    (slot_row log thread bank x y 5 slot (64 + 8 * slot) pc (slot_address log thread bank slot t b s) under
    ∙ ap (λ (n : ℕ). Stores (slot_at log thread bank slot) 8 n) is)
    (stop y (pc + 4))

-- ---- What is told of a write

abbrev pub AreTold : List (ℕ × ℕ) → Type 0
AreTold [] = Unit {0}
AreTold (one ∷ pairs) = ((one.0 < 48) × (one.1 < 2048)) × AreTold pairs

told_small : (locals : Locals) (written : Option ℕ) → ((bytes : ℕ) → written ≡ Some bytes → bytes ≤ 8) → AreTold (told_at locals written)
told_small Registers written small = tt
told_small Frame None small = ((lit< tt, lit< tt), ((lit< tt, lit< tt), ((lit< tt, lit< tt), tt)))
told_small Frame (Some bytes) small = let few = small bytes refl in ((lit< tt, omega (arith, few)), tt)

pub are_told : (log : Log) (written : Option ℕ) → ((bytes : ℕ) → written ≡ Some bytes → bytes ≤ 8) → AreTold (told log written)
are_told log written small = told_small (locals_of log) written small

small_row : (y : List ℕ) (value pc : ℕ) → read y 0 ≡ 0 → value < 2048 → row (OpImmediate Addi 7 0 value) y pc ≡ Continues (slice_set y 7 value) (next pc)
unfolding row
small_row y value pc zeroth small =
    ap (λ (n : ℕ). Continues (slice_set y 7 (result_of Add n (sign_extended 12 64 value))) (next pc)) zeroth
    ∙ ap (λ (n : ℕ). Continues (slice_set y 7 (result_of Add 0 n)) (next pc)) (small_immediate value (omega (arith, small)))
    ∙ ap (λ (n : ℕ). Continues (slice_set y 7 n) (next pc)) (add_small 0 value (omega (arith, small)) ∙ (let e : 0 + value ≡ value = omega arith in e))

pub told_run : (log : Log) (thread bank : ℕ) (x y : List ℕ) (pairs : List (ℕ × ℕ)) (pc : ℕ) → thread < MOST_THREADS → bank < 2 → AreTold pairs →
    IsUnderWay log thread bank x y →
    Written log thread bank x y (keep_told pairs) pc (map (λ (one : ℕ × ℕ). Stores (slot_at log thread bank one.0) 8 one.1) pairs)
told_run log thread bank x y [] pc t b few h = record { left = y; runs = stop y pc; ready = h }
told_run log thread bank x y (one ∷ pairs) pc t b few h =
    let value : ℕ = one.1 in
    let y' : List ℕ = slice_set y 7 value in
    let under = ready_still log thread bank x y value h in
    let more = told_run log thread bank x y' pairs (pc + 4 + 4) t b few.1 under in
    let rest : List Effect = map (λ (other : ℕ × ℕ). Stores (slot_at log thread bank other.0) 8 other.1) pairs in
    let stores : row (Store Sd 7 30 (64 + 8 * one.0)) y' (pc + 4) ≡ Stores (slot_at log thread bank one.0) 8 value =
    slot_row log thread bank x y' 7 one.0 (64 + 8 * one.0) (pc + 4) (slot_address log thread bank one.0 t b few.0.0) under
    ∙ ap (λ (n : ℕ). Stores (slot_at log thread bank one.0) 8 n) (read_same y 7 value h.count (lit< tt)) in
    record {
      left = more.left;
      runs = go (OpImmediate Addi 7 0 value) (Store Sd 7 30 (64 + 8 * one.0) ∷ keep_told pairs) y y' pc
          (Stores (slot_at log thread bank one.0) 8 value ∷ rest) more.left (small_row y value pc h.zero_is few.0.1)
          (store (Store Sd 7 30 (64 + 8 * one.0)) (keep_told pairs) y' (pc + 4) (slot_at log thread bank one.0) 8 value rest more.left stores more.runs);
      ready = more.ready;
    }

-- ---- Lines of the frame

frame_address : (log : Log) (thread line : ℕ) → thread < MOST_THREADS → line < 6 →
    result_of Add (log_of log thread) (sign_extended 12 64 (FRAME + 64 * line)) ≡ frame_at log thread (8 * line)
frame_address log thread line t l =
    ap (λ (n : ℕ). result_of Add (log_of log thread) n) (small_immediate (FRAME + 64 * line) (omega (arith, l))) ∙
    add_small (log_of log thread) (FRAME + 64 * line) (let low = log_small log thread t in omega (arith, l, low)) ∙
    sums (log_of log thread) line
  where
    sums : (a n : ℕ) → a + (FRAME + 64 * n) ≡ a + FRAME + 8 * (8 * n)
    sums a n = omega arith

frame_row : (log : Log) (thread bank : ℕ) (x y : List ℕ) (line pc : ℕ) → thread < MOST_THREADS → line < 6 → IsUnderWay log thread bank x y →
    row (OpImmediate Addi 7 31 (FRAME + 64 * line)) y pc ≡ Continues (slice_set y 7 (frame_at log thread (8 * line))) (next pc)
unfolding row
frame_row log thread bank x y line pc t l h =
    ap (λ (n : ℕ). Continues (slice_set y 7 (result_of Add n (sign_extended 12 64 (FRAME + 64 * line)))) (next pc)) h.logged ∙
    ap (λ (n : ℕ). Continues (slice_set y 7 n) (next pc)) (frame_address log thread line t l)

pub frame_run : (log : Log) (thread bank : ℕ) (x y : List ℕ) (lines : List ℕ) (pc : ℕ) → thread < MOST_THREADS → AreLines lines →
    IsUnderWay log thread bank x y →
    Written log thread bank x y (clean_frame lines) pc (map (λ line. Cleans (frame_at log thread (8 * line))) lines)
frame_run log thread bank x y [] pc t few h = record { left = y; runs = stop y pc; ready = h }
frame_run log thread bank x y (line ∷ lines) pc t few h =
    let address : ℕ = frame_at log thread (8 * line) in
    let y' : List ℕ = slice_set y 7 address in
    let more = frame_run log thread bank x y' lines (pc + 4 + 4) t few.1 (ready_still log thread bank x y address h) in
    let rest : List Effect = map (λ l. Cleans (frame_at log thread (8 * l))) lines in
    record {
      left = more.left;
      runs = go (OpImmediate Addi 7 31 (FRAME + 64 * line)) (CboClean 7 ∷ clean_frame lines) y y' pc (Cleans address ∷ rest) more.left
          (frame_row log thread bank x y line pc t few.0 h)
          (clean (CboClean 7) (clean_frame lines) y' (pc + 4) address rest more.left
          (clean_row y' 7 address (pc + 4) (read_same y 7 address h.count (lit< tt))) more.runs);
      ready = more.ready;
    }

frame_few : (locals : Locals) (opens : Bool) → AreLines (frame_lines_at locals opens)
frame_few Registers opens = tt
frame_few Frame true = (lit< tt, (lit< tt, (lit< tt, tt)))
frame_few Frame false = tt

pub are_frame_lines : (log : Log) (opens : Bool) → AreLines (frame_lines log opens)
are_frame_lines log opens = frame_few (locals_of log) opens

-- ---- Slots with values

-- the stores of these slots
abbrev pub stores_of : (log : Log) (thread bank : ℕ) → List (ℕ × ℕ) → List Effect
stores_of log thread bank kept = map (λ (one : ℕ × ℕ). Stores (slot_at log thread bank one.0) 8 one.1) kept

-- ---- The part

base_row : (y : List ℕ) (log offset pc : ℕ) → read y 31 ≡ log → read y 3 ≡ offset → log + offset < 2 ^ 64 →
    row (Op Add 30 31 3) y pc ≡ Continues (slice_set y 30 (log + offset)) (next pc)
unfolding row
base_row y log offset pc e f s = ap (λ (n : ℕ). Continues (slice_set y 30 (result_of Add n (read y 3))) (next pc)) e ∙
    ap (λ (n : ℕ). Continues (slice_set y 30 (result_of Add log n)) (next pc)) f ∙
    ap (λ (n : ℕ). Continues (slice_set y 30 n) (next pc)) (add_small log offset s)

flip_row : (log : Log) (x : List ℕ) (bank pc : ℕ) → IsOnSide log bank x →
    row (OpImmediate Xori 3 3 (bank_bytes log)) x pc ≡ Continues (slice_set x 3 (bank_bytes log * (1 - bank))) (next pc)
unfolding row
flip_row log x bank pc h =
    ap (λ (n : ℕ). Continues (slice_set x 3 (result_of Xor (read x 3) n)) (next pc)) (small_immediate (bank_bytes log) (bank_immediate log)) ∙
    ap (λ (n : ℕ). Continues (slice_set x 3 n) (next pc)) (ap (λ (n : ℕ). result_of Xor n (bank_bytes log)) h.offset ∙ flip log bank h.exists)

first_row : (log : Log) (thread bank : ℕ) (x y : List ℕ) (value pc : ℕ) → thread < MOST_THREADS → bank < 2 → IsUnderWay log thread bank x y → read y 7 ≡ value →
    row (Store Sd 7 30 64) y pc ≡ Stores (slot_at log thread bank 0) 8 value
first_row log thread bank x y value pc t b h e =
    slot_row log thread bank x y 7 0 64 pc (slot_address log thread bank 0 t b (lit< tt)) h ∙ ap (λ (n : ℕ). Stores (slot_at log thread bank 0) 8 n) e

-- up to the locks
pub opened : (log : Log) (thread value bank : ℕ) (address first : List Instr) (x : List ℕ) (pc : ℕ) → thread < MOST_THREADS → IsOnSide log bank x →
    IsConstant 31 (log_of log thread) address → IsConstant 7 value first →
    Written log thread (1 - bank) x x (opening_list log address first) pc (Stores (slot_at log thread (1 - bank) 0) 8 value ∷ [])
opened log thread value bank address code x pc t at is_log is_first =
    let other : ℕ = 1 - bank in
    let below : other < 2 = omega arith in
    let offset : ℕ = bank_bytes log * other in
    let place : ℕ = log_of log thread in
    let x1 : List ℕ = slice_set x 3 offset in
    let x2 : List ℕ = slice_set x1 31 place in
    let x3 : List ℕ = slice_set x2 30 (place + offset) in
    let x4 : List ℕ = slice_set x3 7 value in
    let l1 : length x1 ≡ 32 = length-changed x 3 offset at.count in
    let l2 : length x2 ≡ 32 = length-changed x1 31 place l1 in
    let l3 : length x3 ≡ 32 = length-changed x2 30 (place + offset) l2 in
    let z1 : read x1 0 ≡ 0 = read_other x 3 0 offset refl ∙ at.zero_is in
    let z3 : read x3 0 ≡ 0 = read_other x2 30 0 (place + offset) refl ∙ read_other x1 31 0 place refl ∙ z1 in
    let o2 : read x2 3 ≡ offset = read_other x1 31 3 place refl ∙ read_same x 3 offset at.count (lit< tt) in
    let start = ready log thread other value x at.count at.zero_is in
    let flips : List Instr = OpImmediate Xori 3 3 (bank_bytes log) ∷ address in
    let begins : List Instr = Op Add 30 31 3 ∷ code in
    let one : RunsFrom flips x pc [] x2 =
    go (OpImmediate Xori 3 3 (bank_bytes log)) address x x1 pc [] x2 (flip_row log x bank pc at) (constant_runs 31 place address x1 (pc + 4) is_log l1 z1) in
    let pc2 : ℕ = pc + 4 * length flips in
    let two : RunsFrom begins x2 pc2 [] x4 =
    go (Op Add 30 31 3) code x2 x3 pc2 [] x4
    (base_row x2 place offset pc2 (read_same x1 31 place l1 (lit< tt)) o2 (omega (arith, base_small log thread other t below)))
    (constant_runs 7 value code x3 (pc2 + 4) is_first l3 z3) in
    let both : RunsFrom (flips ++ begins) x pc [] x4 = along flips begins x x2 x4 pc [] [] one two in
    let pc3 : ℕ = pc + 4 * length (flips ++ begins) in
    let last : RunsFrom (Store Sd 7 30 64 ∷ []) x4 pc3 (Stores (slot_at log thread other 0) 8 value ∷ []) x4 =
    store (Store Sd 7 30 64) [] x4 pc3 (slot_at log thread other 0) 8 value [] x4
    (first_row log thread other x x4 value pc3 t below start (read_same x3 7 value l3 (lit< tt))) (stop x4 (pc3 + 4)) in
    record {
      left = x4;
      runs = along (flips ++ begins) (Store Sd 7 30 64 ∷ []) x x4 x4 pc [] (Stores (slot_at log thread other 0) 8 value ∷ []) both last;
      ready = start;
    }
