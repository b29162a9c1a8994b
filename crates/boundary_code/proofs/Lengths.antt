-- Lengths of boundaries.
use Rattle.std.proofs.Common.{◌≡◌, ℕ, zero, suc, ◌+◌, ◌*◌, ◌≤◌, List, [], ◌∷◌, length, filter, refl, ap, arith, Bool, true, false}
use Rattle.std.specs.Prelude.{if◌then◌else◌, ◌==◌, ◌/◌, Option, None, Some}
use Rattle.std.specs.List.{list_any}
use Rattle.std.proofs.lemmas.List.{length-append}
use Rattle.log_schemes.specs.declared.log.Log.{Log}
use Rattle.rv64_isa.specs.declared.instr.Instr.{Instr}
use Rattle.rv64_isa.specs.declared.instr.Instr.TheVariants.{Fence, Store}
use Rattle.rv64_isa.specs.declared.instr.StoreKind.TheVariants.{Sd}
use Rattle.log_schemes.specs.declared.locals.Locals.{Locals}
use Rattle.log_schemes.specs.declared.locals.Locals.TheVariants.{Registers, Frame}
use Rattle.boundary_code.specs.Boundaries.{clean_frame, clean_lines, commit, fixed_words, frame_lines, frame_lines_at, frame_words, keep_locks, keep_slots, keep_told}
use Rattle.boundary_code.specs.Boundaries.{lines_in_use, number_words}
use Rattle.boundary_code.specs.links.InstructionLists.{bank_list, last_list}
use Rattle.log_schemes.specs.Schemes.{bank_lines, lines_in_bank, locals_of, lock_slot, numbers_from, size_of, told, told_at}

slots_length : (log : Log) (live : List ℕ) → length (keep_slots log live) ≡ length live
slots_length log [] = refl
slots_length log (r ∷ rs) = let e : length (keep_slots log rs) ≡ length rs = slots_length log rs in omega (arith, e)

cleans_length : (lines : List ℕ) → length (clean_lines lines) ≡ 2 * length lines
cleans_length [] = refl
cleans_length (line ∷ lines) = let e : length (clean_lines lines) ≡ 2 * length lines = cleans_length lines in omega (arith, e)

fewer : (test : ℕ → Bool) (lines : List ℕ) → length (filter test lines) ≤ length lines
fewer test [] = omega arith
fewer test (line ∷ lines) = by (test line) (fewer test lines)
  where
    by : (b : Bool) → length (filter test lines) ≤ length lines → length (if b then line ∷ filter test lines else filter test lines) ≤ length (line ∷ lines)
    by true h = omega (arith, h)
    by false h = omega (arith, h)

lines_length : (log : Log) (slots : List ℕ) → length (lines_in_use log slots) ≤ length (bank_lines log)
lines_length log slots = fewer (λ line. list_any (λ slot. slot / 8 == line) slots) (bank_lines log)

-- the code of the locks in slots of their own
pub locks_length : (log : Log) (index : ℕ) (codes : List (List Instr)) → length (keep_locks log index codes) ≡ number_words codes
locks_length log index [] = refl
locks_length log index (code ∷ codes) =
    let more = locks_length log (index + 1) codes in
    let e = length-append code (Store Sd 5 30 (64 + 8 * lock_slot log index) ∷ keep_locks log (index + 1) codes) in
    omega (arith, more, e)

numbers_count : (at count : ℕ) → length (numbers_from at count) ≡ count
numbers_count at zero = refl
numbers_count at (suc count) = ap (λ (n : ℕ). suc n) (numbers_count (at + 1) count)

told_length : (pairs : List (ℕ × ℕ)) → length (keep_told pairs) ≡ 2 * length pairs
told_length [] = refl
told_length (one ∷ pairs) = let e : length (keep_told pairs) ≡ 2 * length pairs = told_length pairs in omega (arith, e)

frame_length : (lines : List ℕ) → length (clean_frame lines) ≡ 2 * length lines
frame_length [] = refl
frame_length (line ∷ lines) = let e : length (clean_frame lines) ≡ 2 * length lines = frame_length lines in omega (arith, e)

few_told : (locals : Locals) (written : Option ℕ) (opens : Bool) →
    2 * length (told_at locals written) + 2 * length (frame_lines_at locals opens) ≤ frame_words locals
few_told Registers written opens = omega arith
few_told Frame None true = omega arith
few_told Frame None false = omega arith
few_told Frame (Some bytes) true = omega arith
few_told Frame (Some bytes) false = omega arith

pub boundary_short : (log : Log) (address first others : List Instr) (written : Option ℕ) (opens : Bool) (slots live : List ℕ) (resume : ℕ) →
    length address ≤ 8 → length first ≤ 8 →
    length (bank_list log address first others (record { telling = keep_told (told log written); slots = slots; live = live; frame = frame_lines log opens })
    resume) ≤ length live + length others + fixed_words log
boundary_short log address first others written opens used live resume l m =
    let slots : length (keep_slots log live) ≡ length live = slots_length log live in
    let many : length (bank_lines log) ≡ lines_in_bank (size_of log) = numbers_count 0 (lines_in_bank (size_of log)) in
    let cleans : length (clean_lines (lines_in_use log used)) ≡ 2 * length (lines_in_use log used) = cleans_length (lines_in_use log used) in
    let lines = lines_length log used in
    let tells : length (keep_told (told log written)) ≡ 2 * length (told log written) = told_length (told log written) in
    let frames : length (clean_frame (frame_lines log opens)) ≡ 2 * length (frame_lines log opens) = frame_length (frame_lines log opens) in
    let few = few_told (locals_of log) written opens in
    simp length-append (omega (arith, slots, cleans, lines, many, tells, frames, few, l, m))

pub last_short : (address : List Instr) (live : List ℕ) → length address ≤ 8 → length (last_list address) ≤ length live + 27
last_short address live l = let e : length (last_list address) ≡ length address + 4 = length-append address (Fence ∷ commit 0) in omega (arith, e, l)
