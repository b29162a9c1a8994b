-- A boundary cleans few lines.
use Rattle.std.proofs.Common.{◌≡◌, ℕ, suc, ◌+◌, ◌*◌, ◌%◌, ◌^◌, ◌≤◌, List, [], ◌∷◌, ◌++◌, length, map, arith, Bool, true, false}
use Rattle.std.specs.Prelude.{filter, ◌==◌, ◌/◌, if◌then◌else◌}
use Rattle.std.specs.List.{list_any}
use Rattle.log_schemes.proofs.Public.{few_lines}
use Rattle.log_schemes.specs.declared.locals.Locals.{Locals}
use Rattle.log_schemes.specs.declared.locals.Locals.TheVariants.{Registers, Frame}
use Rattle.log_schemes.specs.Layout.{frame_at, slot_at}
use Rattle.rv64_isa.specs.Rows.{Effect, Stores, Cleans, read}
use Rattle.code_runs.specs.CodeTraces.{seen_effects}
use Rattle.boundary_code.specs.Boundaries.{Boundary, frame_lines, frame_lines_at, other_side, pairs_kept, slots_kept, lines_in_use, bank_effects}
use Rattle.boundary_code.specs.Boundaries.{commit_effects, boundary_effects, is_empty}
use Rattle.log_schemes.specs.Schemes.{bank_lines, locals_of, register_slot}
use Rattle.hart_runs.specs.RunSteps.{cleans_in}

filter_short : (test : ℕ → Bool) (xs : List ℕ) → length (filter test xs) ≤ length xs
filter_short test [] = omega arith
filter_short test (x ∷ xs) = by (test x) (filter_short test xs)
  where
    by : (b : Bool) → length (filter test xs) ≤ length xs → length (if b then x ∷ filter test xs else filter test xs) ≤ suc (length xs)
    by true more = omega (arith, more)
    by false more = omega (arith, more)

both : (xs zs : List Effect) → cleans_in (seen_effects (xs ++ zs)) ≡ cleans_in (seen_effects xs) + cleans_in (seen_effects zs)
both [] zs = omega arith
both (x ∷ xs) zs = let more = both xs zs in omega (arith, more)

stores_none : {A : Type 0} (address value : A → ℕ) (xs : List A) → cleans_in (seen_effects (map (λ (a : A). Stores (address a) 8 (value a)) xs)) ≡ 0
stores_none address value [] = omega arith
stores_none address value (x ∷ xs) = let more = stores_none address value xs in omega (arith, more)

cleans_each : (address : ℕ → ℕ) (lines : List ℕ) → cleans_in (seen_effects (map (λ (line : ℕ). Cleans (address line)) lines)) ≡ length lines
cleans_each address [] = omega arith
cleans_each address (line ∷ lines) = let more = cleans_each address lines in omega (arith, more)

frame_few : (k : Locals) (opens : Bool) → length (frame_lines_at k opens) ≤ (if opens then 3 else 0)
frame_few Registers true = omega arith
frame_few Registers false = omega arith
frame_few Frame true = omega arith
frame_few Frame false = omega arith

bank_cleans : (b : Boundary) (bank : ℕ) (x : List ℕ) → cleans_in (seen_effects (bank_effects b bank x)) ≤ 6 + (if b.opens then 3 else 0)
bank_cleans b bank x =
    let at : ℕ → ℕ = slot_at b.log b.thread bank in
    let slots : List ℕ = slots_kept b.log b.locks b.written b.live in
    let pairs = map (λ (kept : ℕ × ℕ). Stores (at kept.0) 8 kept.1) (pairs_kept b.log b.locks b.written) in
    let registers = map (λ (r : ℕ). Stores (at (register_slot b.log r)) 8 (read x r)) b.live in
    let lines = map (λ (line : ℕ). Cleans (at (8 * line))) (lines_in_use b.log slots) in
    let framing = map (λ (line : ℕ). Cleans (frame_at b.log b.thread (8 * line))) (frame_lines b.log b.opens) in
    let zeroth : cleans_in (seen_effects pairs) ≡ 0 =
    stores_none (λ (kept : ℕ × ℕ). at kept.0) (λ (kept : ℕ × ℕ). kept.1) (pairs_kept b.log b.locks b.written) in
    let first : cleans_in (seen_effects registers) ≡ 0 = stores_none (λ (r : ℕ). at (register_slot b.log r)) (λ (r : ℕ). read x r) b.live in
    let each : cleans_in (seen_effects lines) ≡ length (lines_in_use b.log slots) = cleans_each (λ (line : ℕ). at (8 * line)) (lines_in_use b.log slots) in
    let short : length (lines_in_use b.log slots) ≤ length (bank_lines b.log) =
    filter_short (λ (line : ℕ). list_any (λ (slot : ℕ). slot / 8 == line) slots) (bank_lines b.log) in
    let last : cleans_in (seen_effects framing) ≡ length (frame_lines b.log b.opens) =
    cleans_each (λ (line : ℕ). frame_at b.log b.thread (8 * line)) (frame_lines b.log b.opens) in
    let few : length (frame_lines b.log b.opens) ≤ (if b.opens then 3 else 0) = frame_few (locals_of b.log) b.opens in
    let stored : cleans_in (seen_effects (pairs ++ registers)) ≡ cleans_in (seen_effects pairs) + cleans_in (seen_effects registers) = both pairs registers in
    let banked : cleans_in (seen_effects ((pairs ++ registers) ++ lines)) ≡ cleans_in (seen_effects (pairs ++ registers)) + cleans_in (seen_effects lines) =
    both (pairs ++ registers) lines in
    let all : cleans_in (seen_effects (((pairs ++ registers) ++ lines) ++ framing)) ≡
    cleans_in (seen_effects ((pairs ++ registers) ++ lines)) + cleans_in (seen_effects framing) = both ((pairs ++ registers) ++ lines) framing in
    omega (arith, zeroth, first, each, short, last, few, stored, banked, all, few_lines b.log)

-- no more than seven, and the frame's three where it opens a section
pub few_cleans : (b : Boundary) (side resume : ℕ) (x : List ℕ) → cleans_in (seen_effects (boundary_effects b side resume x)) ≤ 7 + (if b.opens then 3 else 0)
few_cleans b side resume x = by (is_empty b.locks)
  where
    by : (none : Bool) → cleans_in (seen_effects (if none then commit_effects b.log b.thread 0
        else bank_effects b (other_side side) x ++ commit_effects b.log b.thread ((resume + other_side side) % 2 ^ 64))) ≤ 7 + (if b.opens then 3 else 0)
    by true = omega arith
    by false =
        let parts = both (bank_effects b (other_side side) x) (commit_effects b.log b.thread ((resume + other_side side) % 2 ^ 64)) in
        omega (arith, parts, bank_cleans b (other_side side) x)
