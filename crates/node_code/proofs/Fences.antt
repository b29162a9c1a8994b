-- The FENCEs of pieces, and the words of parts: all are instructions.
use Rattle.std.proofs.Common.{◌≡◌, ℕ, ◌+◌, ◌-◌, ◌*◌, ◌%◌, ◌^◌, ◌<◌, ◌≤◌, zero, suc, List, [], ◌∷◌, ◌++◌}
use Rattle.std.proofs.Common.{length, map, Some, refl, ap, sym, ◌∙◌, arith, subst, Bool, true, false}
use Rattle.std.specs.Prelude.{slice_get, ◌==◌, if◌then◌else◌}
use Rattle.std.proofs.lemmas.List.{length-append}
use Rattle.std.proofs.lemmas.List.Sums.{sum_by-append, sum_by-cons}
use Rattle.log_schemes.specs.Layout.{frame_at, slot_at}
use Rattle.rv64_isa.specs.declared.instr.Instr.{Instr}
use Rattle.rv64_isa.specs.declared.instr.Instr.TheVariants.{Lui, Auipc, Jal, Jalr, Branch, Load, Store, OpImmediate}
use Rattle.rv64_isa.specs.declared.instr.Instr.TheVariants.{ShiftImmediate, ShiftImmediateWord, Op, CboClean, Fence, Ecall}
use Rattle.rv64_isa.specs.declared.object.CodeItem.{CodeItem}
use Rattle.rv64_isa.specs.declared.object.CodeItem.TheVariants.{Instruction, BranchTo, MarkNext, ResumeNext}
use Rattle.rv64_isa.specs.declared.object.Label.{Label}
use Rattle.rv64_isa.specs.declared.object.Slot.TheVariants.{Row}
use Rattle.rv64_isa.specs.Rows.{Effect, Continues, Loads, Stores, Cleans, Fences, Calls, row, read, next}
use Rattle.rv64_link.specs.LabelledCode.{is_fence, one_if, fences_of, fences_in}
use Rattle.rv64_link.specs.LinkedCode.{AreInstructions}
use Rattle.rv64_link.proofs.Public.{no_instructions, more_instructions, within, some_at}
use Rattle.boundary_code.specs.Boundaries.{Boundary, boundary_effects, bank_effects, first_kept}
use Rattle.boundary_code.specs.Boundaries.{commit_effects, frame_lines, lines_in_use, pairs_kept, slots_kept}
use Rattle.log_schemes.specs.Schemes.{keeping_of, lock_slot, register_slot, told}
use Rattle.boundary_code.specs.Boundaries.{IsUnderWay, keep_locks, other_side}
use Rattle.boundary_code.specs.links.BoundaryParts.{Closes, DoesBoundary, HasEffects, IsInParts, Opens, closing_effects, in_parts, resume_address, undivided}
use Rattle.operator_code.specs.StraightLineCode.{effects, registers_after, seen, left_by}
use Rattle.operator_code.specs.declared.branches.Test.{Test}
use Rattle.node_code.specs.Sites.{Linking, IsPart, Site, begin_of, end_of}
use Rattle.node_code.specs.links.ItemLists.{plain, asking_items, boundary_items, lock_items, unlock_items, computing_items, choice_items}
use Rattle.rv64_isa.specs.declared.instr.ImmediateOperation.TheVariants.{Addi}
use Rattle.node_code.proofs.ItemAddresses.{item_at}
use Rattle.boundary_code.specs.Boundaries.{is_empty}
use Rattle.boundary_code.proofs.Public.{code_does, fresh_on_side}
use Rattle.node_code.specs.BoundaryCode.{IsQuiet}
use Rattle.node_code.specs.links.BoundaryCode.{IsCodeOf}
use Rattle.node_code.proofs.ListLegs.{plain_both}
use Rattle.rv64_isa.specs.declared.instr.StoreKind.TheVariants.{Sd}
use Rattle.log_schemes.specs.declared.log.Log.{Log}
use Rattle.std.specs.List.{AllByRecursion}

-- ---- Items

pub fences_append : (xs ys : List CodeItem) → fences_in (xs ++ ys) ≡ fences_in xs + fences_in ys
fences_append xs ys = sum_by-append fences_of xs ys

pub fences_cons : (x : CodeItem) (xs : List CodeItem) → fences_in (x ∷ xs) ≡ fences_of x + fences_in xs
fences_cons x xs = sum_by-cons fences_of x xs

-- ---- Effects

abbrev is_fences : Effect → Bool
is_fences (Continues registers to) = false
is_fences (Loads address bytes signed register) = false
is_fences (Stores address bytes value) = false
is_fences (Cleans address) = false
is_fences Fences = true
is_fences Calls = false

abbrev fences_seen : List Effect → ℕ
fences_seen [] = 0
fences_seen (e ∷ es) = one_if (is_fences e) + fences_seen es

seen_append : (es fs : List Effect) → fences_seen (es ++ fs) ≡ fences_seen es + fences_seen fs
seen_append [] fs = omega arith
seen_append (e ∷ es) fs = let h = seen_append es fs in omega (arith, h)

on_is_none : (pc to : ℕ) (x : List ℕ) → fences_seen (seen pc (Continues x to)) ≡ 0
on_is_none pc to x = by (to == next pc)
  where
    by : (b : Bool) → fences_seen (if b then [] else Continues x to ∷ []) ≡ 0
    by true = refl
    by false = refl

seen_of : (i : Instr) (x : List ℕ) (pc : ℕ) → fences_seen (seen pc (row i x pc)) ≡ one_if (is_fence (Row i))
unfolding row
seen_of (Lui rd immediate) x pc = on_is_none pc _ _
seen_of (Auipc rd immediate) x pc = on_is_none pc _ _
seen_of (Jal rd offset) x pc = on_is_none pc _ _
seen_of (Jalr rd rs1 offset) x pc = on_is_none pc _ _
seen_of (Branch condition rs1 rs2 offset) x pc = on_is_none pc _ _
seen_of (Load kind rd rs1 offset) x pc = refl
seen_of (Store kind rs2 rs1 offset) x pc = refl
seen_of (OpImmediate operation rd rs1 immediate) x pc = on_is_none pc _ _
seen_of (ShiftImmediate operation rd rs1 count) x pc = on_is_none pc _ _
seen_of (ShiftImmediateWord operation rd rs1 count) x pc = on_is_none pc _ _
seen_of (Op operation rd rs1 rs2) x pc = on_is_none pc _ _
seen_of (CboClean rs1) x pc = refl
seen_of Fence x pc = refl
seen_of Ecall x pc = refl

-- each FENCE of straight code is seen, whatever the registers hold
pub fences_are_seen : (code : List Instr) (x : List ℕ) (pc : ℕ) → fences_seen (effects code x pc) ≡ fences_in (plain code)
fences_are_seen [] x pc = refl
fences_are_seen (i ∷ is) x pc =
    let here : fences_seen (seen pc (row i x pc)) ≡ one_if (is_fence (Row i)) = seen_of i x pc in
    let rest : fences_seen (effects is (left_by x (row i x pc)) (pc + 4)) ≡ fences_in (plain is) = fences_are_seen is (left_by x (row i x pc)) (pc + 4) in
    let both = seen_append (seen pc (row i x pc)) (effects is (left_by x (row i x pc)) (pc + 4)) in
    let sum : fences_in (plain (i ∷ is)) ≡ one_if (is_fence (Row i)) + fences_in (plain is) = fences_cons (Instruction i) (plain is) in
    omega (arith, here, rest, both, sum)

-- ---- Boundaries

stores_have_none : (rs : List ℕ) (address : ℕ → ℕ) (value : ℕ → ℕ) → fences_seen (map (λ r. Stores (address r) 8 (value r)) rs) ≡ 0
stores_have_none [] address value = refl
stores_have_none (r ∷ rs) address value = let h = stores_have_none rs address value in omega (arith, h)

cleans_have_none : (lines : List ℕ) (address : ℕ → ℕ) → fences_seen (map (λ line. Cleans (address line)) lines) ≡ 0
cleans_have_none [] address = refl
cleans_have_none (l ∷ ls) address = let h = cleans_have_none ls address in omega (arith, h)

locks_have_none : (kept : List (ℕ × ℕ)) (address : ℕ → ℕ) → fences_seen (map (λ (k : ℕ × ℕ). Stores (address k.0) 8 k.1) kept) ≡ 0
locks_have_none [] address = refl
locks_have_none (k ∷ kept) address = let h = locks_have_none kept address in omega (arith, h)

bank_has_none : (b : Boundary) (bank : ℕ) (x : List ℕ) → fences_seen (bank_effects b bank x) ≡ 0
bank_has_none b bank x =
    let at : ℕ → ℕ = slot_at b.log b.thread bank in
    let lines : List ℕ = lines_in_use b.log (slots_kept b.log b.locks b.written b.live) in
    let kept = map (λ (k : ℕ × ℕ). Stores (at k.0) 8 k.1) (pairs_kept b.log b.locks b.written) in
    let stored = map (λ (r : ℕ). Stores (at (register_slot b.log r)) 8 (read x r)) b.live in
    let cleaned = map (λ (line : ℕ). Cleans (at (8 * line))) lines in
    let framed = map (λ (line : ℕ). Cleans (frame_at b.log b.thread (8 * line))) (frame_lines b.log b.opens) in
    let zeroth : fences_seen kept ≡ 0 = locks_have_none (pairs_kept b.log b.locks b.written) at in
    let first : fences_seen stored ≡ 0 = stores_have_none b.live (λ r. at (register_slot b.log r)) (read x) in
    let second : fences_seen cleaned ≡ 0 = cleans_have_none lines (λ line. at (8 * line)) in
    let last : fences_seen framed ≡ 0 = cleans_have_none (frame_lines b.log b.opens) (λ line. frame_at b.log b.thread (8 * line)) in
    let e : fences_seen (kept ++ stored) ≡ fences_seen kept + fences_seen stored = seen_append kept stored in
    let f : fences_seen (kept ++ stored ++ cleaned) ≡ fences_seen (kept ++ stored) + fences_seen cleaned = seen_append (kept ++ stored) cleaned in
    let g : fences_seen (kept ++ stored ++ cleaned ++ framed) ≡ fences_seen (kept ++ stored ++ cleaned) + fences_seen framed =
    seen_append (kept ++ stored ++ cleaned) framed in
    omega (arith, zeroth, first, second, last, e, f, g)

two_seen : (b : Boundary) (side resume : ℕ) (x : List ℕ) → fences_seen (boundary_effects b side resume x) ≡ 2
two_seen b side resume x = by (is_empty b.locks)
  where
    by : (z : Bool) → fences_seen (if z then commit_effects b.log b.thread 0
        else bank_effects b (1 - side) x ++ commit_effects b.log b.thread ((resume + (1 - side)) % 2 ^ 64)) ≡ 2
    by true = refl
    by false =
        let both = seen_append (bank_effects b (1 - side) x) (commit_effects b.log b.thread ((resume + (1 - side)) % 2 ^ 64)) in
        let none = bank_has_none b (1 - side) x in
        omega (arith, both, none)

abbrev zeros : List ℕ
zeros = 0 ∷ 0 ∷ 0 ∷ 0 ∷ 0 ∷ 0 ∷ 0 ∷ 0 ∷ 0 ∷ 0 ∷ 0 ∷ 0 ∷ 0 ∷ 0 ∷ 0 ∷ 0 ∷ 0 ∷ 0 ∷ 0 ∷ 0 ∷ 0 ∷ 0 ∷ 0 ∷ 0 ∷ 0 ∷ 0 ∷ 0 ∷ 0 ∷ 0 ∷ 0 ∷ 0 ∷ 0 ∷ []

straight_fences : (b : Boundary) (code : List Instr) → HasEffects b code → fences_in (plain code) ≡ 2
straight_fences b code h =
    sym (fences_are_seen code zeros 0) ∙ ap fences_seen (h.does zeros 0 0 (fresh_on_side b.log)) ∙ two_seen b 0 (resume_address b code 0) zeros

-- of two parts the first one has none, and the last one both
opening_fences : (log : Log) (thread value : ℕ) (code : List Instr) → Opens log thread value code → fences_in (plain code) ≡ 0
opening_fences log thread value code opens = sym (fences_are_seen code zeros 0) ∙ ap fences_seen (opens.does zeros 0 0 (fresh_on_side log))

closing_seen : (b : Boundary) (bank resume : ℕ) (x : List ℕ) → fences_seen (closing_effects b bank resume x) ≡ 2
closing_seen b bank resume x =
    let at : ℕ → ℕ = slot_at b.log b.thread bank in
    let lines : List ℕ = lines_in_use b.log (slots_kept b.log b.locks b.written b.live) in
    let telling = map (λ (k : ℕ × ℕ). Stores (at k.0) 8 k.1) (told b.log b.written) in
    let stored = map (λ (r : ℕ). Stores (at (register_slot b.log r)) 8 (read x r)) b.live in
    let cleaned = map (λ (line : ℕ). Cleans (at (8 * line))) lines in
    let framed = map (λ (line : ℕ). Cleans (frame_at b.log b.thread (8 * line))) (frame_lines b.log b.opens) in
    let commit = commit_effects b.log b.thread ((resume + bank) % 2 ^ 64) in
    let zeroth : fences_seen telling ≡ 0 = locks_have_none (told b.log b.written) at in
    let first : fences_seen stored ≡ 0 = stores_have_none b.live (λ r. at (register_slot b.log r)) (read x) in
    let second : fences_seen cleaned ≡ 0 = cleans_have_none lines (λ line. at (8 * line)) in
    let third : fences_seen framed ≡ 0 = cleans_have_none (frame_lines b.log b.opens) (λ line. frame_at b.log b.thread (8 * line)) in
    let e : fences_seen (telling ++ stored) ≡ fences_seen telling + fences_seen stored = seen_append telling stored in
    let f : fences_seen (telling ++ stored ++ cleaned) ≡ fences_seen (telling ++ stored) + fences_seen cleaned = seen_append (telling ++ stored) cleaned in
    let g : fences_seen (telling ++ stored ++ cleaned ++ framed) ≡ fences_seen (telling ++ stored ++ cleaned) + fences_seen framed =
    seen_append (telling ++ stored ++ cleaned) framed in
    let h : fences_seen (telling ++ stored ++ cleaned ++ framed ++ commit) ≡ fences_seen (telling ++ stored ++ cleaned ++ framed) + fences_seen commit =
    seen_append (telling ++ stored ++ cleaned ++ framed) commit in
    omega (arith, zeroth, first, second, third, e, f, g, h)

closing_fences : (b : Boundary) (code : List Instr) (z : List ℕ) → Closes b code → IsUnderWay b.log b.thread (other_side 0) zeros z →
    fences_in (plain code) ≡ 2
closing_fences b code z closes under =
    sym (fences_are_seen code z 0)
    ∙ (ap fences_seen (closes.does zeros z 0 0 under) ∙ closing_seen b (other_side 0) (resume_address b code 0) zeros)

locks_fences : (log : Log) (index : ℕ) (codes : List (List Instr)) → AllByRecursion IsQuiet codes → fences_in (plain (keep_locks log index codes)) ≡ 0
locks_fences log index [] quiet = refl
locks_fences log index (code ∷ codes) quiet =
    let store : Instr = Store Sd 5 30 (64 + 8 * lock_slot log index) in
    let rest : List Instr = keep_locks log (index + 1) codes in
    let more : fences_in (plain rest) ≡ 0 = locks_fences log (index + 1) codes quiet.1 in
    let sum : fences_in (plain (code ++ store ∷ rest)) ≡ fences_in (plain code) + fences_in (plain (store ∷ rest)) =
    ap (λ (is : List CodeItem). fences_in is) (plain_both code (store ∷ rest)) ∙ fences_append (plain code) (plain (store ∷ rest)) in
    let one : fences_in (plain (store ∷ rest)) ≡ 0 + fences_in (plain rest) = fences_cons (Instruction store) (plain rest) in
    let first = quiet.0.fences in
    omega (arith, more, sum, one, first)

parts_fences : (b : Boundary) (codes : List (List Instr)) (code : List Instr) → IsInParts b codes code → AllByRecursion IsQuiet codes →
    fences_in (plain code) ≡ 2
parts_fences b codes code h quiet =
    let opening : List Instr = h.opening in
    let middle : List Instr = keep_locks b.log 0 codes in
    let closing : List Instr = h.closing in
    let first : fences_in (plain opening) ≡ 0 = opening_fences b.log b.thread (first_kept (keeping_of b.log) b.locks) opening h.opens in
    let second : fences_in (plain middle) ≡ 0 = locks_fences b.log 0 codes quiet in
    let third : fences_in (plain closing) ≡ 2 =
    closing_fences b closing (registers_after opening zeros 0) h.closes (h.opens.leaves zeros 0 0 (fresh_on_side b.log)) in
    let outer : fences_in (plain code) ≡ fences_in (plain opening) + fences_in (plain (middle ++ closing)) =
    ap (λ (is : List Instr). fences_in (plain is)) h.split
    ∙ (ap (λ (is : List CodeItem). fences_in is) (plain_both opening (middle ++ closing)) ∙ fences_append (plain opening) (plain (middle ++ closing))) in
    let inner : fences_in (plain (middle ++ closing)) ≡ fences_in (plain middle) + fences_in (plain closing) =
    ap (λ (is : List CodeItem). fences_in is) (plain_both middle closing) ∙ fences_append (plain middle) (plain closing) in
    omega (arith, first, second, third, outer, inner)

fences_where : (b : Boundary) (codes : List (List Instr)) (code : List Instr) → DoesBoundary b codes code → AllByRecursion IsQuiet codes →
    fences_in (plain code) ≡ 2
fences_where b codes code (undivided h) quiet = straight_fences b code h.effects_are
fences_where b codes code (in_parts h) quiet = parts_fences b codes code h quiet

pub boundary_fences : (b : Boundary) (codes : List (List Instr)) (code : List Instr) → IsCodeOf b codes code → fences_in (plain code) ≡ 2
boundary_fences b codes code h = fences_where b codes code (code_does b codes code h.is) h.quiet

-- it isn't empty
pub some_code : (b : Boundary) (codes : List (List Instr)) → IsCodeOf b codes [] → ⊥
some_code b codes h = let two : 0 ≡ 2 = boundary_fences b codes [] h in omega (arith, two)

pub boundary_items_fences : (b : Boundary) (codes : List (List Instr)) (code : List Instr) → IsCodeOf b codes code →
    fences_in (boundary_items code) ≡ 2
boundary_items_fences b codes code h =
    let two = boundary_fences b codes code h in let sum = fences_append (plain code) (ResumeNext ∷ []) in omega (arith, two, sum)

-- ---- Calls

asking_fences : (numbering : List Instr) (call : ℕ) → IsQuiet numbering → fences_in (asking_items numbering call) ≡ 0
asking_fences numbering call quiet =
    let i : Instr = OpImmediate Addi 17 0 call in
    let sum : fences_in (asking_items numbering call) ≡ fences_in (plain numbering) + 0 = fences_append (plain numbering) (Instruction i ∷ []) in
    let first = quiet.fences in
    omega (arith, sum, first)

pub lock_items_fences : (b : Boundary) (codes : List (List Instr)) (numbering code : List Instr) → IsQuiet numbering → IsCodeOf b codes code →
    fences_in (lock_items numbering code) ≡ 2
lock_items_fences b codes numbering code quiet h =
    let rest : List CodeItem = MarkNext ∷ Instruction Ecall ∷ boundary_items code in
    let sum = fences_append (asking_items numbering 1) rest in
    let called : fences_in rest ≡ 0 + fences_in (boundary_items code) = fences_append (MarkNext ∷ Instruction Ecall ∷ []) (boundary_items code) in
    let first = asking_fences numbering 1 quiet in
    let last = boundary_items_fences b codes code h in
    omega (arith, sum, called, first, last)

pub unlock_items_fences : (b : Boundary) (ends : Bool) (codes : List (List Instr)) (numbering code : List Instr) → IsQuiet numbering →
    IsCodeOf b codes code → fences_in (unlock_items numbering ends code) ≡ 2
unlock_items_fences b ends codes numbering code quiet h =
    let last : List CodeItem = Instruction Ecall ∷ (if ends then [] else ResumeNext ∷ []) in
    let sum = fences_append (MarkNext ∷ plain code) (asking_items numbering 2 ++ last) in
    let marked : fences_in (MarkNext ∷ plain code) ≡ 2 = fences_cons MarkNext (plain code) ∙ ap (λ (n : ℕ). 0 + n) (boundary_fences b codes code h) in
    let asked = fences_append (asking_items numbering 2) last in
    let first = asking_fences numbering 2 quiet in
    let none : fences_in last ≡ 0 = by ends in
    omega (arith, sum, marked, asked, first, none)
  where
    by : (z : Bool) → fences_in (Instruction Ecall ∷ (if z then [] else ResumeNext ∷ [])) ≡ 0
    by true = refl
    by false = refl

-- ---- Code that computes

pub computing_fences : (i : Instr) (is : List Instr) → fences_in (computing_items (i ∷ is)) ≡ fences_in (plain (i ∷ is))
computing_fences i is = fences_cons MarkNext (plain (i ∷ is)) ∙ omega arith

pub choice_fences : (code : List Instr) (test : Test) (to : Label) → fences_in (choice_items code test to) ≡ fences_in (plain code)
choice_fences code test to =
    let sum = fences_append (MarkNext ∷ plain code) (BranchTo test.condition test.rs1 test.rs2 to ∷ []) in
    let marked : fences_in (MarkNext ∷ plain code) ≡ 0 + fences_in (plain code) = fences_cons MarkNext (plain code) in
    omega (arith, sum, marked)

-- ---- Parts

module _ (all : List CodeItem) (n : Linking all) where
  abbrev to : ℕ → ℕ
  to k = n.linked.address_of k

  abbrev Are : (from to fences : ℕ) → Type 0
  Are from to fences = AreInstructions n.program.start n.program.code from to fences

  instructions_before : (k : ℕ) → k ≤ length all → (m : ℕ) × Are (to 0) (to k) m
  instructions_before zero h =
      let begins : to 0 ≡ n.program.start = n.linked.begins in
      (0, no_instructions n.program.start n.program.code (to 0) 0 (omega (arith, begins)) (omega arith))
  instructions_before (suc k) h =
      let before = instructions_before k (omega (arith, h)) in
      let item = some_at all k (omega (arith, h)) in
      let e : k + 1 ≡ suc k = omega arith in
      let here : Are (to k) (to (suc k)) (fences_of item.0) = subst (λ (q : ℕ). Are (to k) (to q) (fences_of item.0)) e (n.linked.words k item.0 item.1) in
      (before.0 + fences_of item.0, more_instructions n.program.start n.program.code (to 0) (to k) (to (suc k)) before.0 (fences_of item.0) before.1 here)

  instructions_from : (k : ℕ) (part : List CodeItem) → ((j : ℕ) (item : CodeItem) → slice_get part j ≡ Some item → slice_get all (k + j) ≡ Some item) →
      k ≤ length all → Are (to k) (to (k + length part)) (fences_in part)
  instructions_from k [] own h =
      let before = instructions_before k h in
      let from : to 0 ≡ n.program.start + 4 * before.1.first = before.1.from_is in
      let until : to k ≡ to 0 + 4 * before.1.count = before.1.to_is in
      let e : k ≡ k + 0 = omega arith in
      subst (λ (q : ℕ). Are (to k) (to q) 0) e
      (no_instructions n.program.start n.program.code (to k) (before.1.first + before.1.count) (omega (arith, from, until)) before.1.inside)
  instructions_from k (x ∷ xs) own h =
      let zeroth : k + 0 ≡ k = omega arith in
      let end : k + 1 + length xs ≡ k + length (x ∷ xs) = omega arith in
      let there : slice_get all k ≡ Some x = subst (λ (q : ℕ). slice_get all q ≡ Some x) zeroth (own 0 x refl) in
      let below : k < length all = within all k x there in
      let rest : Are (to (k + 1)) (to (k + 1 + length xs)) (fences_in xs) = instructions_from (k + 1) xs (λ j item e.
      let moved : k + suc j ≡ k + 1 + j = omega arith in
      subst (λ (q : ℕ). slice_get all q ≡ Some item) moved (own (suc j) item e)) (omega (arith, below)) in
      let both : Are (to k) (to (k + 1 + length xs)) (fences_of x + fences_in xs) =
      more_instructions n.program.start n.program.code (to k) (to (k + 1)) (to (k + 1 + length xs)) (fences_of x) (fences_in xs)
      (n.linked.words k x there) rest in
      subst (λ (q : ℕ). Are (to k) (to q) (fences_in (x ∷ xs))) end
      (subst (λ (m : ℕ). Are (to k) (to (k + 1 + length xs)) m) (sym (fences_cons x xs)) both)

-- the words of a part are instructions, of which as many are FENCEs as of its items
pub part_instructions : (part : List CodeItem) (site : Site part) →
    AreInstructions site.linking.program.start site.linking.program.code (begin_of part site) (end_of part site) (fences_in part)
part_instructions part site =
    let p : IsPart site.items site.position part = site.is_part in
    let whole : length site.items ≡ length (p.before ++ (part ++ p.after)) = ap length p.split in
    let both = length-append p.before (part ++ p.after) in
    let at : site.position ≡ length p.before = p.at in
    instructions_from site.items site.linking site.position part (item_at site.items site.position part p) (omega (arith, whole, both, at))
