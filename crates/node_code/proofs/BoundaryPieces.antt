-- Boundaries.
use Rattle.std.proofs.Common.{◌≡◌, ℕ, ◌+◌, ◌-◌, ◌*◌, ◌%◌, ◌^◌, ◌<◌, List, [], ◌∷◌, ◌++◌, length, map, refl, ap, sym, ◌∙◌, arith, subst, Bool, true}
use Rattle.std.proofs.Common.{false, ◌==◌}
use Rattle.std.specs.Prelude.{sum_by, if◌then◌else◌, slice_set, pos, ℤ}
use Rattle.std.specs.List.{list_any}
use Rattle.log_schemes.specs.declared.log.Log.{Log}
use Rattle.rv64_isa.specs.Signed.{twos_complement}
use Rattle.std.proofs.Math.Nat.{mod-eq_of_lt}
use Rattle.std.proofs.lemmas.List.{length-set, length-append}
use Rattle.std.proofs.lemmas.List.Sums.{sum_by-append}
use Rattle.log_schemes.specs.Layout.{frame_at, slot_at}
use Rattle.rv64_isa.specs.declared.instr.Instr.{Instr}
use Rattle.rv64_isa.specs.declared.instr.Instr.TheVariants.{Lui, Auipc, Jal, Jalr, Branch, Load, Store, OpImmediate, ShiftImmediate}
use Rattle.rv64_isa.specs.declared.instr.Instr.TheVariants.{ShiftImmediateWord, Op, CboClean, Fence, Ecall}
use Rattle.rv64_isa.specs.declared.object.CodeItem.{CodeItem}
use Rattle.rv64_isa.specs.declared.object.CodeItem.TheVariants.{ResumeNext}
use Rattle.rv64_isa.specs.Rows.{Effect, Stores, Cleans, row, read, written}
use Rattle.rv64_link.specs.LabelledCode.{most_words_of, stands_here, is_mark, is_resume, positions_from}
use Rattle.boundary_code.specs.Boundaries.{Boundary, IsOnSide, boundary_effects, bank_effects, commit_effects}
use Rattle.boundary_code.specs.Boundaries.{frame_lines, lines_in_use, pairs_kept, slots_kept, is_empty}
use Rattle.log_schemes.specs.Schemes.{register_slot}
use Rattle.operator_code.specs.StraightLineCode.{registers_after, left_by}
use Rattle.operator_code.proofs.Public as s
use Rattle.code_runs.specs.CodeTraces.{GoesThrough, AreMemory}
use Rattle.node_code.specs.Sites.{Linking, IsPart, mark_waits}
use Rattle.node_code.specs.Pieces.{LeavesRegisters, boundary_observations}
use Rattle.boundary_code.specs.links.BoundaryParts.{IsStraightCodeOf, resume_address}
use Rattle.node_code.specs.links.ItemLists.{plain, boundary_items}
use Rattle.node_code.proofs.ItemAddresses.{part_right, waits_append, waits_plain_on, labels_append, labels_plain}
use Rattle.node_code.proofs.ItemAddresses.{positions_append, no_marks_in, no_resumes_in}
use Rattle.node_code.proofs.Words.{AreExact, exact_plain, exact_append}
use Rattle.node_code.proofs.LinkedPartRuns.{waiting, stays_at, code_end}
use Rattle.node_code.proofs.LegComposition.{fragment, end_is, weaker, straight_leg, words_of_plain}

-- ---- Registers after code

written_count : (x : List ℕ) (r v : ℕ) → length (written x r v) ≡ length x
written_count x r v = by (r == 0)
  where
    by : (b : Bool) → length (if b then x else slice_set x r v) ≡ length x
    by true = refl
    by false = length-set x r v

row_count : (i : Instr) (x : List ℕ) (pc : ℕ) → length (left_by x (row i x pc)) ≡ length x
unfolding row
row_count (Lui rd immediate) x pc = written_count x rd _
row_count (Auipc rd immediate) x pc = written_count x rd _
row_count (Jal rd offset) x pc = written_count x rd _
row_count (Jalr rd rs1 offset) x pc = written_count x rd _
row_count (Branch condition rs1 rs2 offset) x pc = refl
row_count (Load kind rd rs1 offset) x pc = refl
row_count (Store kind rs2 rs1 offset) x pc = refl
row_count (OpImmediate operation rd rs1 immediate) x pc = written_count x rd _
row_count (ShiftImmediate operation rd rs1 count) x pc = written_count x rd _
row_count (ShiftImmediateWord operation rd rs1 count) x pc = written_count x rd _
row_count (Op operation rd rs1 rs2) x pc = written_count x rd _
row_count (CboClean rs1) x pc = refl
row_count Fence x pc = refl
row_count Ecall x pc = refl

pub after_count : (code : List Instr) (x : List ℕ) (pc : ℕ) → length (registers_after code x pc) ≡ length x
after_count [] x pc = refl
after_count (i ∷ is) x pc = after_count is (left_by x (row i x pc)) (pc + 4) ∙ row_count i x pc

-- ---- What a boundary does goes to memory

pub memory_both : (es fs : List Effect) → AreMemory es → AreMemory fs → AreMemory (es ++ fs)
memory_both [] fs h k = k
memory_both (e ∷ es) fs h k = (h.0, memory_both es fs h.1 k)

pub stores_memory : (f : ℕ → ℕ) (g : ℕ → ℕ) (rs : List ℕ) → AreMemory (map (λ r. Stores (f r) 8 (g r)) rs)
stores_memory f g [] = tt
stores_memory f g (r ∷ rs) = (refl, stores_memory f g rs)

pub cleans_memory : (f : ℕ → ℕ) (lines : List ℕ) → AreMemory (map (λ line. Cleans (f line)) lines)
cleans_memory f [] = tt
cleans_memory f (line ∷ lines) = (refl, cleans_memory f lines)

pub locks_memory : (f : ℕ → ℕ) (kept : List (ℕ × ℕ)) → AreMemory (map (λ (k : ℕ × ℕ). Stores (f k.0) 8 k.1) kept)
locks_memory f [] = tt
locks_memory f (k ∷ kept) = (refl, locks_memory f kept)

pub commit_memory : (log : Log) (thread point : ℕ) → AreMemory (commit_effects log thread point)
commit_memory log thread point = (refl, (refl, (refl, (refl, tt))))

bank_memory : (b : Boundary) (bank : ℕ) (x : List ℕ) → AreMemory (bank_effects b bank x)
bank_memory b bank x =
    let lines = lines_in_use b.log (slots_kept b.log b.locks b.written b.live) in
    let kept = map (λ (k : ℕ × ℕ). Stores (slot_at b.log b.thread bank k.0) 8 k.1) (pairs_kept b.log b.locks b.written) in
    let stored = map (λ r. Stores (slot_at b.log b.thread bank (register_slot b.log r)) 8 (read x r)) b.live in
    let cleaned = map (λ line. Cleans (slot_at b.log b.thread bank (8 * line))) lines in
    let framed = map (λ line. Cleans (frame_at b.log b.thread (8 * line))) (frame_lines b.log b.opens) in
    memory_both (kept ++ stored ++ cleaned) framed
    (memory_both (kept ++ stored) cleaned
    (memory_both kept stored (locks_memory (slot_at b.log b.thread bank) (pairs_kept b.log b.locks b.written))
    (stores_memory (λ r. slot_at b.log b.thread bank (register_slot b.log r)) (λ r. read x r) b.live))
    (cleans_memory (λ line. slot_at b.log b.thread bank (8 * line)) lines))
    (cleans_memory (λ line. frame_at b.log b.thread (8 * line)) (frame_lines b.log b.opens))

pub boundary_memory : (b : Boundary) (side resume : ℕ) (x : List ℕ) → AreMemory (boundary_effects b side resume x)
boundary_memory b side resume x = by (is_empty b.locks)
  where
    by : (m : Bool) → AreMemory (if m then commit_effects b.log b.thread 0 else bank_effects b (1 - side) x ++ commit_effects b.log b.thread
        ((resume + (1 - side)) % 2 ^ 64))
    by true = commit_memory b.log b.thread 0
    by false = memory_both (bank_effects b (1 - side) x) (commit_effects b.log b.thread ((resume + (1 - side)) % 2 ^ 64)) (bank_memory b (1 - side) x)
        (commit_memory b.log b.thread ((resume + (1 - side)) % 2 ^ 64))

-- ---- Code of a boundary

some_straight : (b : Boundary) (x : List ℕ) (side : ℕ) → IsOnSide b.log side x → IsStraightCodeOf b [] → ⊥
some_straight b x side a h = by (is_empty b.locks) (h.effects_are.does x 0 side a)
  where
    by : (m : Bool) → [] ≡ (if m then commit_effects b.log b.thread 0 else bank_effects b (1 - side) x ++ commit_effects b.log b.thread
        ((resume_address b [] 0 + (1 - side)) % 2 ^ 64)) → ⊥
    by true e = cc e
    by false e =
        let all = length-append (bank_effects b (1 - side) x) (commit_effects b.log b.thread ((resume_address b [] 0 + (1 - side)) % 2 ^ 64)) in
        absurd (omega (arith, ap (λ (es : List Effect). length es) e, all))

pub left_is : (b : Boundary) (code : List Instr) (x : List ℕ) (pc side : ℕ) → IsStraightCodeOf b code → IsOnSide b.log side x →
    LeavesRegisters b side x (registers_after code x pc)
left_is b code x pc side h a = record {
  at_side = record {
    count = after_count code x pc ∙ a.count;
    zero_is = h.keeps.keeps x pc side a 0 refl (λ e. let z : ⊥ = omega (arith, e) in z) ∙ a.zero_is;
    offset = h.offset.leaves x pc side a;
    exists = by (is_empty b.locks) a.exists;
  };
  others = h.keeps.keeps x pc side a;
}
  where
    by : (m : Bool) → side < 2 → (if m then side else 1 - side) < 2
    by true l = l
    by false l = omega arith

module _ (all : List CodeItem) (n : Linking all) where
  abbrev at : ℕ → ℕ
  at = n.linked.address_of

  -- a boundary's code that is straight, after the mark that waits for it
  pub boundary_leg : (k : ℕ) (b : Boundary) (code : List Instr) (p : IsPart all k (plain code)) (x : List ℕ) (side resume : ℕ) (w : Bool) →
      mark_waits false p.before ≡ w →
      IsStraightCodeOf b code → IsOnSide b.log side x → resume_address b code (at k) ≡ resume →
      GoesThrough n.environment (fragment x (at k) (at (k + length (plain code))) (length code)) (waiting w ++ boundary_observations b side resume x)
      (LeavesRegisters b side x)
  boundary_leg k b [] p x side resume w waits h a e = absurd (some_straight b x side a h)
  boundary_leg k b (i ∷ is) p x side resume w waits h a e =
      let y : List ℕ = registers_after (i ∷ is) x (at k) in
      let run : s.RunsFrom (i ∷ is) x (at k) (boundary_effects b side resume x) y = record {
        sees = h.effects_are.does x (at k) side a ∙ ap (λ (m : ℕ). boundary_effects b side m x) e;
        leaves = refl;
      } in
      weaker n.environment (fragment x (at k) (at (k + length (plain (i ∷ is)))) (length (i ∷ is)))
      (waiting w ++ boundary_observations b side resume x) (λ z. z ≡ y)
      (LeavesRegisters b side x)
      (λ z f. subst (λ (v : List ℕ). LeavesRegisters b side x v) (sym f) (left_is b (i ∷ is) x (at k) side h a))
      (straight_leg all n k i is p x y (boundary_effects b side resume x) w waits run (boundary_memory b side resume x))

  pub resumed_at : (k : ℕ) (b : Boundary) (t : ℕ) (code : List Instr) (p : IsPart all k (plain code)) → b.resume ≡ pos t →
      at (k + length (plain code)) + t < 2 ^ 64 →
      resume_address b code (at k) ≡ at (k + length (plain code)) + t
  resumed_at k b t code p e l =
      let same : at k + 4 * length code ≡ at (k + length (plain code)) = sym (code_end all n k code p) ∙ end_is all n k code in
      ap (λ (z : ℤ). (at k + 4 * length code + twos_complement 64 z) % 2 ^ 64) e ∙ ap (λ (m : ℕ). (m + t) % 2 ^ 64) same ∙ mod-eq_of_lt l

  -- the mark to resume at takes no room
  pub resume_stays : (k : ℕ) (code : List Instr) (p : IsPart all k (boundary_items code)) → at (k + length (boundary_items code)) ≡ at (k + length (plain code))
  resume_stays k code p =
      let q : IsPart all (k + length (plain code)) (ResumeNext ∷ []) = part_right all k (plain code) (ResumeNext ∷ []) p in
      let e : k + length (boundary_items code) ≡ k + length (plain code) + 1 = omega (arith, length-append (plain code) (ResumeNext ∷ [])) in
      ap at e ∙ stays_at all n (k + length (plain code)) ResumeNext [] q refl

  pub boundary_marks : (k : ℕ) (code : List Instr) → positions_from k is_mark (boundary_items code) ≡ []
  boundary_marks k code = positions_append k is_mark (plain code) (ResumeNext ∷ []) ∙ ap (λ (ns : List ℕ). ns ++ []) (no_marks_in code k)

  pub boundary_resumes : (k : ℕ) (code : List Instr) → positions_from k is_resume (boundary_items code) ≡ (k + length (plain code)) ∷ []
  boundary_resumes k code = positions_append k is_resume (plain code) (ResumeNext ∷ []) ∙
      ap (λ (ns : List ℕ). ns ++ ((k + length (plain code)) ∷ [])) (no_resumes_in code k)

pub boundary_words : (code : List Instr) → sum_by most_words_of (boundary_items code) ≡ length code
boundary_words code = sum_by-append most_words_of (plain code) (ResumeNext ∷ []) ∙
    (let e : sum_by most_words_of (plain code) ≡ length code = words_of_plain code in omega (arith, e))

pub boundary_exact : (code : List Instr) → AreExact (boundary_items code)
boundary_exact code = exact_append (plain code) (ResumeNext ∷ []) (exact_plain code) (refl, tt)

pub boundary_waits_on : (code : List Instr) → mark_waits false (boundary_items code) ≡ false
boundary_waits_on code = waits_append false (plain code) (ResumeNext ∷ []) ∙ waits_plain_on code

pub boundary_labels : (label : ℕ) (code : List Instr) → list_any (stands_here label) (boundary_items code) ≡ false
boundary_labels label code = labels_append label (plain code) (ResumeNext ∷ []) (labels_plain label code) refl
