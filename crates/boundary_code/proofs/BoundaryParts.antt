-- The code of a boundary does what it does: the two parts of one that keeps locks, and a section's last one.
use Rattle.std.proofs.Common.{◌≡◌, ℕ, ◌+◌, ◌-◌, ◌*◌, ◌%◌, ◌^◌, ◌<◌, ◌≤◌, List, [], ◌∷◌, ◌++◌, length, map, ap, sym, ◌∙◌, subst, arith}
use Rattle.std.proofs.Common.{append_assoc, length-append, refl, Bool, true, false}
use Rattle.std.specs.Prelude.{pos, negsuc, ◌≤ℤ◌, Some}
use Rattle.std.specs.List.{list_all}
use Rattle.ido_base.specs.declared.limits.TheConstants.{MOST_THREADS}
use Rattle.log_schemes.specs.Layout.{bank_bytes, frame_at, log_of, point_at, slot_at}
use Rattle.log_schemes.specs.declared.log.Log.{Log}
use Rattle.rv64_isa.specs.declared.instr.Instr.{Instr}
use Rattle.rv64_isa.specs.declared.instr.Instr.TheVariants.{Fence, Store, OpImmediate, Op}
use Rattle.rv64_isa.specs.declared.instr.Operation.TheVariants.{Add}
use Rattle.rv64_isa.specs.declared.instr.ImmediateOperation.TheVariants.{Xori}
use Rattle.rv64_isa.specs.declared.instr.StoreKind.TheVariants.{Sd}
use Rattle.log_schemes.specs.Schemes.{keeping_of, may_keep, register_slot, told}
use Rattle.rv64_isa.specs.Rows.{Effect, Stores, Cleans, Fences, read}
use Rattle.rv64_isa.specs.Signed.{twos_complement}
use Rattle.operator_code.specs.StraightLineCode.{IsConstant}
use Rattle.operator_code.proofs.Public.{RunsFrom, along}
use Rattle.boundary_code.specs.Boundaries.{Boundary, IsUnderWay, clean_frame, clean_lines, commit, first_kept, frame_lines, is_empty, keep_locks, keep_slots}
use Rattle.boundary_code.specs.Boundaries.{keep_told}
use Rattle.boundary_code.specs.Boundaries.{lines_in_use, point, slots_kept}
use Rattle.boundary_code.specs.links.BoundaryParts.{closing_effects, CodeDoesBoundary, Closes, DoesBoundary, IsStraightCodeOf, Opens, in_parts, resume_address, undivided}
use Rattle.boundary_code.specs.links.InstructionLists.{Beside, bank_list, beside_of, closing_list, opening_list}
use Rattle.boundary_code.proofs.Banks.{opened, kept_registers, slots_run, cleans_run, are_frame_lines, are_lines, are_told, frame_run, told_run}
use Rattle.boundary_code.proofs.Points.{Left, close, committed}
use Rattle.boundary_code.proofs.LastBoundaries.{last_does}
use Rattle.boundary_code.proofs.MadeBoundaries.{with_none, with_some}

-- ---- The list of instructions

-- seven parts after what comes first
grouped : (a o t k c g f m : List Instr) → ((((((a ++ o) ++ t) ++ k) ++ c) ++ g) ++ f) ++ m ≡ a ++ (o ++ ((((t ++ k) ++ c) ++ g) ++ (f ++ m)))
grouped a o t k c g f m =
    append_assoc (((((a ++ o) ++ t) ++ k) ++ c) ++ g) f m
    ∙ (ap (λ (is : List Instr). is ++ (f ++ m)) (beside (a ++ o) t k c g) ∙ (append_assoc (a ++ o) (((t ++ k) ++ c) ++ g) (f ++ m)
    ∙ append_assoc a o ((((t ++ k) ++ c) ++ g) ++ (f ++ m))))
  where
    beside : (b t k c g : List Instr) → (((b ++ t) ++ k) ++ c) ++ g ≡ b ++ (((t ++ k) ++ c) ++ g)
    beside b t k c g =
        ap (λ (is : List Instr). (is ++ c) ++ g) (append_assoc b t k)
        ∙ (ap (λ (is : List Instr). is ++ g) (append_assoc b (t ++ k) c) ∙ append_assoc b ((t ++ k) ++ c) g)

split_list : (log : Log) (address first others : List Instr) (beside : Beside) (r : ℕ) →
    bank_list log address first others beside r ≡ opening_list log address first ++ (others ++ closing_list log beside r)
split_list log address first others beside r =
    let begins : List Instr = OpImmediate Xori 3 3 (bank_bytes log) ∷ address ++ Op Add 30 31 3 ∷ first in
    let kept : List Instr = keep_slots log beside.live in
    let cleaned : List Instr = clean_lines (lines_in_use log beside.slots) in
    let framed : List Instr = clean_frame beside.frame in
    let fenced : List Instr = Fence ∷ point log r in
    ap (λ (is : List Instr). (((((is ++ beside.telling) ++ kept) ++ cleaned) ++ framed) ++ fenced) ++ commit 30)
    (sym (append_assoc begins (Store Sd 7 30 64 ∷ []) others))
    ∙ grouped (opening_list log address first) others beside.telling kept cleaned framed fenced (commit 30)

-- ---- Before the locks

opening_opens : (log : Log) (thread count : ℕ) (address first : List Instr) → thread < MOST_THREADS → IsConstant 31 (log_of log thread) address →
    IsConstant 7 count first → Opens log thread count (opening_list log address first)
opening_opens log thread count address first small is_log is_first = record {
  does = λ x pc side at. (opened log thread count side address first x pc small at is_log is_first).runs.sees;
  leaves = λ x pc side at.
      let o = opened log thread count side address first x pc small at is_log is_first in
      subst (λ (y : List ℕ). IsUnderWay log thread (1 - side) x y) (sym o.runs.leaves) o.ready;
}

-- ---- After the locks

record Closed (b : Boundary) (code : List Instr) (bank : ℕ) (x y : List ℕ) (pc : ℕ) : Type 0 where
  end : List ℕ
  runs : RunsFrom code y pc (closing_effects b bank (resume_address b code pc) x) end
  left : Left b.log bank x end

closed : (b : Boundary) (bank : ℕ) (x y : List ℕ) (pc : ℕ) → b.thread < MOST_THREADS → list_all (may_keep b.log) b.live ≡ true →
    ((bytes : ℕ) → b.written ≡ Some bytes → bytes ≤ 8) →
    negsuc 262143 ≤ℤ b.resume → b.resume ≤ℤ pos 262144 → bank < 2 → IsUnderWay b.log b.thread bank x y →
    Closed b (closing_list b.log (beside_of b) (twos_complement 32 b.resume)) bank x y pc
closed b bank x y pc small live bytes low high below under =
    let slots : List ℕ = slots_kept b.log b.locks b.written b.live in
    let r : ℕ = twos_complement 32 b.resume in
    let t : ℕ = twos_complement 64 b.resume in
    let telling : List Instr = keep_told (told b.log b.written) in
    let kept : List Instr = keep_slots b.log b.live in
    let cleaned : List Instr = clean_lines (lines_in_use b.log slots) in
    let framed : List Instr = clean_frame (frame_lines b.log b.opens) in
    let prefix : List Instr = telling ++ kept ++ cleaned ++ framed in
    let code : List Instr = closing_list b.log (beside_of b) r in
    let tells : List Effect = map (λ (one : ℕ × ℕ). Stores (slot_at b.log b.thread bank one.0) 8 one.1) (told b.log b.written) in
    let stores : List Effect = map (λ q. Stores (slot_at b.log b.thread bank (register_slot b.log q)) 8 (read x q)) b.live in
    let cleans : List Effect = map (λ line. Cleans (slot_at b.log b.thread bank (8 * line))) (lines_in_use b.log slots) in
    let frames : List Effect = map (λ line. Cleans (frame_at b.log b.thread (8 * line))) (frame_lines b.log b.opens) in
    let none = told_run b.log b.thread bank x y (told b.log b.written) pc small below (are_told b.log b.written bytes) under in
    let first : RunsFrom kept none.left (pc + 4 * length telling) stores none.left =
    slots_run b.log b.thread bank x none.left b.live (pc + 4 * length telling) small below (kept_registers b.log b.live live) none.ready in
    let one : RunsFrom (telling ++ kept) y pc (tells ++ stores) none.left = along telling kept y none.left none.left pc tells stores none.runs first in
    let second = cleans_run b.log b.thread bank x none.left (lines_in_use b.log slots) (pc + 4 * length (telling ++ kept)) small below (are_lines b.log slots)
    none.ready in
    let two : RunsFrom (telling ++ kept ++ cleaned) y pc (tells ++ stores ++ cleans) second.left =
    along (telling ++ kept) cleaned y none.left second.left pc (tells ++ stores) cleans one second.runs in
    let third = frame_run b.log b.thread bank x second.left (frame_lines b.log b.opens) (pc + 4 * length (telling ++ kept ++ cleaned)) small
    (are_frame_lines b.log b.opens) second.ready in
    let both : RunsFrom prefix y pc (tells ++ stores ++ cleans ++ frames) third.left =
    along (telling ++ kept ++ cleaned) framed y second.left third.left pc (tells ++ stores ++ cleans) frames two third.runs in
    let middle : ℕ = pc + 4 * length prefix in
    let fourth = committed b.log b.thread bank r t x third.left middle small below (close b.resume low high) third.ready in
    let last : ℕ → List Effect =
    λ v. Fences ∷ Stores (point_at b.log b.thread) 8 ((v + bank) % 2 ^ 64) ∷ Cleans (point_at b.log b.thread) ∷ Fences ∷ [] in
    let all : RunsFrom code y pc ((tells ++ stores ++ cleans ++ frames) ++ last ((middle + 4 + (28 + t)) % 2 ^ 64)) fourth.end =
    along prefix (Fence ∷ point b.log r ++ commit 30) y third.left fourth.end pc (tells ++ stores ++ cleans ++ frames)
    (last ((middle + 4 + (28 + t)) % 2 ^ 64)) both fourth.runs in
    let words : length code ≡ length prefix + 8 = length-append prefix (Fence ∷ point b.log r ++ commit 30) in
    let end : middle + 4 + (28 + t) ≡ pc + 4 * length code + t = omega (arith, words) in
    record {
      end = fourth.end;
      runs = record {
        sees = all.sees ∙ ap (λ (n : ℕ). (tells ++ stores ++ cleans ++ frames) ++ last (n % 2 ^ 64)) end;
        leaves = all.leaves;
      };
      left = fourth.left;
    }

closing_closes : (b : Boundary) → b.thread < MOST_THREADS → list_all (may_keep b.log) b.live ≡ true → ((bytes : ℕ) → b.written ≡ Some bytes → bytes ≤ 8) →
    negsuc 262143 ≤ℤ b.resume → b.resume ≤ℤ pos 262144 → Closes b (closing_list b.log (beside_of b) (twos_complement 32 b.resume))
closing_closes b small live bytes low high = record {
  does = λ x y pc side under. (closed b (1 - side) x y pc small live bytes low high (omega arith) under).runs.sees;
  offset = λ x y pc side under.
      let c = closed b (1 - side) x y pc small live bytes low high (omega arith) under in
      ap (λ (z : List ℕ). read z 3) c.runs.leaves ∙ c.left.offset;
  others = λ x y pc side under r plain other.
      let c = closed b (1 - side) x y pc small live bytes low high (omega arith) under in
      ap (λ (z : List ℕ). read z r) c.runs.leaves ∙ c.left.others r plain other;
}

-- ---- Both

pub code_does : CodeDoesBoundary
code_does b codes code h = by (is_empty b.locks) refl
  where
    others : List Instr
    others = keep_locks b.log 0 codes

    by : (z : Bool) → is_empty b.locks ≡ z → DoesBoundary b codes code
    by true none =
        undivided (subst (λ (list : List Instr). IsStraightCodeOf b list) (sym (h.is ∙ with_none b h.address h.first codes none))
        (last_does b h.address h.thread_is none h.is_log))
    by false some =
        in_parts (record {
          thread_is = h.thread_is;
          some = some;
          many = h.many;
          few = h.few;
          opening = opening_list b.log h.address h.first;
          closing = closing_list b.log (beside_of b) (twos_complement 32 b.resume);
          split = h.is ∙ with_some b h.address h.first codes some ∙ split_list b.log h.address h.first others (beside_of b) (twos_complement 32 b.resume);
          opens = opening_opens b.log b.thread (first_kept (keeping_of b.log) b.locks) h.address h.first h.thread_is h.is_log (h.is_first some);
          closes = closing_closes b h.thread_is h.live_are h.bytes h.low h.high;
        })
