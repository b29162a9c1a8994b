-- Calls: a lock is taken, given back, a thread ends.
use Rattle.std.proofs.Common.{◌≡◌, ℕ, ◌+◌, ◌*◌, ◌%◌, ◌^◌, ◌<◌, List, [], ◌∷◌, ◌++◌, length, map, refl, ap, sym, ◌∙◌, arith, subst, Bool, true, false}
use Rattle.std.proofs.Common.{lit<, ◌≤◌, Some}
use Rattle.std.specs.Prelude.{sum_by, if◌then◌else◌, slice_set, pos}
use Rattle.std.specs.List.{list_any}
use Rattle.std.proofs.Math.Nat.{mod-eq_of_lt}
use Rattle.std.proofs.lemmas.List.{length-append, get_or-set_other}
use Rattle.std.proofs.lemmas.List.Sums.{sum_by-append}
use Rattle.log_schemes.specs.declared.log.Log.{Log}
use Rattle.rv64_isa.specs.declared.instr.Instr.{Instr}
use Rattle.rv64_isa.specs.declared.instr.Instr.TheVariants.{OpImmediate, Ecall}
use Rattle.rv64_isa.specs.declared.instr.ImmediateOperation.TheVariants.{Addi}
use Rattle.rv64_isa.specs.declared.object.CodeItem.{CodeItem}
use Rattle.rv64_isa.specs.declared.object.CodeItem.TheVariants.{Instruction, MarkNext, ResumeNext}
use Rattle.rv64_isa.specs.Arithmetic.{sign_extended}
use Rattle.rv64_isa.specs.Rows.{Effect, next, read, row}
use Rattle.rv64_link.specs.LabelledCode.{most_words_of, stands_here, is_mark, is_resume, positions_from}
use Rattle.rv64_link.specs.LinkedCode.{IsInstructionAt}
use Rattle.boundary_code.specs.Boundaries.{Boundary, IsOnSide, is_empty, side_after, words_beside}
use Rattle.boundary_code.specs.links.BoundaryParts.{resume_address}
use Rattle.operator_code.specs.StraightLineCode.{IsConstant}
use Rattle.operator_code.specs.ComputingCode.{AreRegisters}
use Rattle.operator_code.proofs.Public as s
use Rattle.operator_code.proofs.Public.{addi_row, small_immediate, read_other, read_same, length-changed}
use Rattle.code_runs.specs.ComputingRuns as r
use Rattle.code_runs.specs.ComputingRuns.{Environment}
use Rattle.code_runs.specs.CodeTraces as walks
use Rattle.code_runs.specs.CodeTraces.{Mark, Observation, GoesThrough}
use Rattle.node_code.specs.Sites.{Site, Linking, IsPart, mark_waits, begin_of, end_of}
use Rattle.node_code.specs.Pieces.{IsClosed, resumes_in, Asks, LeavesRegisters, boundary_observations}
use Rattle.node_code.specs.Pieces.{IsLockPiece, Locks, IsUnlockPiece, Unlocks, IsEnd, PieceLeads}
use Rattle.node_code.specs.Pieces.{takes, gives, giving_bytes, words_in}
use Rattle.node_code.specs.BoundaryCode.{IsQuiet}
use Rattle.node_code.specs.Numbers.{AsksNumber, IsSame, LeaveLocks, NumberAsked}
use Rattle.node_code.specs.links.BoundaryCode.{IsCodeOf, call_code}
use Rattle.node_code.specs.links.ItemLists.{plain, asking_items, boundary_items, lock_items, unlock_items, end_items}
use Rattle.node_code.proofs.Fences.{lock_items_fences, some_code, unlock_items_fences}
use Rattle.node_code.proofs.PieceCleans.{lock_cleans, unlock_cleans}
use Rattle.node_code.proofs.ItemAddresses.{part_left, part_right, waits_left, waits_right, waits_append, waits_plain, waits_plain_on, labels_append}
use Rattle.node_code.proofs.ItemAddresses.{labels_plain, stand}
use Rattle.node_code.proofs.ItemAddresses.{positions_append, no_marks_in, no_resumes_in}
use Rattle.node_code.proofs.Words.{AreExact, exact_plain, exact_append, exact_end, exact_words}
use Rattle.node_code.proofs.LinkedPartRuns.{waiting, marked_code, unmarked_code, stays_at, has_room, code_end, stands_part}
use Rattle.node_code.proofs.LegComposition.{fragment, end_is, weaker, more_room, two_legs, moved, straight_leg_on}
use Rattle.node_code.proofs.ListLegs.{run_leg}
use Rattle.node_code.proofs.NumberRuns.{lock_row}
use Rattle.node_code.proofs.LegComposition.{marked_leg, mark_part, mark_waits_there, words_of_plain}
use Rattle.node_code.proofs.BoundaryLegs.{code_leg, boundary_items_leg}
use Rattle.node_code.proofs.BoundaryPieces.{resumed_at, resume_stays, boundary_marks, boundary_resumes}
use Rattle.node_code.proofs.BoundaryPieces.{boundary_words, boundary_exact, boundary_waits_on, boundary_labels}

-- ---- Registers that ask

pub small_constant : (r n : ℕ) → 0 < r → n < 2048 → IsConstant r n (OpImmediate Addi r 0 n ∷ [])
small_constant r n some h =
    let e : sign_extended 12 64 n % 2 ^ 64 ≡ n = ap (λ (m : ℕ). m % 2 ^ 64) (small_immediate n h) ∙ mod-eq_of_lt (omega (arith, h)) in
    subst (λ (m : ℕ). IsConstant r m (OpImmediate Addi r 0 n ∷ [])) e (addi_row r n some)

-- after code that leaves the lock's number, x17 gets the call's
asks_for : (around : Environment) (code : List Instr) (y : List ℕ) (address number call : ℕ) → (asked : NumberAsked around code y address number) →
    Asks call number y (slice_set asked.registers 17 call)
asks_for around code y address number call asked =
    let z : List ℕ = asked.registers in
    record {
      are = record {
        count = length-changed z 17 call asked.are.count;
        zero_is = read_other z 17 0 call refl ∙ asked.are.zero_is;
      };
      call = read_same z 17 call asked.are.count (lit< tt);
      lock_is = read_other z 17 10 call refl ∙ asked.number_is;
      others = λ r plain not_lock not_call. get_or-set_other z 17 r call 0 not_call ∙ asked.others r plain not_lock;
    }

registers_at : (log : Log) (side : ℕ) (x : List ℕ) → IsOnSide log side x → AreRegisters x
registers_at log side x a = record { count = a.count; zero_is = a.zero_is }

-- a number that is a constant
pub call_asks : (around : r.Environment) (x : List ℕ) (number : ℕ) → number < 2048 → AsksNumber around x number (call_code number)
call_asks around x number small = record {
  asks = λ y address are same stands room.
      let i : Instr = OpImmediate Addi 10 0 number in
      let z : List ℕ = slice_set y 10 number in
      let low : address + 4 < 2 ^ 64 = omega (arith, room) in
      let on : next address ≡ address + 4 = mod-eq_of_lt low in
      let end : address + 4 ≡ address + 4 * length (call_code number) = omega arith in
      let does : r.after around (r.config y address) (row i y address) ≡ Some (r.config z (address + 4)) =
      ap (λ (f : Effect). r.after around (r.config y address) f) (lock_row y number address are.zero_is small)
      ∙ ap (λ (pc : ℕ). Some (r.config z pc)) on in
      record {
        registers = z;
        run = record {
          steps = 1;
          leads = (
            r.config z (address + 4),
            record { instr = i; stands = stands.0; does = does; forward = omega arith },
            ap (λ (pc : ℕ). r.config z pc) end,
          );
        };
        short = omega arith;
        are = record { count = length-changed y 10 number are.count; zero_is = read_other y 10 0 number refl ∙ are.zero_is };
        number_is = read_same y 10 number are.count (lit< tt);
        others = λ q plain other. get_or-set_other y 10 q number 0 other;
      };
}

pub call_quiet : (number : ℕ) → IsQuiet (call_code number)
call_quiet number = record { fences = refl; cleans = refl }

-- ---- The items that ask

asking_words : (numbering : List Instr) (call : ℕ) → sum_by most_words_of (asking_items numbering call) ≡ length numbering + 1
asking_words numbering call =
    let e : sum_by most_words_of (plain numbering) ≡ length numbering = words_of_plain numbering in
    let f : sum_by most_words_of (asking_items numbering call) ≡ sum_by most_words_of (plain numbering) + 1 =
    sum_by-append most_words_of (plain numbering) (Instruction (OpImmediate Addi 17 0 call) ∷ []) in
    omega (arith, e, f)

asking_exact : (numbering : List Instr) (call : ℕ) → AreExact (asking_items numbering call)
asking_exact numbering call = exact_append (plain numbering) (Instruction (OpImmediate Addi 17 0 call) ∷ []) (exact_plain numbering) (refl, tt)

asking_waits : (w : Bool) (numbering : List Instr) (call : ℕ) → mark_waits w (asking_items numbering call) ≡ false
asking_waits w numbering call = waits_append w (plain numbering) (Instruction (OpImmediate Addi 17 0 call) ∷ [])

asking_labels : (label : ℕ) (numbering : List Instr) (call : ℕ) → list_any (stands_here label) (asking_items numbering call) ≡ false
asking_labels label numbering call =
    labels_append label (plain numbering) (Instruction (OpImmediate Addi 17 0 call) ∷ []) (labels_plain label numbering) refl

asking_marks : (k : ℕ) (numbering : List Instr) (call : ℕ) → positions_from k is_mark (asking_items numbering call) ≡ []
asking_marks k numbering call =
    positions_append k is_mark (plain numbering) (Instruction (OpImmediate Addi 17 0 call) ∷ []) ∙
    ap (λ (ns : List ℕ). ns ++ []) (no_marks_in numbering k)

asking_resumes : (k : ℕ) (numbering : List Instr) (call : ℕ) → positions_from k is_resume (asking_items numbering call) ≡ []
asking_resumes k numbering call =
    positions_append k is_resume (plain numbering) (Instruction (OpImmediate Addi 17 0 call) ∷ []) ∙
    ap (λ (ns : List ℕ). ns ++ []) (no_resumes_in numbering k)

module _ (all : List CodeItem) (n : Linking all) where
  abbrev at : ℕ → ℕ
  at = n.linked.address_of

  asking_leg : (k : ℕ) (numbering : List Instr) (call number : ℕ) (p : IsPart all k (asking_items numbering call)) (x y : List ℕ) →
      mark_waits false p.before ≡ false → call < 2048 → AsksNumber n.environment.around x number numbering → AreRegisters y → IsSame x y →
      GoesThrough n.environment (fragment y (at k) (at (k + length (asking_items numbering call))) (length numbering + 1)) [] (Asks call number y)
  asking_leg k numbering call number p x y closed small asks are same =
      let env = n.environment in
      let i : Instr = OpImmediate Addi 17 0 call in
      let k2 : ℕ = k + length (plain numbering) in
      let own = part_left all k (plain numbering) (Instruction i ∷ []) p in
      let own_closed = waits_left all k (plain numbering) (Instruction i ∷ []) p ∙ closed in
      let second = part_right all k (plain numbering) (Instruction i ∷ []) p in
      let second_closed : mark_waits false second.before ≡ false =
      waits_right all k (plain numbering) (Instruction i ∷ []) p
      ∙ (ap (λ (w : Bool). mark_waits w (plain numbering)) closed ∙ waits_plain_on numbering) in
      let end : at (k + length numbering) ≡ at k + 4 * length numbering = code_end all n k numbering own in
      let end_same : at (k + length numbering) ≡ at k2 = end_is all n k numbering in
      let room : at k2 < 2 ^ 64 = has_room all n k (plain numbering) own in
      let asked = asks.asks y (at k) are same (stand all k numbering n own) (omega (arith, end, end_same, room)) in
      let z : List ℕ = asked.registers in
      let w : List ℕ = slice_set z 17 call in
      let one = run_leg all n k numbering own own_closed y z asked.run asked.short in
      let two : GoesThrough env (fragment z (at k2) (at (k2 + 1)) 1) [] (λ v. v ≡ w) =
      straight_leg_on all n k2 (i ∷ []) second z w [] second_closed
      (s.constant_runs 17 call (i ∷ []) z (at k2) (small_constant 17 call (lit< tt) small) asked.are.count asked.are.zero_is) tt in
      let whole : GoesThrough env (fragment y (at k) (at (k2 + 1)) (length numbering + 1)) [] (λ v. v ≡ w) =
      two_legs env y (at k) (at k2) (at (k2 + 1)) (length numbering) 1 [] [] (λ v. v ≡ z) (λ v. v ≡ w) one
      (λ v e. subst (λ (u : List ℕ). GoesThrough env (fragment u (at k2) (at (k2 + 1)) 1) [] (λ t. t ≡ w)) (sym e) two) in
      let count : k2 + 1 ≡ k + length (asking_items numbering call) = omega (arith, length-append (plain numbering) (Instruction i ∷ [])) in
      moved env y (at k) (at k) (at (k2 + 1)) (at (k + length (asking_items numbering call))) (length numbering + 1) [] (Asks call number y) refl (ap at count)
      (weaker env (fragment y (at k) (at (k2 + 1)) (length numbering + 1)) [] (λ v. v ≡ w) (Asks call number y)
      (λ v e. subst (λ (u : List ℕ). Asks call number y u) (sym e) (asks_for env.around numbering y (at k) number call asked)) whole)

  -- a call takes one word
  call_ends : (k : ℕ) (p : IsPart all k (Instruction Ecall ∷ [])) → at (k + 1) ≡ at k + 4
  call_ends k p = let e : at (k + 1) ≡ at k + 4 * 1 = code_end all n k (Ecall ∷ []) p in omega arith

-- ---- A lock is taken

module _ (b : Boundary) (codes : List (List Instr)) (numbering code : List Instr) (lock : ℕ) (some : 1 ≤ length numbering) (quiet : IsQuiet numbering)
    (resume : b.resume ≡ pos 0) (h : IsCodeOf b codes code) where
  abbrev piece : List CodeItem
  piece = lock_items numbering code

  abbrev first : List CodeItem
  first = asking_items numbering 1

  abbrev after_call : List CodeItem
  after_call = boundary_items code

  abbrev from_mark : List CodeItem
  from_mark = MarkNext ∷ Instruction Ecall ∷ after_call

  lock_words : sum_by most_words_of piece ≡ length numbering + 2 + length code
  lock_words =
      let e : sum_by most_words_of after_call ≡ length code = boundary_words code in
      let f : sum_by most_words_of piece ≡ sum_by most_words_of first + sum_by most_words_of from_mark = sum_by-append most_words_of first from_mark in
      let g = asking_words numbering 1 in
      let i : sum_by most_words_of from_mark ≡ 1 + sum_by most_words_of after_call =
      sum_by-append most_words_of (MarkNext ∷ Instruction Ecall ∷ []) after_call in
      omega (arith, e, f, g, i)

  module _ (site : Site piece) where
    words : words_in piece site ≡ length numbering + 2 + length code
    words = exact_words piece site (exact_append first from_mark (asking_exact numbering 1) (refl, (refl, boundary_exact code))) ∙ lock_words

    abbrev k : ℕ
    k = site.position

    abbrev to : ℕ → ℕ
    to m = site.linking.linked.address_of m

    -- where the call's mark stands
    abbrev k₁ : ℕ
    k₁ = k + length first

    marked : IsPart site.items k₁ from_mark
    marked = part_right site.items k first from_mark site.is_part

    called : IsPart site.items (k₁ + 1) (Instruction Ecall ∷ after_call)
    called = part_right site.items k₁ (MarkNext ∷ []) (Instruction Ecall ∷ after_call) marked

    kept : IsPart site.items (k₁ + 1 + 1) after_call
    kept = part_right site.items (k₁ + 1) (Instruction Ecall ∷ []) after_call called

    kept_closed : mark_waits false kept.before ≡ false
    unfolding kept
    kept_closed = waits_right site.items (k₁ + 1) (Instruction Ecall ∷ []) after_call called

    at_call : to (k₁ + 1) ≡ to k₁
    at_call = stays_at site.items site.linking k₁ MarkNext (Instruction Ecall ∷ after_call) marked refl

    boundary_after_is : to (k₁ + 1 + 1) ≡ to (k₁ + 1) + 4
    boundary_after_is = call_ends site.items site.linking (k₁ + 1) (part_left site.items (k₁ + 1) (Instruction Ecall ∷ []) after_call called)

    piece_end : to (k₁ + 1 + 1 + length after_call) ≡ end_of piece site
    piece_end = let e : k₁ + 1 + 1 + length after_call ≡ k + length piece = omega (arith, length-append first from_mark) in ap to e

    pub locks : Locks b (λ around x. AsksNumber around x lock numbering) (LeaveLocks b.log b.thread b.locks codes) lock piece site
    locks = record {
      call = to k₁;
      calling = omega (arith, words, some);
      asks = λ x asks are.
          more_room site.linking.environment x (to k) (to k₁) (length numbering + 1) (words_in piece site) [] (Asks takes lock x) (omega (arith, words))
          (asking_leg site.items site.linking k numbering 1 lock (part_left site.items k first from_mark site.is_part) x x
          (waits_left site.items k first from_mark site.is_part ∙ site.closed) (lit< tt) asks are (λ r plain other. refl));
      stands = subst (λ (a : ℕ). IsInstructionAt site.linking.program.start site.linking.program.code a Ecall) at_call
          (stands_part site.items site.linking (k₁ + 1) Ecall (part_left site.items (k₁ + 1) (Instruction Ecall ∷ []) after_call called));
      keeps = λ x side leave a.
          let leg : GoesThrough site.linking.environment (fragment x (to (k₁ + 1 + 1)) (to (k₁ + 1 + 1 + length after_call)) (length code))
          (boundary_observations b side (to (k₁ + 1 + 1 + length after_call)) x) (LeavesRegisters b side x) =
          boundary_items_leg site.items site.linking (k₁ + 1 + 1) b codes code kept x side kept_closed h resume leave a in
          let leg' : GoesThrough site.linking.environment (fragment x (to (k₁ + 1 + 1)) (end_of piece site) (length code))
          (boundary_observations b side (end_of piece site) x)
          (LeavesRegisters b side x) =
          subst (λ (m : ℕ). GoesThrough site.linking.environment (fragment x (to (k₁ + 1 + 1)) m (length code)) (boundary_observations b side m x)
          (LeavesRegisters b side x)) piece_end leg in
          let from : to (k₁ + 1 + 1) ≡ to k₁ + 4 = omega (arith, at_call, boundary_after_is) in
          more_room site.linking.environment x (to k₁ + 4) (end_of piece site) (length code) (words_in piece site)
          (boundary_observations b side (end_of piece site) x) (LeavesRegisters b side x) (omega (arith, words))
          (subst (λ (m : ℕ). GoesThrough site.linking.environment (fragment x m (end_of piece site) (length code))
          (boundary_observations b side (end_of piece site) x)
          (LeavesRegisters b side x)) from leg');
      marks =
          ap (λ (ns : List ℕ). map site.linking.linked.address_of ns)
          (positions_append k is_mark first from_mark
          ∙ (ap (λ (ns : List ℕ). ns ++ positions_from k₁ is_mark from_mark) (asking_marks k numbering 1)
          ∙ ap (λ (ns : List ℕ). k₁ ∷ ns) (boundary_marks site.items site.linking (k₁ + 1 + 1) code)));
      resumes =
          ap (λ (ns : List ℕ). map site.linking.linked.address_of ns)
          (positions_append k is_resume first from_mark
          ∙ (ap (λ (ns : List ℕ). ns ++ positions_from k₁ is_resume from_mark) (asking_resumes k numbering 1)
          ∙ boundary_resumes site.items site.linking (k₁ + 1 + 1) code))
          ∙ ap (λ (m : ℕ). m ∷ []) (sym (resume_stays site.items site.linking (k₁ + 1 + 1) code kept) ∙ piece_end);
    }

  pub is_lock : IsLockPiece b (λ around x. AsksNumber around x lock numbering) (LeaveLocks b.log b.thread b.locks codes) (words_beside b.log codes + length
      numbering) lock
      piece
  is_lock = record {
    closed = record {
      waits = waits_append false first from_mark ∙ boundary_waits_on code;
      labels = λ label. labels_append label first from_mark (asking_labels label numbering 1) (boundary_labels label code);
    };
    few = let l : length code ≤ length b.live + words_beside b.log codes = h.short in omega (arith, lock_words);
    fences = lock_items_fences b codes numbering code quiet h;
    cleans = lock_cleans b codes numbering code quiet h;
    at = locks;
  }

-- ---- A lock is given back

append_none : (ss : List Observation) → ss ++ [] ≡ ss
append_none [] = refl
append_none (x ∷ ss) = ap (λ (ts : List Observation). x ∷ ts) (append_none ss)

module _ (b : Boundary) (codes : List (List Instr)) (numbering code : List Instr) (lock : ℕ) (some : 1 ≤ length numbering) (quiet : IsQuiet numbering)
    (resume : b.resume ≡ pos (giving_bytes numbering)) (h : IsCodeOf b codes code) where
  abbrev given : List CodeItem
  given = unlock_items numbering (is_empty b.locks) code

  abbrev asked : List CodeItem
  asked = asking_items numbering 2

  abbrev last : List CodeItem
  last = if is_empty b.locks then [] else ResumeNext ∷ []

  abbrev from_call : List CodeItem
  from_call = Instruction Ecall ∷ last

  abbrev from_asking : List CodeItem
  from_asking = asked ++ from_call

  last_words : sum_by most_words_of last ≡ 0
  last_words = by (is_empty b.locks)
    where
      by : (m : Bool) → sum_by most_words_of (if m then [] else ResumeNext ∷ []) ≡ 0
      by true = refl
      by false = refl

  unlock_words : sum_by most_words_of given ≡ length code + (length numbering + 2)
  unlock_words =
      let e : sum_by most_words_of (plain code) ≡ length code = words_of_plain code in
      let f : sum_by most_words_of (MarkNext ∷ plain code) ≡ 0 + sum_by most_words_of (plain code) = sum_by-append most_words_of (MarkNext ∷ []) (plain code) in
      let g : sum_by most_words_of given ≡ sum_by most_words_of (MarkNext ∷ plain code) + sum_by most_words_of from_asking = sum_by-append most_words_of
      (MarkNext ∷ plain code) from_asking in
      let i : sum_by most_words_of from_asking ≡ sum_by most_words_of asked + sum_by most_words_of from_call = sum_by-append most_words_of asked from_call in
      let j = asking_words numbering 2 in
      let l : sum_by most_words_of from_call ≡ 1 + sum_by most_words_of last = sum_by-append most_words_of (Instruction Ecall ∷ []) last in
      omega (arith, e, f, g, i, j, l, last_words)

  last_exact : AreExact last
  last_exact = by (is_empty b.locks)
    where
      by : (m : Bool) → AreExact (if m then [] else ResumeNext ∷ [])
      by true = tt
      by false = (refl, tt)

  module _ (site : Site given) where
    given_words : words_in given site ≡ length code + (length numbering + 2)
    given_words =
        exact_words given site
        (exact_append (MarkNext ∷ plain code) from_asking (refl, exact_plain code)
        (exact_append asked from_call (asking_exact numbering 2) (refl, last_exact))) ∙
        unlock_words

    abbrev k' : ℕ
    k' = site.position

    abbrev too : ℕ → ℕ
    too m = site.linking.linked.address_of m

    abbrev k₂ : ℕ
    k₂ = k' + length (MarkNext ∷ plain code)

    -- where the call stands
    abbrev k₃ : ℕ
    k₃ = k₂ + length asked

    first_part : IsPart site.items k' (MarkNext ∷ plain code)
    first_part = part_left site.items k' (MarkNext ∷ plain code) from_asking site.is_part

    asking_part : IsPart site.items k₂ from_asking
    asking_part = part_right site.items k' (MarkNext ∷ plain code) from_asking site.is_part

    call_part : IsPart site.items k₃ from_call
    call_part = part_right site.items k₂ asked from_call asking_part

    last_part : IsPart site.items (k₃ + 1) last
    last_part = part_right site.items k₃ (Instruction Ecall ∷ []) last call_part

    call_next : too (k₃ + 1) ≡ too k₃ + 4
    call_next = call_ends site.items site.linking k₃ (part_left site.items k₃ (Instruction Ecall ∷ []) last call_part)

    last_stays : too (k₃ + 1 + length last) ≡ too (k₃ + 1)
    last_stays = by (is_empty b.locks) last_part
      where
        by : (m : Bool) → IsPart site.items (k₃ + 1) (if m then [] else ResumeNext ∷ []) →
            too (k₃ + 1 + length (if m then [] else ResumeNext ∷ [])) ≡ too (k₃ + 1)
        by true p = let e : k₃ + 1 + 0 ≡ k₃ + 1 = omega arith in ap too e
        by false p = stays_at site.items site.linking (k₃ + 1) ResumeNext [] p refl

    unlock_end : too (k₃ + 1 + length last) ≡ end_of given site
    unlock_end =
        let e : length given ≡ length (MarkNext ∷ plain code) + length from_asking = length-append (MarkNext ∷ plain code) from_asking in
        let f : length from_asking ≡ length asked + length from_call = length-append asked from_call in
        let g : k₃ + 1 + length last ≡ k' + length given = omega (arith, e, f) in
        ap too g

    after_call_is : end_of given site ≡ too k₃ + 4
    after_call_is = sym unlock_end ∙ last_stays ∙ call_next

    -- the instructions that ask take a word each
    asking_ends : too k₃ ≡ too k₂ + 4 * (length numbering + 1)
    asking_ends =
        let p : IsPart site.items k₂ asked = part_left site.items k₂ asked from_call asking_part in
        let words : sum_by most_words_of asked ≡ length numbering + 1 = asking_words numbering 2 in
        exact_end site.items site.linking k₂ asked p (asking_exact numbering 2) ∙ ap (λ (m : ℕ). too k₂ + 4 * m) words

    resumes_after : resume_address b code (too (k' + 1)) ≡ end_of given site
    resumes_after =
        let q : IsPart site.items (k' + 1) (plain code) = mark_part site.items site.linking k' (plain code) first_part in
        let e : k' + 1 + length (plain code) ≡ k₂ = omega arith in
        let f : too (k' + 1 + length (plain code)) ≡ too k₂ = ap too e in
        let room : end_of given site < 2 ^ 64 = has_room site.items site.linking k' given site.is_part in
        let fits : too (k' + 1 + length (plain code)) + giving_bytes numbering < 2 ^ 64 = omega (arith, f, after_call_is, asking_ends, room) in
        resumed_at site.items site.linking (k' + 1) b (giving_bytes numbering) code q resume fits ∙ omega (arith, f, after_call_is, asking_ends)

    marked_boundary : (x : List ℕ) (side : ℕ) → LeaveLocks b.log b.thread b.locks codes site.linking.environment.around x → IsOnSide b.log side x →
        GoesThrough site.linking.environment (fragment x (too k') (too k₂) (length code)) (Mark ∷ boundary_observations b side (end_of given site) x)
        (LeavesRegisters b side x)
    marked_boundary x side leave a =
        let q : IsPart site.items (k' + 1) (plain code) = mark_part site.items site.linking k' (plain code) first_part in
        let here : too (k' + 1) ≡ too k' = stays_at site.items site.linking k' MarkNext (plain code) first_part refl in
        let e : k' + 1 + length (plain code) ≡ k₂ = omega arith in
        moved site.linking.environment x (too (k' + 1)) (too k') (too (k' + 1 + length (plain code))) (too k₂) (length code)
        (Mark ∷ boundary_observations b side (end_of given site) x) (LeavesRegisters b side x)
        here (ap too e)
        (code_leg site.items site.linking (k' + 1) b codes code q x side (end_of given site) true
        (mark_waits_there site.items site.linking k' (plain code) first_part) h leave a resumes_after)

    -- a boundary has code, so no mark waits after it
    asking_closed : mark_waits false asking_part.before ≡ false
    unfolding asking_part
    asking_closed =
        waits_right site.items k' (MarkNext ∷ plain code) from_asking site.is_part ∙ ap (λ (w : Bool). mark_waits w (MarkNext ∷ plain code)) site.closed ∙
        by code h
      where
        by : (code : List Instr) → IsCodeOf b codes code → mark_waits true (plain code) ≡ false
        by [] h = absurd (some_code b codes h)
        by (i ∷ is) h = waits_plain true i is

    call_closed : mark_waits false call_part.before ≡ false
    unfolding call_part
    call_closed = waits_right site.items k₂ asked from_call asking_part ∙ asking_waits (mark_waits false asking_part.before) numbering 2

    gives_it : (x : List ℕ) (side : ℕ) → AsksNumber site.linking.environment.around x lock numbering →
        LeaveLocks b.log b.thread b.locks codes site.linking.environment.around x → IsOnSide b.log side x →
        PieceLeads site x (begin_of given site) (too k₃) (Mark ∷ boundary_observations b side (end_of given site) x)
        (λ y. (z : List ℕ) × LeavesRegisters b side x z × Asks gives lock z y)
    gives_it x side asks leave a =
        let P : List ℕ → Type 0 = λ y. (z : List ℕ) × LeavesRegisters b side x z × Asks gives lock z y in
        let own = part_left site.items k₂ asked from_call asking_part in
        let own_closed = waits_left site.items k₂ asked from_call asking_part ∙ asking_closed in
        let both : GoesThrough site.linking.environment (fragment x (too k') (too k₃) (length code + (length numbering + 1)))
        ((Mark ∷ boundary_observations b side (end_of given site) x) ++ []) P =
        two_legs site.linking.environment x (too k') (too k₂) (too k₃) (length code) (length numbering + 1)
        (Mark ∷ boundary_observations b side (end_of given site) x) [] (LeavesRegisters b side x) P (marked_boundary x side leave a)
        (λ z left. weaker site.linking.environment (fragment z (too k₂) (too k₃) (length numbering + 1)) [] (Asks gives lock z) P (λ y is. (z, left, is))
        (asking_leg site.items site.linking k₂ numbering 2 lock own x z own_closed (lit< tt) asks (registers_at b.log (side_after b side) z left.at_side)
        left.others)) in
        more_room site.linking.environment x (too k') (too k₃) (length code + (length numbering + 1)) (words_in given site)
        (Mark ∷ boundary_observations b side (end_of given site) x) P (omega (arith, given_words))
        (subst (λ (ss : List Observation).
        GoesThrough site.linking.environment (fragment x (too k') (too k₃) (length code + (length numbering + 1))) ss P)
        (append_none (Mark ∷ boundary_observations b side (end_of given site) x)) both)

    last_marks : (m : ℕ) → positions_from m is_mark last ≡ []
    last_marks m = by (is_empty b.locks)
      where
        by : (z : Bool) → positions_from m is_mark (if z then [] else ResumeNext ∷ []) ≡ []
        by true = refl
        by false = refl

    unlock_marks : positions_from k' is_mark given ≡ k' ∷ []
    unlock_marks =
        positions_append k' is_mark (MarkNext ∷ plain code) from_asking ∙
        ap (λ (ns : List ℕ). (k' ∷ ns) ++ positions_from k₂ is_mark from_asking) (no_marks_in code (k' + 1)) ∙
        ap (λ (ns : List ℕ). k' ∷ ns) (positions_append k₂ is_mark asked from_call
        ∙ (ap (λ (ns : List ℕ). ns ++ positions_from k₃ is_mark from_call) (asking_marks k₂ numbering 2) ∙ last_marks (k₃ + 1)))

    unlock_resumes : resumes_in given site ≡ (if is_empty b.locks then [] else end_of given site ∷ [])
    unlock_resumes =
        ap (λ (ns : List ℕ). map site.linking.linked.address_of ns) (positions_append k' is_resume (MarkNext ∷ plain code) from_asking
        ∙ (ap (λ (ns : List ℕ). ns ++ positions_from k₂ is_resume from_asking) (no_resumes_in code (k' + 1))
        ∙ (positions_append k₂ is_resume asked from_call
        ∙ ap (λ (ns : List ℕ). ns ++ positions_from k₃ is_resume from_call) (asking_resumes k₂ numbering 2)))) ∙ by (is_empty b.locks)
      where
        by : (z : Bool) → map site.linking.linked.address_of (positions_from (k₃ + 1) is_resume (if z then [] else ResumeNext ∷ [])) ≡
            (if z then [] else end_of given site ∷ [])
        by true = refl
        by false = ap (λ (m : ℕ). m ∷ []) (sym last_stays ∙ unlock_end)

    -- no mark waits for the call
    unlock_plain : walks.marked site.linking.program.nodes (too k₃) ≡ []
    unlock_plain =
        let q : IsPart site.items k₃ (Instruction Ecall ∷ []) = part_left site.items k₃ (Instruction Ecall ∷ []) last call_part in
        let closed : mark_waits false q.before ≡ false = waits_left site.items k₃ (Instruction Ecall ∷ []) last call_part ∙ call_closed in
        subst (λ (ms : List ℕ). walks.marked ms (too k₃) ≡ []) site.linking.meets.marks
        (marked_code site.items site.linking k₃ Ecall [] q ∙ ap (λ (w : Bool). waiting w) closed)

    pub unlocks : Unlocks b (λ around x. AsksNumber around x lock numbering) (LeaveLocks b.log b.thread b.locks codes) lock given site
    unlocks = record {
      call = too k₃;
      calling = omega (arith, given_words, some);
      asks = gives_it;
      stands = stands_part site.items site.linking k₃ Ecall (part_left site.items k₃ (Instruction Ecall ∷ []) last call_part);
      after = after_call_is;
      plain = unlock_plain;
      marks = ap (λ (ns : List ℕ). map site.linking.linked.address_of ns) unlock_marks;
      resumes = unlock_resumes;
    }

  unlock_closed : IsClosed given
  unlock_closed = record {
    waits = waits_append false (MarkNext ∷ plain code) from_asking
        ∙ (waits_append (mark_waits true (plain code)) asked from_call ∙ by (is_empty b.locks));
    labels = λ label. labels_append label (MarkNext ∷ plain code) from_asking (labels_plain label code)
        (labels_append label asked from_call (asking_labels label numbering 2) (labels_by label (is_empty b.locks)));
  }
    where
      by : (z : Bool) → mark_waits false (if z then [] else ResumeNext ∷ []) ≡ false
      by true = refl
      by false = refl

      labels_by : (label : ℕ) (z : Bool) → list_any (stands_here label) (Instruction Ecall ∷ (if z then [] else ResumeNext ∷ [])) ≡ false
      labels_by label true = refl
      labels_by label false = refl

  pub is_unlock : IsUnlockPiece b (λ around x. AsksNumber around x lock numbering) (LeaveLocks b.log b.thread b.locks codes) (words_beside b.log codes + length
      numbering)
      lock given
  is_unlock = record {
    closed = unlock_closed;
    few = let l : length code ≤ length b.live + words_beside b.log codes = h.short in omega (arith, unlock_words);
    fences = unlock_items_fences b (is_empty b.locks) codes numbering code quiet h;
    cleans = unlock_cleans b (is_empty b.locks) codes numbering code quiet h;
    at = unlocks;
  }

-- ---- A thread ends

end_plain : (site : Site end_items) → walks.marked site.linking.program.nodes (site.linking.linked.address_of (site.position + 2)) ≡ []
end_plain site =
    let code : List Instr = OpImmediate Addi 17 0 3 ∷ Ecall ∷ [] in
    let k : ℕ = site.position in
    let to : ℕ → ℕ = site.linking.linked.address_of in
    let q : IsPart site.items (k + 1) (plain code) = mark_part site.items site.linking k (plain code) site.is_part in
    let e : to (k + 1 + 1) ≡ to (k + 1) + 4 * 1 =
    code_end site.items site.linking (k + 1) (OpImmediate Addi 17 0 3 ∷ [])
    (part_left site.items (k + 1) (plain (OpImmediate Addi 17 0 3 ∷ [])) (Instruction Ecall ∷ []) q) in
    let same : k + 1 + 1 ≡ k + 2 = omega arith in
    let here : to (k + 2) ≡ to (k + 1) + 4 = ap to (sym same) ∙ e ∙ omega arith in
    subst (λ (ms : List ℕ). walks.marked ms (to (k + 2)) ≡ []) site.linking.meets.marks
    (unmarked_code site.items site.linking (k + 1) code q (to (k + 2)) (omega (arith, here)) (omega (arith, here)))

pub is_end : IsEnd end_items
is_end = record {
  closed = record { waits = refl; labels = λ label. refl };
  few = omega arith;
  fences = refl;
  cleans = refl;
  at = λ site.
      let code : List Instr = OpImmediate Addi 17 0 3 ∷ [] in
      let k : ℕ = site.position in
      let to : ℕ → ℕ = site.linking.linked.address_of in
      let q : IsPart site.items (k + 2) (Instruction Ecall ∷ []) = part_right site.items k (MarkNext ∷ plain code) (Instruction Ecall ∷ []) site.is_part in
      record {
        call = to (k + 2);
        asks = λ x are.
            more_room site.linking.environment x (to k) (to (k + 2)) 1 (words_in end_items site) (Mark ∷ []) (λ y. read y 17 ≡ 3)
            (let w : words_in end_items site ≡ 2 = exact_words end_items site (refl, (refl, (refl, tt))) in omega (arith, w))
            (weaker site.linking.environment (fragment x (to k) (to (k + 2)) 1) (Mark ∷ []) (λ z. z ≡ slice_set x 17 3) (λ y. read y 17 ≡ 3)
            (λ z e. ap (λ (v : List ℕ). read v 17) e ∙ read_same x 17 3 are.count (lit< tt))
            (marked_leg site.items site.linking k (OpImmediate Addi 17 0 3) [] (part_left site.items k (MarkNext ∷ plain code) (Instruction Ecall ∷ [])
            site.is_part) x (slice_set x 17 3) []
            (s.constant_runs 17 3 code x (to k) (small_constant 17 3 (lit< tt) (lit< tt)) are.count are.zero_is) tt));
        stands = stands_part site.items site.linking (k + 2) Ecall q;
        after =
            let e : to (k + 2 + 1) ≡ to (k + 2) + 4 = call_ends site.items site.linking (k + 2) q in
            let same : k + length end_items ≡ k + 2 + 1 = omega arith in
            ap to same ∙ e;
        plain = end_plain site;
        marks = refl;
        resumes = refl;
      };
}
