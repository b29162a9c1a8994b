-- A boundary that keeps locks is a run: what stands before the locks that have slots of their own, these locks, and what stands after them.
use Rattle.std.proofs.Common.{◌≡◌, ◌≢◌, ℕ, ◌+◌, ◌*◌, ◌%◌, ◌^◌, ◌<◌, ◌≤◌, List, [], ◌∷◌, ◌++◌, length, map, refl, ap, sym, ◌∙◌, arith, subst}
use Rattle.std.proofs.Common.{append_assoc, Bool, false}
use Rattle.std.specs.Prelude.{if◌then◌else◌}
use Rattle.std.proofs.lemmas.List.{map-append, length-append}
use Rattle.log_schemes.specs.Layout.{bank_bytes, frame_at, slot_at}
use Rattle.log_schemes.specs.declared.keeping.Keeping.{Keeping}
use Rattle.log_schemes.specs.declared.keeping.Keeping.TheVariants.{Masked, Listed}
use Rattle.log_schemes.specs.declared.log.Log.{Log}
use Rattle.log_schemes.specs.Schemes.{keeping_of, listed_from, lock_slot, register_slot, told}
use Rattle.rv64_isa.specs.declared.instr.Instr.{Instr}
use Rattle.rv64_isa.specs.declared.object.CodeItem.{CodeItem}
use Rattle.rv64_isa.specs.declared.object.CodeItem.TheVariants.{Instruction}
use Rattle.rv64_isa.specs.Rows.{Effect, Stores, Cleans, read}
use Rattle.rv64_isa.specs.Signed.{twos_complement}
use Rattle.operator_code.specs.StraightLineCode.{effects, registers_after}
use Rattle.operator_code.proofs.Public as s
use Rattle.boundary_code.specs.Boundaries.{Boundary, IsOnSide, IsUnderWay, bank_effects, boundary_effects, commit_effects, first_kept, is_empty, keep_locks}
use Rattle.boundary_code.specs.Boundaries.{frame_lines, lines_in_use, listed_locks, other_side, pairs_kept, slots_kept}
use Rattle.boundary_code.specs.links.BoundaryParts.{Closes, IsInParts, Opens, closing_effects, resume_address}
use Rattle.boundary_code.proofs.Public.{kept_parts, lock_slots_few, stores_of}
use Rattle.code_runs.specs.CodeTraces.{AreMemory, Does, GoesThrough, Observation, seen_effects}
use Rattle.node_code.specs.Numbers.{LeaveNumbers}
use Rattle.node_code.specs.Pieces.{LeavesRegisters, boundary_observations}
use Rattle.node_code.specs.Sites.{Linking, IsPart, mark_waits}
use Rattle.node_code.specs.links.ItemLists.{plain}
use Rattle.node_code.proofs.ItemAddresses.{part_left, part_right, waits_append, waits_left, waits_right, waits_plain}
use Rattle.node_code.proofs.LinkedPartRuns.{waiting, code_end}
use Rattle.node_code.proofs.LegComposition.{fragment, end_is, weaker, more_room, two_legs, moved, straight_leg, straight_leg_on}
use Rattle.node_code.proofs.BoundaryPieces.{after_count, locks_memory, memory_both, stores_memory, cleans_memory, commit_memory}
use Rattle.node_code.proofs.ListLegs.{kept, lock_parts, parts_are, plain_both, locks_leg}

-- ---- Marks and lengths

parts_wait : (log : Log) (index : ℕ) (codes : List (List Instr)) → mark_waits false (lock_parts log index codes) ≡ false
parts_wait log index [] = refl
parts_wait log index (code ∷ codes) =
    waits_append false (plain code) (Instruction (kept log index) ∷ lock_parts log (index + 1) codes) ∙ parts_wait log (index + 1) codes

-- no mark waits after code
code_waits : (w : Bool) (code : List Instr) → code ≢ [] → mark_waits w (plain code) ≡ false
code_waits w [] some = absurd (some refl)
code_waits w (i ∷ is) some = waits_plain w i is

seen_both : (es fs : List Effect) → seen_effects (es ++ fs) ≡ seen_effects es ++ seen_effects fs
seen_both [] fs = refl
seen_both (e ∷ es) fs = ap (λ (os : List Observation). Does e ∷ os) (seen_both es fs)

opening_some : (log : Log) (thread value : ℕ) (code : List Instr) (x : List ℕ) (side : ℕ) → Opens log thread value code → IsOnSide log side x → code ≢ []
opening_some log thread value code x side opens on none =
    let no : effects [] x 0 ≡ Stores (slot_at log thread (other_side side) 0) 8 value ∷ [] =
    subst (λ (c : List Instr). effects c x 0 ≡ Stores (slot_at log thread (other_side side) 0) 8 value ∷ []) none (opens.does x 0 side on) in
    cc

-- ---- What it does

-- the slots of locks that are listed are a bank's
slots_few : (log : Log) (locks : List ℕ) (k : Keeping) → keeping_of log ≡ k → length (listed_locks k locks) ≤ 16 → (index : ℕ) →
    index < length (listed_locks k locks) → lock_slot log index < 48
slots_few log locks Masked is few index below = absurd (let z : ⊥ = omega (arith, below) in z)
slots_few log locks Listed is few index below = lock_slots_few log index is (omega (arith, few, below))

module _ (b : Boundary) (x : List ℕ) where
  abbrev log : Log
  log = b.log

  abbrev thread : ℕ
  thread = b.thread

  abbrev live : List ℕ
  live = b.live

  -- what slot 0 gets, and the locks that have slots of their own
  abbrev value : ℕ
  value = first_kept (keeping_of b.log) b.locks

  abbrev numbers : List ℕ
  numbers = listed_locks (keeping_of b.log) b.locks

  all_effects : (side to : ℕ) → is_empty b.locks ≡ false → boundary_effects b side to x ≡
      Stores (slot_at log thread (other_side side) 0) 8 value ∷
      (stores_of log thread (other_side side) (listed_from log 0 numbers) ++ closing_effects b (other_side side) to x)
  all_effects side to some =
      let other : ℕ = other_side side in
      let first : Effect = Stores (slot_at log thread other 0) 8 value in
      let listed : List Effect = stores_of log thread other (listed_from log 0 numbers) in
      let telling : List Effect = stores_of log thread other (told log b.written) in
      let stored : List Effect = map (λ r. Stores (slot_at log thread other (register_slot log r)) 8 (read x r)) live in
      let cleaned : List Effect = map (λ line. Cleans (slot_at log thread other (8 * line))) (lines_in_use log (slots_kept log b.locks b.written live)) in
      let framed : List Effect = map (λ line. Cleans (frame_at log thread (8 * line))) (frame_lines log b.opens) in
      let commit : List Effect = commit_effects log thread ((to + other) % 2 ^ 64) in
      ap (λ (z : Bool). if z then commit_effects log thread 0 else bank_effects b other x ++ commit) some
      ∙ regrouped first (stores_of log thread other (pairs_kept log b.locks b.written)) listed telling stored cleaned framed commit
      (ap (λ (ks : List (ℕ × ℕ)). stores_of log thread other (ks ++ told log b.written)) (kept_parts (keeping_of log) log b.locks)
      ∙ map-append (λ (k : ℕ × ℕ). Stores (slot_at log thread other k.0) 8 k.1) ((0, value) ∷ listed_from log 0 numbers) (told log b.written))
    where
      regrouped : (first : Effect) (all listed telling stored cleaned framed commit : List Effect) → all ≡ (first ∷ listed) ++ telling →
          all ++ stored ++ cleaned ++ framed ++ commit ≡ first ∷ (listed ++ (telling ++ stored ++ cleaned ++ framed ++ commit))
      regrouped first all listed telling stored cleaned framed commit e =
          ap (λ (es : List Effect). es ++ stored ++ cleaned ++ framed ++ commit) e
          ∙ (ap (λ (es : List Effect). es ++ cleaned ++ framed ++ commit) (append_assoc (first ∷ listed) telling stored)
          ∙ (ap (λ (es : List Effect). es ++ framed ++ commit) (append_assoc (first ∷ listed) (telling ++ stored) cleaned)
          ∙ (ap (λ (es : List Effect). es ++ commit) (append_assoc (first ∷ listed) (telling ++ stored ++ cleaned) framed)
          ∙ append_assoc (first ∷ listed) (telling ++ stored ++ cleaned ++ framed) commit)))

  closing_memory : (bank to : ℕ) → AreMemory (closing_effects b bank to x)
  closing_memory bank to =
      let lines : List ℕ = lines_in_use log (slots_kept log b.locks b.written live) in
      let at : ℕ → ℕ = slot_at log thread bank in
      let telling : List Effect = stores_of log thread bank (told log b.written) in
      let stored : List Effect = map (λ r. Stores (at (register_slot log r)) 8 (read x r)) live in
      let cleaned : List Effect = map (λ line. Cleans (at (8 * line))) lines in
      let framed : List Effect = map (λ line. Cleans (frame_at log thread (8 * line))) (frame_lines log b.opens) in
      let commit : List Effect = commit_effects log thread ((to + bank) % 2 ^ 64) in
      memory_both (telling ++ stored ++ cleaned ++ framed) commit
      (memory_both (telling ++ stored ++ cleaned) framed
      (memory_both (telling ++ stored) cleaned
      (memory_both telling stored (locks_memory at (told log b.written)) (stores_memory (λ r. at (register_slot log r)) (λ r. read x r) live))
      (cleans_memory (λ line. at (8 * line)) lines))
      (cleans_memory (λ line. frame_at log thread (8 * line)) (frame_lines log b.opens)))
      (commit_memory log thread ((to + bank) % 2 ^ 64))

  closing_left : (closing : List Instr) (y : List ℕ) (pc side : ℕ) → is_empty b.locks ≡ false → Closes b closing → IsOnSide log side x →
      IsUnderWay log thread (other_side side) x y → LeavesRegisters b side x (registers_after closing y pc)
  closing_left closing y pc side some closes on under = record {
    at_side = record {
      count = after_count closing y pc ∙ under.count;
      zero_is = closes.others x y pc side under 0 refl (λ e. let z : ⊥ = omega (arith, e) in z) ∙ on.zero_is;
      offset = closes.offset x y pc side under ∙ sym (ap (λ (z : Bool). bank_bytes log * (if z then side else other_side side)) some);
      exists = subst (λ (z : Bool). (if z then side else other_side side) < 2) (sym some) (omega arith);
    };
    others = closes.others x y pc side under;
  }

  -- ---- Its parts

  module _ (all : List CodeItem) (n : Linking all) where
    abbrev at : ℕ → ℕ
    at = n.linked.address_of

    abbrev Under : (side : ℕ) → List ℕ → Type 0
    Under side y = IsUnderWay log thread (other_side side) x y

    opening_leg : (k : ℕ) (code : List Instr) (p : IsPart all k (plain code)) (side : ℕ) (w : Bool) → mark_waits false p.before ≡ w →
        Opens log thread value code → IsOnSide log side x →
        GoesThrough n.environment (fragment x (at k) (at (k + length (plain code))) (length code))
        (waiting w ++ (Does (Stores (slot_at log thread (other_side side) 0) 8 value) ∷ [])) (Under side)
    opening_leg k [] p side w waits opens on = absurd (opening_some log thread value [] x side opens on refl)
    opening_leg k (i ∷ is) p side w waits opens on =
        let y : List ℕ = registers_after (i ∷ is) x (at k) in
        let es : List Effect = Stores (slot_at log thread (other_side side) 0) 8 value ∷ [] in
        let run : s.RunsFrom (i ∷ is) x (at k) es y = record { sees = opens.does x (at k) side on; leaves = refl } in
        weaker n.environment (fragment x (at k) (at (k + length (plain (i ∷ is)))) (length (i ∷ is))) (waiting w ++ seen_effects es) (λ z. z ≡ y) (Under side)
        (λ z f. subst (λ (v : List ℕ). IsUnderWay log thread (other_side side) x v) (sym f) (opens.leaves x (at k) side on))
        (straight_leg all n k i is p x y es w waits run (refl, tt))

    closing_leg : (k : ℕ) (code : List Instr) (p : IsPart all k (plain code)) → mark_waits false p.before ≡ false → (side to : ℕ) → is_empty b.locks ≡ false →
        Closes b code → IsOnSide log side x → resume_address b code (at k) ≡ to → (y : List ℕ) → Under side y →
        GoesThrough n.environment (fragment y (at k) (at (k + length (plain code))) (length code)) (seen_effects (closing_effects b (other_side side) to x))
        (LeavesRegisters b side x)
    closing_leg k code p closed side to some closes on e y under =
        let z : List ℕ = registers_after code y (at k) in
        let es : List Effect = closing_effects b (other_side side) to x in
        let run : s.RunsFrom code y (at k) es z = record {
          sees = closes.does x y (at k) side under ∙ ap (λ (m : ℕ). closing_effects b (other_side side) m x) e;
          leaves = refl;
        } in
        weaker n.environment (fragment y (at k) (at (k + length (plain code))) (length code)) (seen_effects es) (λ v. v ≡ z) (LeavesRegisters b side x)
        (λ v f. subst (λ (u : List ℕ). LeavesRegisters b side x u) (sym f) (closing_left code y (at k) side some closes on under))
        (straight_leg_on all n k code p y z es closed run (closing_memory (other_side side) to))

    -- a part by other items that are the same
    as_part : (k : ℕ) (is js : List CodeItem) → is ≡ js → IsPart all k is → IsPart all k js
    as_part k is js e p = record {
      before = p.before;
      after = p.after;
      split = p.split ∙ ap (λ (own : List CodeItem). p.before ++ (own ++ p.after)) e;
      at = p.at;
    }

    as_waits : (k : ℕ) (is js : List CodeItem) (e : is ≡ js) (p : IsPart all k is) → mark_waits false (as_part k is js e p).before ≡ mark_waits false p.before
    unfolding as_part
    as_waits k is js e p = refl

    -- ---- The whole

    module _ (codes : List (List Instr)) (code : List Instr) (list : IsInParts b codes code) (leave : LeaveNumbers n.environment.around log thread x numbers
        codes) where
      abbrev middle : List CodeItem
      middle = lock_parts log 0 codes

      abbrev parts : List CodeItem
      parts = plain list.opening ++ (middle ++ plain list.closing)

      items_are : plain code ≡ parts
      items_are =
          ap (λ (is : List Instr). plain is) list.split
          ∙ (plain_both list.opening (keep_locks log 0 codes ++ list.closing)
          ∙ ap (λ (is : List CodeItem). plain list.opening ++ is)
          (plain_both (keep_locks log 0 codes) list.closing ∙ ap (λ (is : List CodeItem). is ++ plain list.closing) (parts_are log 0 codes)))

      words_are : length list.opening + (length (keep_locks log 0 codes) + length list.closing) ≡ length code
      words_are = omega (
        arith,
        ap (λ (is : List Instr). length is) list.split,
        length-append list.opening (keep_locks log 0 codes ++ list.closing),
        length-append (keep_locks log 0 codes) list.closing,
      )

      -- from registers that are on a side the code of a boundary is run, after the mark that waits for it, where codes leave its locks' numbers
      pub parts_leg : (k : ℕ) (p : IsPart all k (plain code)) (side to : ℕ) (w : Bool) → mark_waits false p.before ≡ w → IsOnSide log side x →
          resume_address b code (at k) ≡ to →
          GoesThrough n.environment (fragment x (at k) (at (k + length (plain code))) (length code)) (waiting w ++ boundary_observations b side to x)
          (LeavesRegisters b side x)
      parts_leg k p side to w waits on e =
          let o : List Instr = list.opening in
          let c : List Instr = list.closing in
          let other : ℕ = other_side side in
          let env = n.environment in
          let first : List Observation = Does (Stores (slot_at log thread other 0) 8 value) ∷ [] in
          let few : length numbers ≤ 16 = omega (arith, list.many, list.few) in
          let listed : List Effect = stores_of log thread other (listed_from log 0 numbers) in
          let last : List Effect = closing_effects b other to x in
          let q : IsPart all k parts = as_part k (plain code) parts items_are p in
          let q_waits = as_waits k (plain code) parts items_are p ∙ waits in
          let k2 : ℕ = k + length (plain o) in
          let second : IsPart all k2 (middle ++ plain c) = part_right all k (plain o) (middle ++ plain c) q in
          let second_closed : mark_waits false second.before ≡ false =
          waits_right all k (plain o) (middle ++ plain c) q
          ∙ code_waits (mark_waits false q.before) o (opening_some log thread value o x side list.opens on) in
          let k3 : ℕ = k2 + length middle in
          let third : IsPart all k3 (plain c) = part_right all k2 middle (plain c) second in
          let third_closed : mark_waits false third.before ≡ false =
          waits_right all k2 middle (plain c) second ∙ (ap (λ (v : Bool). mark_waits v middle) second_closed ∙ parts_wait log 0 codes) in
          let count : k3 + length (plain c) ≡ k + length (plain code) = omega (
            arith,
            ap (λ (is : List CodeItem). length is) items_are,
            length-append (plain o) (middle ++ plain c),
            length-append middle (plain c),
          ) in
          let ends : at k3 + 4 * length c ≡ at k + 4 * length code =
          sym (code_end all n k3 c third) ∙ (end_is all n k3 c ∙ (ap at count ∙ (sym (end_is all n k code) ∙ code_end all n k code p))) in
          let resumed : resume_address b c (at k3) ≡ to = ap (λ (m : ℕ). (m + twos_complement 64 b.resume) % 2 ^ 64) ends ∙ e in
          let one = opening_leg k o (part_left all k (plain o) (middle ++ plain c) q) side w
          (waits_left all k (plain o) (middle ++ plain c) q ∙ q_waits) list.opens on in
          let words : ℕ = length (keep_locks log 0 codes) + length c in
          let later : (y : List ℕ) → Under side y →
          GoesThrough env (fragment y (at k2) (at (k3 + length (plain c))) words) (seen_effects listed ++ seen_effects last) (LeavesRegisters b side x) =
          λ y under.
          two_legs env y (at k2) (at k3) (at (k3 + length (plain c))) (length (keep_locks log 0 codes)) (length c) (seen_effects listed) (seen_effects last)
          (Under side) (LeavesRegisters b side x)
          (locks_leg all n log (length numbers) (slots_few log b.locks (keeping_of log) refl few) thread other x list.thread_is (omega arith) 0 numbers codes
          (omega arith) leave k2
          (part_left all k2 middle (plain c) second) (waits_left all k2 middle (plain c) second ∙ second_closed) y under)
          (λ z below. closing_leg k3 c third third_closed side to list.some list.closes on resumed z below) in
          let whole = two_legs env x (at k) (at k2) (at (k3 + length (plain c))) (length o) (length (keep_locks log 0 codes) + length c) (waiting w ++ first)
          (seen_effects listed ++ seen_effects last) (Under side) (LeavesRegisters b side x) one later in
          let seen : (waiting w ++ first) ++ (seen_effects listed ++ seen_effects last) ≡ waiting w ++ boundary_observations b side to x =
          append_assoc (waiting w) first (seen_effects listed ++ seen_effects last)
          ∙ ap (λ (os : List Observation). waiting w ++ os)
          (ap (λ (os : List Observation). first ++ os) (sym (seen_both listed last))
          ∙ ap (λ (es : List Effect). seen_effects es) (sym (all_effects side to list.some))) in
          subst (λ (os : List Observation). GoesThrough env (fragment x (at k) (at (k + length (plain code))) (length code)) os (LeavesRegisters b side x)) seen
          (more_room env x (at k) (at (k + length (plain code))) (length o + (length (keep_locks log 0 codes) + length c)) (length code)
          ((waiting w ++ first) ++ (seen_effects listed ++ seen_effects last)) (LeavesRegisters b side x) (omega (arith, words_are))
          (moved env x (at k) (at k) (at (k3 + length (plain c))) (at (k + length (plain code))) (length o + (length (keep_locks log 0 codes) + length c))
          ((waiting w ++ first) ++ (seen_effects listed ++ seen_effects last)) (LeavesRegisters b side x) refl (ap at count) whole))
