-- The locks of a boundary that have slots of their own: of each the code that leaves its number, and a store into its slot.
use Rattle.std.proofs.Common.{◌≡◌, ℕ, zero, suc, ◌+◌, ◌*◌, ◌^◌, ◌<◌, ◌≤◌, List, [], ◌∷◌, ◌++◌, length, refl, ap, sym, ◌∙◌, arith, subst, Bool, false}
use Rattle.std.proofs.lemmas.List.{length-append}
use Rattle.ido_base.specs.declared.limits.TheConstants.{MOST_THREADS}
use Rattle.log_schemes.specs.declared.log.Log.{Log}
use Rattle.log_schemes.specs.Layout.{slot_at}
use Rattle.rv64_isa.specs.declared.instr.Instr.{Instr}
use Rattle.rv64_isa.specs.declared.instr.Instr.TheVariants.{Store}
use Rattle.rv64_isa.specs.declared.instr.StoreKind.TheVariants.{Sd}
use Rattle.rv64_isa.specs.declared.object.CodeItem.{CodeItem}
use Rattle.rv64_isa.specs.declared.object.CodeItem.TheVariants.{Instruction}
use Rattle.rv64_isa.specs.Rows.{Stores, read}
use Rattle.boundary_code.specs.Boundaries.{IsUnderWay, keep_locks}
use Rattle.log_schemes.specs.Schemes.{listed_from, lock_slot}
use Rattle.boundary_code.proofs.Public.{number_stored, stores_of}
use Rattle.code_runs.specs.ComputingRuns as r
use Rattle.code_runs.specs.CodeTraces.{Observation, Does, GoesThrough, seen_effects}
use Rattle.node_code.specs.Numbers.{LeavesNumber, LeaveNumbers, NumberLeft}
use Rattle.node_code.specs.Sites.{Linking, IsPart, mark_waits}
use Rattle.node_code.specs.links.ItemLists.{plain}
use Rattle.node_code.proofs.ItemAddresses.{part_left, part_right, waits_left, waits_right, waits_plain_on, stand}
use Rattle.node_code.proofs.LinkedPartRuns.{has_room, code_end, computing_part}
use Rattle.node_code.proofs.LegComposition.{fragment, end_is, more_room, two_legs, moved, straight_leg_on}

-- ---- The items

abbrev pub kept : Log → (index : ℕ) → Instr
kept log index = Store Sd 5 30 (64 + 8 * lock_slot log index)

-- the instructions of the locks, lock by lock
abbrev pub lock_parts : Log → (index : ℕ) → (codes : List (List Instr)) → List CodeItem
lock_parts log index [] = []
lock_parts log index (code ∷ codes) = plain code ++ (Instruction (kept log index) ∷ lock_parts log (index + 1) codes)

pub plain_both : (xs ys : List Instr) → plain (xs ++ ys) ≡ plain xs ++ plain ys
plain_both [] ys = refl
plain_both (x ∷ xs) ys = ap (λ (is : List CodeItem). Instruction x ∷ is) (plain_both xs ys)

pub parts_are : (log : Log) (index : ℕ) (codes : List (List Instr)) → plain (keep_locks log index codes) ≡ lock_parts log index codes
parts_are log index [] = refl
parts_are log index (code ∷ codes) =
    plain_both code (kept log index ∷ keep_locks log (index + 1) codes)
    ∙ ap (λ (is : List CodeItem). plain code ++ (Instruction (kept log index) ∷ is)) (parts_are log (index + 1) codes)

module _ (all : List CodeItem) (n : Linking all) where
  abbrev at : ℕ → ℕ
  at = n.linked.address_of

  -- ---- A number

  -- code that is run to its end, and nothing is seen of it
  pub run_leg : (k : ℕ) (code : List Instr) (p : IsPart all k (plain code)) → mark_waits false p.before ≡ false → (y z : List ℕ)
      (run : r.RunsTo n.environment.around (r.config y (at k)) (r.config z (at k + 4 * length code))) → run.steps ≤ length code →
      GoesThrough n.environment (fragment y (at k) (at (k + length (plain code))) (length code)) [] (λ v. v ≡ z)
  run_leg k code p closed y z run short =
      moved n.environment y (at k) (at k) (at (k + length code)) (at (k + length (plain code))) (length code) [] (λ v. v ≡ z) refl
      (end_is all n k code) (by run.steps short run.leads)
    where
      by : (steps : ℕ) → steps ≤ length code → r.LeadsIn n.environment.around steps (r.config y (at k)) (r.config z (at k + 4 * length code)) →
          GoesThrough n.environment (fragment y (at k) (at (k + length code)) (length code)) [] (λ v. v ≡ z)
      by zero short leads = record {
        registers = z;
        steps = 0;
        walks = (leads ∙ ap (λ (a : ℕ). r.config z a) (sym (code_end all n k code p)), refl);
        short = short;
        are = refl;
      }
      by (suc steps) short leads = record {
        registers = z;
        steps = suc steps;
        walks = computing_part all n k code p y z steps false closed leads;
        short = short;
        are = refl;
      }

  -- where it stands, it leaves one
  left_there : (k : ℕ) (code : List Instr) (p : IsPart all k (plain code)) (log : Log) (thread bank : ℕ) (x y : List ℕ) (number : ℕ) →
      LeavesNumber n.environment.around log thread x number code → bank < 2 → IsUnderWay log thread bank x y →
      NumberLeft n.environment.around code log thread bank x y (at k) number
  left_there k code p log thread bank x y number one below under =
      let end : at (k + length code) ≡ at k + 4 * length code = code_end all n k code p in
      let same : at (k + length code) ≡ at (k + length (plain code)) = end_is all n k code in
      let room : at (k + length (plain code)) < 2 ^ 64 = has_room all n k (plain code) p in
      one.leaves bank y (at k) below under (stand all k code n p) (omega (arith, end, same, room))

  -- ---- All of them

  -- where the slots of so many locks are a bank's
  module _ (log : Log) (most : ℕ) (slots : (index : ℕ) → index < most → lock_slot log index < 48) (thread bank : ℕ) (x : List ℕ) (small : thread < MOST_THREADS)
      (below : bank < 2) where
    abbrev Under : List ℕ → Type 0
    Under y = IsUnderWay log thread bank x y

    -- the store of one
    stored_leg : (k index : ℕ) (p : IsPart all k (plain (kept log index ∷ []))) → mark_waits false p.before ≡ false → (y : List ℕ) (number : ℕ) → index < most →
        Under y → read y 5 ≡ number →
        GoesThrough n.environment (fragment y (at k) (at (k + 1)) 1) (Does (Stores (slot_at log thread bank (lock_slot log index)) 8 number) ∷ []) (λ z. z ≡ y)
    stored_leg k index p closed y number low under is =
        straight_leg_on all n k (kept log index ∷ []) p y y (Stores (slot_at log thread bank (lock_slot log index)) 8 number ∷ []) closed
        (number_stored log thread bank (lock_slot log index) x y number (at k) small below (slots index low) under is) (refl, tt)

    -- from registers within the boundary the slots get the numbers, in their order, and registers are within it still
    pub locks_leg : (index : ℕ) (numbers : List ℕ) (codes : List (List Instr)) → index + length numbers ≤ most →
        LeaveNumbers n.environment.around log thread x numbers codes →
        (k : ℕ) (p : IsPart all k (lock_parts log index codes)) → mark_waits false p.before ≡ false → (y : List ℕ) → Under y →
        GoesThrough n.environment (fragment y (at k) (at (k + length (lock_parts log index codes))) (length (keep_locks log index codes)))
        (seen_effects (stores_of log thread bank (listed_from log index numbers))) Under
    locks_leg index [] [] few leave k p closed y under =
        let same : k ≡ k + 0 = omega arith in
        record { registers = y; steps = 0; walks = (ap (λ (m : ℕ). r.config y (at m)) same, refl); short = omega arith; are = under }
    locks_leg index [] (code ∷ codes) few leave k p closed y under = absurd leave
    locks_leg index (number ∷ numbers) [] few leave k p closed y under = absurd leave
    locks_leg index (number ∷ numbers) (code ∷ codes) few leave k p closed y under =
        let rest : List CodeItem = lock_parts log (index + 1) codes in
        let words : ℕ = length (keep_locks log (index + 1) codes) in
        let store : List Observation = Does (Stores (slot_at log thread bank (lock_slot log index)) 8 number) ∷ [] in
        let more : List Observation = seen_effects (stores_of log thread bank (listed_from log (index + 1) numbers)) in
        let s = n.environment in
        let own = part_left all k (plain code) (Instruction (kept log index) ∷ rest) p in
        let own_closed = waits_left all k (plain code) (Instruction (kept log index) ∷ rest) p ∙ closed in
        let left = left_there k code own log thread bank x y number leave.0 below under in
        let z : List ℕ = left.registers in
        let k2 : ℕ = k + length (plain code) in
        let second = part_right all k (plain code) (Instruction (kept log index) ∷ rest) p in
        let second_closed = waits_right all k (plain code) (Instruction (kept log index) ∷ rest) p
        ∙ (ap (λ (w : Bool). mark_waits w (plain code)) closed ∙ waits_plain_on code) in
        let one = run_leg k code own own_closed y z left.run left.short in
        let two = stored_leg k2 index (part_left all k2 (plain (kept log index ∷ [])) rest second)
        (waits_left all k2 (plain (kept log index ∷ [])) rest second ∙ second_closed) z number (omega (arith, few)) left.under_way left.number_is in
        let three = locks_leg (index + 1) numbers codes (omega (arith, few)) leave.1 (k2 + 1) (part_right all k2 (plain (kept log index ∷ [])) rest second)
        (waits_right all k2 (plain (kept log index ∷ [])) rest second) z left.under_way in
        let both : GoesThrough s (fragment y (at k) (at (k2 + 1)) (length code + 1)) store (λ v. v ≡ z) =
        two_legs s y (at k) (at k2) (at (k2 + 1)) (length code) 1 [] store (λ v. v ≡ z) (λ v. v ≡ z) one
        (λ v e. subst (λ (w : List ℕ). GoesThrough s (fragment w (at k2) (at (k2 + 1)) 1) store (λ u. u ≡ z)) (sym e) two) in
        let whole : GoesThrough s (fragment y (at k) (at (k2 + 1 + length rest)) (length code + 1 + words)) (store ++ more) Under =
        two_legs s y (at k) (at (k2 + 1)) (at (k2 + 1 + length rest)) (length code + 1) words store more (λ v. v ≡ z) Under both
        (λ v e. subst (λ (w : List ℕ). GoesThrough s (fragment w (at (k2 + 1)) (at (k2 + 1 + length rest)) words) more Under) (sym e) three) in
        let end : k2 + 1 + length rest ≡ k + length (lock_parts log index (code ∷ codes)) =
        omega (arith, length-append (plain code) (Instruction (kept log index) ∷ rest)) in
        let few_words : length code + 1 + words ≤ length (keep_locks log index (code ∷ codes)) =
        omega (arith, length-append code (kept log index ∷ keep_locks log (index + 1) codes)) in
        let to : ℕ = at (k + length (lock_parts log index (code ∷ codes))) in
        more_room s y (at k) to (length code + 1 + words) (length (keep_locks log index (code ∷ codes))) (store ++ more) Under few_words
        (moved s y (at k) (at k) (at (k2 + 1 + length rest)) to (length code + 1 + words) (store ++ more) Under refl (ap at end) whole)
