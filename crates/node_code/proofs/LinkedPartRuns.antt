-- Runs of parts of linked code.
use Rattle.std.proofs.Common.{◌≡◌, ℕ, zero, suc, ◌+◌, ◌-◌, ◌*◌, ◌/◌, ◌^◌, ◌<◌, ◌≤◌, List, [], ◌∷◌, ◌++◌, length, map, refl, ap, sym, ◌∙◌, arith, subst, Bool}
use Rattle.std.proofs.Common.{true, false, Some, ◌==◌, lit≤}
use Rattle.std.specs.List.{list_any}
use Rattle.std.specs.Prelude.{slice_get, if◌then◌else◌}
use Rattle.std.proofs.lemmas.List.{length-append}
use Rattle.rv64_isa.specs.declared.instr.Instr.{Instr}
use Rattle.rv64_isa.specs.declared.instr.Condition.{Condition}
use Rattle.rv64_isa.specs.declared.object.Label.{Label}
use Rattle.rv64_isa.specs.declared.object.CodeItem.{CodeItem}
use Rattle.rv64_isa.specs.declared.object.CodeItem.TheVariants.{Instruction, BranchTo, JumpTo}
use Rattle.rv64_isa.specs.Arithmetic.{is_taken}
use Rattle.rv64_isa.specs.Rows.{Effect, Continues, row, read}
use Rattle.rv64_link.specs.LabelledCode.{label_position, least_words_of, most_words_of, is_mark}
use Rattle.rv64_link.specs.LinkedCode as l
use Rattle.rv64_link.specs.LinkedCode.{HasEffect, in_one, in_two}
use Rattle.operator_code.specs.StraightLineCode.{effects, registers_after}
use Rattle.code_runs.specs.ComputingRuns as r
use Rattle.code_runs.specs.CodeTraces.{Observation, Mark, marked, AreUnmarked, AreMemory, Trace, GoesThrough, outside, passed, seen_effects}
use Rattle.code_runs.proofs.Public.{along, one, straight_from, silent_from}
use Rattle.node_code.specs.Sites.{mark_waits, Linking, IsPart}
use Rattle.node_code.proofs.ItemAddresses.{Lay, Lies, lay_of, goes_up, one_each, item_at, stand, HasNone, unmarked_within, marked_first}
use Rattle.node_code.proofs.ItemAddresses.{instructions_have_none, unmarked_words, length_map}

abbrev pub waiting : Bool → List Observation
waiting w = if w then Mark ∷ [] else []

module _ (all : List CodeItem) (n : Linking all) where
  abbrev at : ℕ → ℕ
  at = n.linked.address_of

  -- addresses of a part are below 2 ^ 64
  pub has_room : (k : ℕ) (part : List CodeItem) → IsPart all k part → at (k + length part) < 2 ^ 64
  has_room k part p =
      let lay : Lay at k p.before part p.after = lay_of all k part n p in
      let up : at (k + length part) ≤ at (k + length part + length p.after) = goes_up at (k + length part) p.after lay.last in
      let whole : length all ≡ k + length part + length p.after =
      ap (λ (is : List CodeItem). length is) p.split ∙
      (let e : k ≡ length p.before = p.at in omega (arith, e, length-append p.before (part ++ p.after), length-append part p.after)) in
      let last : at (k + length part + length p.after) ≡ n.program.start + 4 * length n.program.code = ap at (sym whole) ∙ n.linked.ends in
      let room : n.program.start + 4 * length n.program.code < 2 ^ 64 = n.room in
      omega arith

  pub up_to : (k : ℕ) (part : List CodeItem) → IsPart all k part → at k ≤ at (k + length part)
  up_to k part p = goes_up at k part (lay_of all k part n p).own

  -- an item that takes no room
  pub stays_at : (k : ℕ) (item : CodeItem) (rest : List CodeItem) → IsPart all k (item ∷ rest) → most_words_of item ≡ 0 → at (k + 1) ≡ at k
  stays_at k item rest p none =
      let own : Lies at k (item ∷ rest) = (lay_of all k (item ∷ rest) n p).own in
      let here : at (k + 1) ≡ at k + 4 * own.0.words = own.0.to_is in
      let most : own.0.words ≤ most_words_of item = own.0.most in
      omega (arith, none)

  -- ---- Straight code

  pub code_end : (k : ℕ) (code : List Instr) → IsPart all k (map Instruction code) → at (k + length code) ≡ at k + 4 * length code
  code_end k code p = one_each at k code (lay_of all k (map Instruction code) n p).own

  code_room : (k : ℕ) (code : List Instr) → IsPart all k (map Instruction code) → at k + 4 * length code < 2 ^ 64
  code_room k code p =
      let room : at (k + length (map Instruction code)) < 2 ^ 64 = has_room k (map Instruction code) p in
      let same : k + length (map Instruction code) ≡ k + length code = ap (λ (m : ℕ). k + m) (length_map all n code) in
      let here : at (k + length code) < 2 ^ 64 = subst (λ (m : ℕ). at m < 2 ^ 64) same room in
      let e : at (k + length code) ≡ at k + 4 * length code = code_end k code p in
      omega arith

  -- no mark stands within it
  pub unmarked_code : (k : ℕ) (code : List Instr) → IsPart all k (map Instruction code) → (pc : ℕ) → at k < pc → pc < at k + 4 * length code →
      marked n.environment.marks pc ≡ []
  unmarked_code k code p pc low high =
      let e : at (k + length code) ≡ at k + 4 * length code = code_end k code p in
      let same : k + length (map Instruction code) ≡ k + length code = ap (λ (m : ℕ). k + m) (length_map all n code) in
      let below : pc < at (k + length code) = omega arith in
      unmarked_within all n k (map Instruction code) p (instructions_have_none all n code) pc low (subst (λ (m : ℕ). pc < at m) (sym same) below)

  -- at its first instruction one is passed where one waits
  pub marked_code : (k : ℕ) (i : Instr) (is : List Instr) (p : IsPart all k (map Instruction (i ∷ is))) →
      marked n.environment.marks (at k) ≡ waiting (mark_waits false p.before)
  marked_code k i is p =
      let e : at (k + length (i ∷ is)) ≡ at k + 4 * length (i ∷ is) = code_end k (i ∷ is) p in
      let same : k + length (map Instruction (i ∷ is)) ≡ k + length (i ∷ is) = ap (λ (m : ℕ). k + m) (length_map all n (i ∷ is)) in
      let up : at k < at (k + length (i ∷ is)) = omega arith in
      marked_first all n k (map Instruction (i ∷ is)) p (instructions_have_none all n (i ∷ is)) (subst (λ (m : ℕ). at k < at m) (sym same) up)

  -- straight code is a run of its effects, after the mark that waits for its first instruction
  pub straight_part : (k : ℕ) (i : Instr) (is : List Instr) (p : IsPart all k (map Instruction (i ∷ is))) (x : List ℕ) (w : Bool) →
      mark_waits false p.before ≡ w →
      AreMemory (effects (i ∷ is) x (at k)) →
      Trace n.environment (length (i ∷ is)) (r.config x (at k)) (waiting w ++ seen_effects (effects (i ∷ is) x (at k)))
      (r.config (registers_after (i ∷ is) x (at k)) (at (k + length (i ∷ is))))
  straight_part k i is p x w waits memory =
      let e : at (k + length (i ∷ is)) ≡ at k + 4 * length (i ∷ is) = code_end k (i ∷ is) p in
      let free : AreUnmarked n.environment (at k + 4) (length is) =
      unmarked_words all n (at k + 4) (length is) (λ pc low high. unmarked_code k (i ∷ is) p pc (omega arith) (omega arith)) in
      let walk : Trace n.environment (length (i ∷ is)) (r.config x (at k)) (marked n.environment.marks (at k) ++ seen_effects (effects (i ∷ is) x (at k)))
      (r.config (registers_after (i ∷ is) x (at k)) (at k + 4 * length (i ∷ is))) =
      straight_from n.environment i is x (at k) (stand all k (i ∷ is) n p) (code_room k (i ∷ is) p) memory free in
      let first : marked n.environment.marks (at k) ≡ waiting w = marked_code k i is p ∙ ap (λ (b : Bool). waiting b) waits in
      subst (λ (m : ℕ). Trace n.environment (length (i ∷ is)) (r.config x (at k)) (waiting w ++ seen_effects (effects (i ∷ is) x (at k)))
      (r.config (registers_after (i ∷ is) x (at k)) m)) (sym e)
      (subst (λ (ss : List Observation). Trace n.environment (length (i ∷ is)) (r.config x (at k)) (ss ++ seen_effects (effects (i ∷ is) x (at k)))
      (r.config (registers_after (i ∷ is) x (at k)) (at k + 4 * length (i ∷ is)))) first walk)

  -- straight code for which no mark waits is a run of its effects
  pub straight_part_on : (k : ℕ) (code : List Instr) (p : IsPart all k (map Instruction code)) (x : List ℕ) → mark_waits false p.before ≡ false →
      AreMemory (effects code x (at k)) →
      Trace n.environment (length code) (r.config x (at k)) (seen_effects (effects code x (at k)))
      (r.config (registers_after code x (at k)) (at (k + length code)))
  straight_part_on k [] p x closed memory = (let e : at k ≡ at (k + 0) = let z : k ≡ k + 0 = omega arith in ap at z in ap (λ (m : ℕ). r.config x m) e, refl)
  straight_part_on k (i ∷ is) p x closed memory = straight_part k i is p x false closed memory

  -- ---- Code that computes

  -- a run of code that only computes, after the mark that waits for its first instruction
  pub computing_part : (k : ℕ) (code : List Instr) (p : IsPart all k (map Instruction code)) (x y : List ℕ) (steps : ℕ) (w : Bool) →
      mark_waits false p.before ≡ w →
      r.LeadsIn n.environment.around (suc steps) (r.config x (at k)) (r.config y (at k + 4 * length code)) →
      Trace n.environment (suc steps) (r.config x (at k)) (waiting w) (r.config y (at (k + length code)))
  computing_part k [] p x y steps w waits leads = absurd (no_fragment steps leads)
    where
      after_it : (steps : ℕ) (a b : r.LocalConfig) → r.LeadsIn n.environment.around steps a b → a.pc ≤ b.pc
      after_it zero a b h = let e : a.pc ≡ b.pc = ap (λ (m : r.LocalConfig). m.pc) h in omega arith
      after_it (suc steps) a b h = let f : a.pc < h.0.pc = h.1.forward in let later : h.0.pc ≤ b.pc = after_it steps h.0 b h.2 in omega arith

      no_fragment : (steps : ℕ) → r.LeadsIn n.environment.around (suc steps) (r.config x (at k)) (r.config y (at k + 4 * 0)) → ⊥
      no_fragment steps h = let f : at k < h.0.pc = h.1.forward in let later : h.0.pc ≤ at k + 4 * 0 = after_it steps h.0 (r.config y (at k + 4 * 0)) h.2 in
          omega arith
  computing_part k (i ∷ is) p x y steps w waits leads =
      let e : at (k + length (i ∷ is)) ≡ at k + 4 * length (i ∷ is) = code_end k (i ∷ is) p in
      let walk : Trace n.environment (suc steps) (r.config x (at k)) (marked n.environment.marks (at k)) (r.config y (at k + 4 * length (i ∷ is))) =
      silent_from n.environment steps (r.config x (at k)) (r.config y (at k + 4 * length (i ∷ is)))
      (λ pc low high. unmarked_code k (i ∷ is) p pc low high) leads in
      let first : marked n.environment.marks (at k) ≡ waiting w = marked_code k i is p ∙ ap (λ (b : Bool). waiting b) waits in
      subst (λ (m : ℕ). Trace n.environment (suc steps) (r.config x (at k)) (waiting w) (r.config y m)) (sym e)
      (subst (λ (ss : List Observation). Trace n.environment (suc steps) (r.config x (at k)) ss (r.config y (at k + 4 * length (i ∷ is)))) first walk)

  -- ---- Jumps

  has_none_one : (item : CodeItem) → is_mark item ≡ false → HasNone all n (item ∷ [])
  has_none_one item none k pc = ap (λ (b : Bool). list_any (λ m. m == pc) (map at (if b then k ∷ [] else []))) none

  none_after : (w : Bool) → waiting w ++ [] ≡ waiting w
  none_after true = refl
  none_after false = refl

  goes_in_one : (x : List ℕ) (pc to : ℕ) (instr : Instr) (w : Bool) → l.IsInstructionAt n.program.start n.program.code pc instr →
      row instr x pc ≡ Continues x to →
      marked n.environment.marks pc ≡ waiting w → Trace n.environment 1 (r.config x pc) (waiting w) (r.config x to)
  goes_in_one x pc to instr w stands e first = one n.environment (r.config x pc) (r.config x to) (waiting w) (record {
    instr = instr;
    stands = n.meets.fetches pc instr stands;
    does = ap (λ (f : Effect). passed n.environment.around (r.config x pc) f) e;
    sees = sym (ap (λ (ss : List Observation). ss ++ outside (row instr x pc)) first ∙ ap (λ (f : Effect). waiting w ++ outside f) e ∙ none_after w);
  })

  -- how many words the item at the position has
  abbrev pub words_at : (k : ℕ) → ℕ
  words_at k = (at (k + 1) - at k) / 4

  -- what an item's words do is a run to where they lead, after the mark that waits for the item
  pub jumping : (k : ℕ) (item : CodeItem) (p : IsPart all k (item ∷ [])) (x : List ℕ) (to : ℕ) (w : Bool) → mark_waits false p.before ≡ w →
      is_mark item ≡ false → 1 ≤ least_words_of item →
      HasEffect n.program.start n.program.code x (at k) (at (k + 1)) (Continues x to) →
      GoesThrough n.environment (record { registers = x; from = at k; to = to; most = words_at k }) (waiting w) (λ y. y ≡ x)
  jumping k item p x to w waits none some d = by d
    where
      own : Lies at k (item ∷ [])
      own = (lay_of all k (item ∷ []) n p).own

      here : at (k + 1) ≡ at k + 4 * own.0.words
      here = own.0.to_is

      least : 1 ≤ own.0.words
      least = let e : least_words_of item ≤ own.0.words = own.0.least in omega (arith, some)

      first : marked n.environment.marks (at k) ≡ waiting w
      first = marked_first all n k (item ∷ []) p (has_none_one item none) (omega (arith, here, least)) ∙ ap (λ (b : Bool). waiting b) waits

      by : HasEffect n.program.start n.program.code x (at k) (at (k + 1)) (Continues x to) →
          GoesThrough n.environment (record { registers = x; from = at k; to = to; most = words_at k }) (waiting w) (λ y. y ≡ x)
      by (in_one instr stands e) = record {
        registers = x;
        steps = 1;
        walks = goes_in_one x (at k) to instr w stands e first;
        short = omega (arith, here, least);
        are = refl;
      }
      by (in_two instr next two stands e stands_next f) =
          let second : marked n.environment.marks (at k + 4) ≡ [] =
          unmarked_within all n k (item ∷ []) p (has_none_one item none) (at k + 4) (omega arith) (omega (arith, two)) in
          record {
            registers = x;
            steps = 2;
            walks = subst (λ (ss : List Observation). Trace n.environment 2 (r.config x (at k)) ss (r.config x to)) (none_after w)
                (along n.environment 1 1 (r.config x (at k)) (r.config x (at k + 4)) (r.config x to) (waiting w) []
                (goes_in_one x (at k) (at k + 4) instr w stands e first) (goes_in_one x (at k + 4) to next false stands_next f second));
            short = omega (arith, two);
            are = refl;
          }

  item_here : (k : ℕ) (item : CodeItem) → IsPart all k (item ∷ []) → slice_get all k ≡ Some item
  item_here k item p = let z : k + 0 ≡ k = omega arith in ap (λ (m : ℕ). slice_get all m) (sym z) ∙ item_at all k (item ∷ []) p 0 item refl

  pub jump_part : (k : ℕ) (to : Label) (p : IsPart all k (JumpTo 0 to ∷ [])) (x : List ℕ) → mark_waits false p.before ≡ false →
      GoesThrough n.environment (record { registers = x; from = at k; to = at (label_position to.0 all); most = words_at k }) [] (λ y. y ≡ x)
  jump_part k to p x closed =
      jumping k (JumpTo 0 to) p x (at (label_position to.0 all)) false closed refl (lit≤ tt)
      (n.linked.lockstep k (JumpTo 0 to) x (Continues x (at (label_position to.0 all))) (item_here k (JumpTo 0 to) p) refl)

  pub branch_part : (k : ℕ) (c : Condition) (rs1 rs2 : ℕ) (to : Label) (p : IsPart all k (BranchTo c rs1 rs2 to ∷ [])) (x : List ℕ) (w : Bool) →
      mark_waits false p.before ≡ w →
      GoesThrough n.environment (record {
        registers = x;
        from = at k;
        to = (if is_taken c (read x rs1) (read x rs2) then at (label_position to.0 all) else at (k + 1));
        most = words_at k;
      }) (waiting w) (λ y. y ≡ x)
  branch_part k c rs1 rs2 to p x w waits =
      let item : CodeItem = BranchTo c rs1 rs2 to in
      let there : ℕ = if is_taken c (read x rs1) (read x rs2) then at (label_position to.0 all) else at (k + 1) in
      jumping k item p x there w waits refl (lit≤ tt) (n.linked.lockstep k item x (Continues x there) (item_here k item p) refl)

  -- an instruction stands
  pub stands_part : (k : ℕ) (instr : Instr) → IsPart all k (Instruction instr ∷ []) → l.IsInstructionAt n.program.start n.program.code (at k) instr
  stands_part k instr p =
      let z : k + 0 ≡ k = omega arith in
      n.linked.stands k instr (ap (λ (m : ℕ). slice_get all m) (sym z) ∙ item_at all k (Instruction instr ∷ []) p 0 (Instruction instr) refl)
