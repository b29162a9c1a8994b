-- The words of a thread's items do what the items do.
use Rattle.std.proofs.Common.{◌≡◌, ℕ, ◌+◌, ◌-◌, ◌*◌, ◌^◌, ◌<◌, ◌≤◌, List, length, map, Some, None}
use Rattle.std.proofs.Common.{Bool, true, false, refl, sym, ap, ap₂, subst, ◌∙◌, arith, lit≤}
use Rattle.std.specs.Prelude.{slice_get, sum_by, count_by, nat_le, not, ◌&&◌, if◌then◌else◌}
use Rattle.std.specs.List.{AllByRecursion}
use Rattle.ido_base.specs.declared.limits.TheConstants.{MOST_CODE_WORDS}
use Rattle.rv64_isa.specs.Arithmetic.{is_taken}
use Rattle.rv64_isa.specs.Programs.{code_base}
use Rattle.rv64_isa.specs.Rows.{Effect, Continues, row, read, written, next, displaced}
use Rattle.rv64_isa.specs.declared.instr.Condition.{Condition}
use Rattle.rv64_isa.specs.declared.instr.Condition.TheVariants.{Beq, Bne, Blt, Bge, Bltu, Bgeu}
use Rattle.rv64_isa.specs.declared.instr.Instr.{Instr}
use Rattle.rv64_isa.specs.declared.instr.Instr.TheVariants.{Jal, Branch}
use Rattle.rv64_isa.specs.declared.object.CodeItem.{CodeItem}
use Rattle.rv64_isa.specs.declared.object.CodeItem.TheVariants.{Instruction, BranchTo, JumpTo, Here, MarkNext, ResumeNext}
use Rattle.rv64_isa.specs.declared.object.Label.{Label}
use Rattle.rv64_isa.specs.declared.object.Slot.{Slot}
use Rattle.rv64_isa.specs.declared.object.Slot.TheVariants.{Row}
use Rattle.rv64_link.specs.LabelledCode.{does, label_position, least_words_of, most_words_of, positions_from, is_mark, is_resume, is_fence, fences_of}
use Rattle.rv64_link.specs.LinkedCode.{IsInstructionAt, HasEffect, in_one, in_two, IsRoom, IsLinked, IsInstruction, AreInstructions}
use Rattle.rv64_link.specs.links.Layout.{is_near, inverse, offset, size, numbers, number_at, slots_of, slots}
use Rattle.rv64_link.proofs.Instructions.{Within, slots_within, rows_of, fences_are_of}
use Rattle.rv64_link.proofs.Places.{within, size_small, size_is, number_first, number_next, number_last, number_steps, number_bounded, stands_at, label_within}

-- ---- Offsets

le_of : (a b : ℕ) → nat_le a b ≡ true → a ≤ b
le_of a b e = grind (arith, e)

lt_of : (a b : ℕ) → nat_le a b ≡ false → b < a
lt_of a b e = grind (arith, e)

pub next_of : (pc : ℕ) → pc < 2 ^ 32 → next pc ≡ pc + 4
next_of pc h = omega (arith, h)

branch_lands : (f t : ℕ) → f < 2 ^ 20 → t < 2 ^ 20 → t ≤ f + 1022 → f ≤ t + 1022 → displaced (code_base + 4 * f) 13 (offset 13 f t) ≡ code_base + 4 * t
branch_lands f t hf ht up down = by (nat_le (2 ^ 12) (offset 13 f t)) refl
  where
    by : (b : Bool) → nat_le (2 ^ 12) (offset 13 f t) ≡ b → displaced (code_base + 4 * f) 13 (offset 13 f t) ≡ code_base + 4 * t
    by true e = let high = le_of (2 ^ 12) (offset 13 f t) e in rw e (omega (arith, high, hf, ht, up, down))
    by false e = let low = lt_of (2 ^ 12) (offset 13 f t) e in rw e (omega (arith, low, hf, ht, up, down))

jump_lands : (f t : ℕ) → f < 2 ^ 20 → t < 2 ^ 20 → t ≤ f + 70000 → f ≤ t + 70000 → displaced (code_base + 4 * f) 21 (offset 21 f t) ≡ code_base + 4 * t
jump_lands f t hf ht up down = by (nat_le (2 ^ 20) (offset 21 f t)) refl
  where
    by : (b : Bool) → nat_le (2 ^ 20) (offset 21 f t) ≡ b → displaced (code_base + 4 * f) 21 (offset 21 f t) ≡ code_base + 4 * t
    by true e = let high = le_of (2 ^ 20) (offset 21 f t) e in rw e (omega (arith, high, hf, ht, up, down))
    by false e = let low = lt_of (2 ^ 20) (offset 21 f t) e in rw e (omega (arith, low, hf, ht, up, down))

over_jump : (f : ℕ) → f < 2 ^ 20 → displaced (code_base + 4 * f) 13 8 ≡ code_base + 4 * (f + 2)
over_jump f h = omega (arith, h)

-- ---- Branches

not_not : (b : Bool) → b ≡ not (not b)
not_not true = refl
not_not false = refl

inverse_taken : (c : Condition) (a b : ℕ) → is_taken (inverse c) a b ≡ not (is_taken c a b)
unfolding is_taken
inverse_taken Beq a b = refl
inverse_taken Bne a b = not_not _
inverse_taken Blt a b = refl
inverse_taken Bge a b = not_not _
inverse_taken Bltu a b = refl
inverse_taken Bgeu a b = not_not _

near_bounds : (p q : ℕ) → is_near p q ≡ true → (q ≤ p + 511) × (p ≤ q + 511)
near_bounds p q e = by (nat_le (q - p) 511) (nat_le (p - q) 511) refl refl e
  where
    by : (a b : Bool) → nat_le (q - p) 511 ≡ a → nat_le (p - q) 511 ≡ b → (a && b) ≡ true → (q ≤ p + 511) × (p ≤ q + 511)
    by true true h k both = let x = le_of (q - p) 511 h in let y = le_of (p - q) 511 k in (omega (arith, x), omega (arith, y))
    by true false h k both = absurd cc
    by false b h k both = absurd cc

row_of_jump : (rd imm : ℕ) (x : List ℕ) (pc : ℕ) → row (Jal rd imm) x pc ≡ Continues (written x rd (next pc)) (displaced pc 21 imm)
unfolding row
row_of_jump rd imm x pc = refl

row_of_branch : (c : Condition) (rs1 rs2 imm : ℕ) (x : List ℕ) (pc : ℕ) →
    row (Branch c rs1 rs2 imm) x pc ≡ Continues x (if is_taken c (read x rs1) (read x rs2) then displaced pc 13 imm else next pc)
unfolding row
row_of_branch c rs1 rs2 imm x pc = refl

module _ (all : List CodeItem) (first : ℕ) (few : sum_by most_words_of all ≤ MOST_CODE_WORDS) (low : first ≤ 2 ^ 19) where
  abbrev ns : List ℕ
  ns = numbers all first 0 all

  abbrev at : ℕ → ℕ
  at p = number_at ns p

  abbrev address : ℕ → ℕ
  address p = code_base + 4 * at p

  abbrev code : List Slot
  code = slots all ns 0 all

  abbrev start : ℕ
  start = code_base + 4 * first

  -- numbers are from the first one on, and few
  low_at : (p : ℕ) → p ≤ length all → first ≤ at p
  low_at p h = let step = number_steps all first 0 all 0 p (omega (arith, h)) in let zero_at = number_first all first 0 all in
      subst (λ q. first ≤ at q) (the_same p) (omega (arith, step.0, zero_at))
    where
      the_same : (p : ℕ) → 0 + p ≡ p
      the_same p = omega arith

  high_at : (p : ℕ) → p ≤ length all → at p ≤ first + MOST_CODE_WORDS
  high_at p h = let bound = number_bounded all first 0 all p h in omega (arith, bound, few)

  small_at : (p : ℕ) → p ≤ length all → at p < 2 ^ 20
  small_at p h = let high = high_at p h in omega (arith, high, low)

  place : (p j : ℕ) (item : CodeItem) (instr : Instr) → slice_get all p ≡ Some item → slice_get (slots_of all ns p item) j ≡ Some (Row instr) →
      IsInstructionAt start code (code_base + 4 * (at p + j)) instr
  place p j item instr e h =
      let found = stands_at all ns first 0 all p j item (Row instr) e (subst (λ q. slice_get (slots_of all ns q item) j ≡ Some (Row instr)) (omega arith) h) in
      (found.0, omega (arith, found.1), found.2)

  first_place : (p : ℕ) (item : CodeItem) (instr : Instr) → slice_get all p ≡ Some item → slice_get (slots_of all ns p item) 0 ≡ Some (Row instr) →
      IsInstructionAt start code (address p) instr
  first_place p item instr e h = subst (λ a. IsInstructionAt start code a instr) (omega arith) (place p 0 item instr e h)

  next_at : (p : ℕ) (item : CodeItem) → slice_get all p ≡ Some item → at (p + 1) ≡ at p + size all p item
  next_at p item e = number_next all first 0 all p item e ∙ ap (λ q. at p + size all q item) (omega arith)

  -- after an item of one word the next stands at the next pc
  one_word : (p : ℕ) (item : CodeItem) → slice_get all p ≡ Some item → size all p item ≡ 1 → next (address p) ≡ address (p + 1)
  one_word p item e one =
      let more = next_at p item e in
      let small = small_at p (omega (arith, within all p item e)) in
      next_of (address p) (omega (arith, small)) ∙ omega (arith, more, one)

  jump_goes : (f : ℕ) (label : ℕ) → first ≤ f → f ≤ first + 65537 →
      displaced (code_base + 4 * f) 21 (offset 21 f (at (label_position label all))) ≡ address (label_position label all)
  jump_goes f label low_f high_f =
      let q = label_position label all in
      let inside = label_within label all in
      let a = low_at q inside in
      let b = high_at q inside in
      jump_lands f (at q) (omega (arith, high_f, low)) (small_at q inside) (omega (arith, low_f, b)) (omega (arith, high_f, a))

  jump : (p : ℕ) (rd : ℕ) (to : Label) (x : List ℕ) → slice_get all p ≡ Some (JumpTo rd to) →
      HasEffect start code x (address p) (address (p + 1)) (Continues (written x rd (address (p + 1))) (address (label_position to.0 all)))
  jump p rd to x e =
      let inside : p ≤ length all = omega (arith, within all p (JumpTo rd to) e) in
      let lands = jump_goes (at p) to.0 (low_at p inside) (omega (arith, high_at p inside)) in
      in_one (Jal rd (offset 21 (at p) (at (label_position to.0 all)))) (first_place p (JumpTo rd to) _ e refl)
      (row_of_jump rd _ x (address p) ∙ ap₂ (λ v pc. Continues (written x rd v) pc) (one_word p (JumpTo rd to) e refl) lands)

  near_branch : (p : ℕ) (c : Condition) (rs1 rs2 : ℕ) (to : Label) (x : List ℕ) → slice_get all p ≡ Some (BranchTo c rs1 rs2 to) →
      is_near p (label_position to.0 all) ≡ true
      → HasEffect start code x (address p) (address (p + 1))
      (Continues x (if is_taken c (read x rs1) (read x rs2) then address (label_position to.0 all) else address (p + 1)))
  near_branch p c rs1 rs2 to x e near =
      let q = label_position to.0 all in
      let item : CodeItem = BranchTo c rs1 rs2 to in
      let inside : p ≤ length all = omega (arith, within all p item e) in
      let there = label_within to.0 all in
      let bounds = near_bounds p q near in
      let close = distance_small p q inside there bounds.0 bounds.1 in
      let lands = branch_lands (at p) (at q) (small_at p inside) (small_at q there) close.0 close.1 in
      in_one (Branch c rs1 rs2 (offset 13 (at p) (at q))) (first_place p item _ e (rw near refl))
      (row_of_branch c rs1 rs2 _ x (address p)
      ∙ ap₂ (λ a b. Continues x (if is_taken c (read x rs1) (read x rs2) then a else b)) lands (one_word p item e (rw near refl)))
    where
      distance_small : (p q : ℕ) → p ≤ length all → q ≤ length all → q ≤ p + 511 → p ≤ q + 511 → (at q ≤ at p + 1022) × (at p ≤ at q + 1022)
      distance_small p q hp hq up down = by (nat_le p q) refl
        where
          upward : (p q : ℕ) → p ≤ q → q ≤ length all → (at p ≤ at q) × (at q ≤ at p + 2 * (q - p))
          upward p q le h =
              let step = number_steps all first 0 all p (q - p) (omega (arith, le, h)) in
              subst (λ r. (at p ≤ at r) × (at r ≤ at p + 2 * (q - p))) (omega (arith, le)) step

          by : (b : Bool) → nat_le p q ≡ b → (at q ≤ at p + 1022) × (at p ≤ at q + 1022)
          by true e = let le : p ≤ q = le_of p q e in let m = upward p q le hq in (omega (arith, m.1, up), omega (arith, m.0))
          by false e = let le : q ≤ p = omega (arith, lt_of p q e) in let m = upward q p le hp in (omega (arith, m.0), omega (arith, m.1, down))

  far_branch : (p : ℕ) (c : Condition) (rs1 rs2 : ℕ) (to : Label) (x : List ℕ) → slice_get all p ≡ Some (BranchTo c rs1 rs2 to) →
      is_near p (label_position to.0 all) ≡ false
      → HasEffect start code x (address p) (address (p + 1))
      (Continues x (if is_taken c (read x rs1) (read x rs2) then address (label_position to.0 all) else address (p + 1)))
  far_branch p c rs1 rs2 to x e far = by (is_taken c (read x rs1) (read x rs2)) refl
    where
      q : ℕ
      q = label_position to.0 all

      item : CodeItem
      item = BranchTo c rs1 rs2 to

      inside : p ≤ length all
      inside = omega (arith, within all p item e)

      small : at p < 2 ^ 20
      small = small_at p inside

      over : Instr
      over = Branch (inverse c) rs1 rs2 8

      away : Instr
      away = Jal 0 (offset 21 (at p + 1) (at q))

      by : (b : Bool) → is_taken c (read x rs1) (read x rs2) ≡ b →
          HasEffect start code x (address p) (address (p + 1)) (Continues x (if is_taken c (read x rs1) (read x rs2) then address q else address (p + 1)))
      by true taken =
          let between : ℕ = code_base + 4 * (at p + 1) in
          let untaken : is_taken (inverse c) (read x rs1) (read x rs2) ≡ false = inverse_taken c (read x rs1) (read x rs2) ∙ ap not taken in
          let goes : row over x (address p) ≡ Continues x between =
          row_of_branch (inverse c) rs1 rs2 8 x (address p) ∙ ap (λ t. Continues x (if t then displaced (address p) 13 8 else next (address p))) untaken
          ∙ ap (Continues x) (next_of (address p) (omega (arith, small)) ∙ omega arith) in
          let lands : displaced between 21 (offset 21 (at p + 1) (at q)) ≡ address q =
          jump_goes (at p + 1) to.0 (omega (arith, low_at p inside)) (omega (arith, high_at p inside)) in
          let jumps : row away x between ≡ Continues x (address q) = row_of_jump 0 (offset 21 (at p + 1) (at q)) x between ∙ ap (Continues x) lands in
          let apart : address p + 4 ≡ between = omega arith in
          let two : at (p + 1) ≡ at p + 2 = next_at p item e ∙ ap (λ (b : Bool). at p + (if b then 1 else 2)) far in
          let Q : ℕ → Type 0 = λ n. IsInstructionAt start code n away in
          in_two over away (omega (arith, two)) (first_place p item over e (rw far refl)) (goes ∙ ap (Continues x) (sym apart))
          (subst Q (sym apart) (place p 1 item away e (rw far refl)))
          (ap (λ (n : ℕ). row away x n) apart ∙ jumps ∙ sym (ap (λ t. Continues x (if t then address q else address (p + 1))) taken))
      by false untaken =
          let taken : is_taken (inverse c) (read x rs1) (read x rs2) ≡ true = inverse_taken c (read x rs1) (read x rs2) ∙ ap not untaken in
          let two : at (p + 1) ≡ at p + 2 = next_at p item e ∙ ap (λ (b : Bool). at p + (if b then 1 else 2)) far in
          let lands : displaced (address p) 13 8 ≡ address (p + 1) = over_jump (at p) small ∙ ap (λ n. code_base + 4 * n) (sym two) in
          in_one over (first_place p item over e (rw far refl))
          (row_of_branch (inverse c) rs1 rs2 8 x (address p) ∙ ap (λ t. Continues x (if t then displaced (address p) 13 8 else next (address p))) taken
          ∙ ap (Continues x) lands ∙ sym (ap (λ t. Continues x (if t then address q else address (p + 1))) untaken))

  branch : (p : ℕ) (c : Condition) (rs1 rs2 : ℕ) (to : Label) (x : List ℕ) → slice_get all p ≡ Some (BranchTo c rs1 rs2 to)
      → HasEffect start code x (address p) (address (p + 1))
      (Continues x (if is_taken c (read x rs1) (read x rs2) then address (label_position to.0 all) else address (p + 1)))
  branch p c rs1 rs2 to x e = by (is_near p (label_position to.0 all)) refl
    where
      by : (b : Bool) → is_near p (label_position to.0 all) ≡ b →
          HasEffect start code x (address p) (address (p + 1))
          (Continues x (if is_taken c (read x rs1) (read x rs2) then address (label_position to.0 all) else address (p + 1)))
      by true near = near_branch p c rs1 rs2 to x e near
      by false far = far_branch p c rs1 rs2 to x e far

  effect_is : (a b : Effect) → Some a ≡ Some b → a ≡ b
  effect_is a b e = cc e

  none_some : (a : Effect) → None ≡ Some a → ⊥
  none_some a e = cc e

  steps : (p : ℕ) (item : CodeItem) (x : List ℕ) (effect : Effect) → slice_get all p ≡ Some item → does all address p x item ≡ Some effect →
      HasEffect start code x (address p) (address (p + 1)) effect
  steps p (Instruction instr) x effect e h = in_one instr (first_place p (Instruction instr) instr e refl) (effect_is _ effect h)
  steps p (BranchTo c rs1 rs2 to) x effect e h = subst (HasEffect start code x (address p) (address (p + 1))) (effect_is _ effect h) (branch p c rs1 rs2 to x e)
  steps p (JumpTo rd to) x effect e h = subst (HasEffect start code x (address p) (address (p + 1))) (effect_is _ effect h) (jump p rd to x e)
  steps p (Here here) x effect e h = absurd (none_some effect h)
  steps p MarkNext x effect e h = absurd (none_some effect h)
  steps p ResumeNext x effect e h = absurd (none_some effect h)

  least_is : (p : ℕ) (item : CodeItem) → least_words_of item ≤ size all p item
  least_is p (Instruction instr) = lit≤ tt
  least_is p (BranchTo c rs1 rs2 to) = by (is_near p (label_position to.0 all))
    where
      by : (b : Bool) → 1 ≤ (if b then 1 else 2)
      by true = lit≤ tt
      by false = lit≤ tt
  least_is p (JumpTo rd to) = lit≤ tt
  least_is p (Here here) = lit≤ tt
  least_is p MarkNext = lit≤ tt
  least_is p ResumeNext = lit≤ tt

  has_room : (p : ℕ) (item : CodeItem) → slice_get all p ≡ Some item → IsRoom item (address p) (address (p + 1))
  has_room p item e = record {
    words = size all p item;
    to_is = let more = next_at p item e in omega (arith, more);
    least = least_is p item;
    most = size_small all p item;
  }

  words_at : (p : ℕ) (item : CodeItem) → slice_get all p ≡ Some item → AreInstructions start code (address p) (address (p + 1)) (fences_of item)
  words_at p item e =
      let there : Within all ns first 0 all p item = slots_within all ns first 0 all p item e in
      let same : 0 + p ≡ p = omega arith in
      let number : at p ≡ first + there.first = there.number in
      let size_there : length (slots_of all ns (0 + p) item) ≡ size all p item = size_is all ns (0 + p) item ∙ ap (λ q. size all q item) same in
      let more : at (p + 1) ≡ at p + size all p item = next_at p item e in
      record {
        first = there.first;
        count = length (slots_of all ns (0 + p) item);
        from_is = omega (arith, number);
        to_is = omega (arith, more, size_there);
        inside = there.inside;
        rows = subst (λ (xs : List Slot). AllByRecursion IsInstruction xs) (sym there.slots_are) (rows_of all ns (0 + p) item);
        fences_are = ap (λ (xs : List Slot). count_by is_fence xs) there.slots_are ∙ fences_are_of all ns (0 + p) item;
      }

  pub linked : (nodes resumes : List ℕ) → nodes ≡ map address (positions_from 0 is_mark all) → resumes ≡ map address (positions_from 0 is_resume all) →
      IsLinked start all code nodes resumes
  linked nodes resumes n r = record {
    address_of = address;
    begins = ap (λ k. code_base + 4 * k) (number_first all first 0 all);
    ends = let last = number_last all ns first 0 all in omega (arith, last);
    room = has_room;
    stands = λ p instr e. first_place p (Instruction instr) instr e refl;
    lockstep = steps;
    nodes_are = n;
    resumes_are = r;
    words = words_at;
  }
