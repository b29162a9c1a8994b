-- The cleans of pieces.
use Rattle.std.proofs.Common.{◌≡◌, ◌+◌, List, [], ◌∷◌, ◌++◌, append_assoc, refl, sym, ◌∙◌, arith, Bool, true, false, ℕ}
use Rattle.std.specs.Prelude.{if◌then◌else◌}
use Rattle.std.proofs.lemmas.List.Sums.{sum_by-append, sum_by-cons}
use Rattle.rv64_isa.specs.declared.instr.Instr.{Instr}
use Rattle.rv64_isa.specs.declared.instr.Instr.TheVariants.{OpImmediate, Ecall}
use Rattle.rv64_isa.specs.declared.instr.ImmediateOperation.TheVariants.{Addi}
use Rattle.rv64_isa.specs.declared.object.CodeItem.{CodeItem}
use Rattle.rv64_isa.specs.declared.object.CodeItem.TheVariants.{Instruction, BranchTo, MarkNext, ResumeNext}
use Rattle.rv64_isa.specs.declared.object.Label.{Label}
use Rattle.boundary_code.specs.Boundaries.{Boundary}
use Rattle.operator_code.specs.declared.branches.Test.{Test}
use Rattle.node_code.specs.Cleans.{cleans_of, cleans_in}
use Rattle.node_code.specs.BoundaryCode.{IsQuiet, CleansInBoundary}
use Rattle.node_code.specs.links.BoundaryCode.{IsCodeOf}
use Rattle.node_code.specs.links.ItemLists.{plain, asking_items, boundary_items, lock_items, unlock_items, computing_items, choice_items}

pub cleans_append : (xs ys : List CodeItem) → cleans_in (xs ++ ys) ≡ cleans_in xs + cleans_in ys
cleans_append xs ys = sum_by-append cleans_of xs ys

pub cleans_cons : (x : CodeItem) (xs : List CodeItem) → cleans_in (x ∷ xs) ≡ cleans_of x + cleans_in xs
cleans_cons x xs = sum_by-cons cleans_of x xs

-- ---- Boundaries

pub boundary_cleans : (b : Boundary) (codes : List (List Instr)) (code : List Instr) → IsCodeOf b codes code → CleansInBoundary b (boundary_items code)
boundary_cleans b codes code h = record {
  before = [];
  codes = codes;
  code = code;
  after = ResumeNext ∷ [];
  split = refl;
  is_code = h.is;
  quiet = h.quiet;
  none_before = refl;
  none_after = refl;
}

asking_cleans : (numbering : List Instr) (call : ℕ) → IsQuiet numbering → cleans_in (asking_items numbering call) ≡ 0
asking_cleans numbering call quiet =
    let i : Instr = OpImmediate Addi 17 0 call in
    let sum : cleans_in (asking_items numbering call) ≡ cleans_in (plain numbering) + 0 = cleans_append (plain numbering) (Instruction i ∷ []) in
    let first = quiet.cleans in
    omega (arith, sum, first)

pub lock_cleans : (b : Boundary) (codes : List (List Instr)) (numbering code : List Instr) → IsQuiet numbering → IsCodeOf b codes code →
    CleansInBoundary b (lock_items numbering code)
lock_cleans b codes numbering code quiet h = record {
  before = asking_items numbering 1 ++ (MarkNext ∷ Instruction Ecall ∷ []);
  codes = codes;
  code = code;
  after = ResumeNext ∷ [];
  split = sym (append_assoc (asking_items numbering 1) (MarkNext ∷ Instruction Ecall ∷ []) (plain code ++ ResumeNext ∷ []));
  is_code = h.is;
  quiet = h.quiet;
  none_before =
      let sum : cleans_in (asking_items numbering 1 ++ (MarkNext ∷ Instruction Ecall ∷ [])) ≡ cleans_in (asking_items numbering 1) + 0 =
      cleans_append (asking_items numbering 1) (MarkNext ∷ Instruction Ecall ∷ []) in
      let first = asking_cleans numbering 1 quiet in
      omega (arith, sum, first);
  none_after = refl;
}

pub unlock_cleans : (b : Boundary) (ends : Bool) (codes : List (List Instr)) (numbering code : List Instr) → IsQuiet numbering → IsCodeOf b codes code →
    CleansInBoundary b (unlock_items numbering ends code)
unlock_cleans b ends codes numbering code quiet h = record {
  before = MarkNext ∷ [];
  codes = codes;
  code = code;
  after = asking_items numbering 2 ++ (Instruction Ecall ∷ (if ends then [] else ResumeNext ∷ []));
  split = refl;
  is_code = h.is;
  quiet = h.quiet;
  none_before = refl;
  none_after =
      let last : List CodeItem = Instruction Ecall ∷ (if ends then [] else ResumeNext ∷ []) in
      let sum = cleans_append (asking_items numbering 2) last in
      let first = asking_cleans numbering 2 quiet in
      let none : cleans_in last ≡ 0 = by ends in
      omega (arith, sum, first, none);
}
  where
    by : (z : Bool) → cleans_in (Instruction Ecall ∷ (if z then [] else ResumeNext ∷ [])) ≡ 0
    by true = refl
    by false = refl

-- ---- Code that computes

pub computing_cleans : (i : Instr) (is : List Instr) → cleans_in (computing_items (i ∷ is)) ≡ cleans_in (plain (i ∷ is))
computing_cleans i is = cleans_cons MarkNext (plain (i ∷ is)) ∙ omega arith

pub choice_cleans : (code : List Instr) (test : Test) (to : Label) → cleans_in (choice_items code test to) ≡ cleans_in (plain code)
choice_cleans code test to =
    let sum = cleans_append (MarkNext ∷ plain code) (BranchTo test.condition test.rs1 test.rs2 to ∷ []) in
    let marked : cleans_in (MarkNext ∷ plain code) ≡ 0 + cleans_in (plain code) = cleans_cons MarkNext (plain code) in
    omega (arith, sum, marked)
