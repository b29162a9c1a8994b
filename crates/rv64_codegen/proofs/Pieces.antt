-- Evaluations and tests as pieces of a thread's code.
use Rattle.std.proofs.Common.{◌≡◌, ℕ, ◌+◌, ◌*◌, ◌<◌, ◌≤◌, ◌^◌, List, [], ◌∷◌, length, refl, ap, sym, ◌∙◌, arith, subst, Bool, true, false, if◌then◌else◌}
use Rattle.std.specs.Prelude.{not, map, sum_by}
use Rattle.std.proofs.lemmas.List.Sums.{sum_by-cons}
use Rattle.ido_ints.specs.Operators.{is_zero}
use Rattle.c_tree.specs.Exprs as e
use Rattle.c_tree.specs.Prices.{nodes_of}
use Rattle.c_tree.specs.Values.{value}
use Rattle.rv64_isa.specs.declared.instr.Instr.{Instr}
use Rattle.rv64_isa.specs.declared.object.CodeItem.{CodeItem}
use Rattle.rv64_isa.specs.declared.instr.Instr.TheVariants.{Lui, Auipc, Jal, Jalr, Branch, Load, Store, OpImmediate}
use Rattle.rv64_isa.specs.declared.instr.Instr.TheVariants.{ShiftImmediate, ShiftImmediateWord, Op, CboClean, Fence, Ecall}
use Rattle.rv64_isa.specs.declared.object.CodeItem.TheVariants.{Instruction}
use Rattle.rv64_link.specs.LabelledCode.{most_words_of, fences_of, fences_in}
use Rattle.memory_layout.specs.Roles.{is_temporary}
use Rattle.operator_code.specs.declared.branches.Test.{Test}
use Rattle.operator_code.specs.ComputingCode.{AreRegisters, passes}
use Rattle.code_runs.specs.ComputingRuns.{Environment, HasCodeAt, config}
use Rattle.code_runs.specs.CodeTraces.{Mark, Observation}
use Rattle.expr_code.specs.EvaluationCode.{Homes, Source, EvaluationEnds, IsTestCode, impure_of, impure_among}
use Rattle.node_code.specs.Sites.{Site, begin_of, end_of, label_of}
use Rattle.node_code.specs.Pieces.{Computed, IsChoice, Chooses, IsComputing, IsPlainWrite, IsUnmarked, PieceLeads, words_in}
use Rattle.node_code.specs.Cleans.{cleans_of, cleans_in}
use Rattle.node_code.proofs.Public.{cleans_cons, fragment, weaker}
use Rattle.rv64_codegen.specs.Evaluations.{MayReach, MayEvaluate, may_write, Has, IsAssigned, IsEvaluation, IsPlainAssignment, IsPreparation, IsTest}
use Rattle.rv64_codegen.specs.Evaluations.{IsTested, is_taken}
use Rattle.rv64_codegen.specs.links.Targets.{IsSelected, IsTurned}

-- pure code has no FENCE
fences_below : (i : Instr) → fences_of (Instruction i) ≤ impure_of i
fences_below (Lui rd immediate) = omega arith
fences_below (Auipc rd immediate) = omega arith
fences_below (Jal rd offset) = omega arith
fences_below (Jalr rd rs1 offset) = omega arith
fences_below (Branch condition rs1 rs2 offset) = omega arith
fences_below (Load kind rd rs1 offset) = omega arith
fences_below (Store kind rs2 rs1 offset) = omega arith
fences_below (OpImmediate operation rd rs1 immediate) = omega arith
fences_below (ShiftImmediate operation rd rs1 count) = omega arith
fences_below (ShiftImmediateWord operation rd rs1 count) = omega arith
fences_below (Op operation rd rs1 rs2) = omega arith
fences_below (CboClean rs1) = omega arith
fences_below Fence = omega arith
fences_below Ecall = omega arith

pub no_fences : (code : List Instr) → impure_among code ≡ 0 → fences_in (map Instruction code) ≡ 0
no_fences [] h = refl
no_fences (i ∷ is) h =
    let all = sum_by-cons impure_of i is in
    let here = fences_below i in
    let rest = no_fences is (omega (arith, h, all)) in
    let sum = sum_by-cons fences_of (Instruction i) (map Instruction is) in
    omega (arith, h, all, here, rest, sum)

-- nor does it clean a line
cleans_below : (i : Instr) → cleans_of (Instruction i) ≤ impure_of i
cleans_below (Lui rd immediate) = omega arith
cleans_below (Auipc rd immediate) = omega arith
cleans_below (Jal rd offset) = omega arith
cleans_below (Jalr rd rs1 offset) = omega arith
cleans_below (Branch condition rs1 rs2 offset) = omega arith
cleans_below (Load kind rd rs1 offset) = omega arith
cleans_below (Store kind rs2 rs1 offset) = omega arith
cleans_below (OpImmediate operation rd rs1 immediate) = omega arith
cleans_below (ShiftImmediate operation rd rs1 count) = omega arith
cleans_below (ShiftImmediateWord operation rd rs1 count) = omega arith
cleans_below (Op operation rd rs1 rs2) = omega arith
cleans_below (CboClean rs1) = omega arith
cleans_below Fence = omega arith
cleans_below Ecall = omega arith

pub no_cleans : (code : List Instr) → impure_among code ≡ 0 → cleans_in (map Instruction code) ≡ 0
no_cleans [] h = refl
no_cleans (i ∷ is) h =
    let all = sum_by-cons impure_of i is in
    let here = cleans_below i in
    let rest = no_cleans is (omega (arith, h, all)) in
    let sum = cleans_cons (Instruction i) (map Instruction is) in
    omega (arith, h, all, here, rest, sum)

module _ (h : Homes) (target : e.Lvalue) (t : e.Expr) (code : List Instr) (sel : IsSelected h target t code) where
  -- where the code stands its run leads to registers after the evaluation
  record Ran (s : Source) (around : Environment) (address : ℕ) (x : List ℕ) : Type 0 where
    registers : List ℕ
    computed : Computed around code address x registers
    assigned : IsAssigned h s target t x registers

  run : (s : Source) (around : Environment) (address : ℕ) (x : List ℕ) → HasCodeAt around address code → address + 4 * length code < 2 ^ 64 → AreRegisters x →
      MayReach h s around x target → MayEvaluate h s around x t → Ran s around address x
  run s around address x stands room are reach may =
      let end : EvaluationEnds around code (may_write h target) (λ y. Has h s y target (value s.locals s.numbers t)) (config x address) =
      sel.does.ends s around (config x address) (record { registers = are; stands = stands; room = room }) reach may in
      record {
        registers = end.registers;
        computed = record { run = end.leads; short = end.short };
        assigned = record { are = end.are; unchanged = end.unchanged; has = end.has };
      }

  -- where the code leads from registers to others, these are those after the evaluation
  leads_by : {piece : List CodeItem} (at : Site piece) (s : Source) (x : List ℕ) (from to : ℕ) (ss : List Observation)
      (r : Ran s at.linking.environment.around from x) → PieceLeads at x from to ss (λ z. z ≡ r.registers) →
      PieceLeads at x from to ss (IsAssigned h s target t x)
  leads_by {piece} at s x from to ss r leg =
      weaker at.linking.environment (fragment x from to (words_in piece at)) ss (λ z. z ≡ r.registers) (IsAssigned h s target t x)
      (λ z f. subst (λ (v : List ℕ). IsAssigned h s target t x v) (sym f) r.assigned) leg

  pub is_evaluation : (piece : List CodeItem) → IsComputing code piece → IsEvaluation h target t piece
  is_evaluation piece comp = record {
    closed = comp.closed;
    few = omega (arith, sel.short, comp.few);
    fences = comp.fences ∙ no_fences code sel.pure;
    cleans = comp.cleans ∙ no_cleans code sel.pure;
    at = λ at.
        let c = comp.at at in
        record {
          evaluates = λ s x are reach may.
              let r = run s at.linking.environment.around (begin_of piece at) x c.stands c.room are reach may in
              leads_by at s x (begin_of piece at) (end_of piece at) (Mark ∷ []) r (c.computes x r.registers r.computed);
          marks = c.marks;
          resumes = c.resumes;
        };
  }

  pub is_preparation : (piece : List CodeItem) → IsUnmarked code piece → IsPreparation h target t piece
  is_preparation piece comp = record {
    closed = comp.closed;
    few = omega (arith, sel.short, comp.few);
    fences = comp.fences ∙ no_fences code sel.pure;
    cleans = comp.cleans ∙ no_cleans code sel.pure;
    at = λ at.
        let c = comp.at at in
        record {
          prepares = λ s x are reach may.
              let r = run s at.linking.environment.around (begin_of piece at) x c.stands c.room are reach may in
              leads_by at s x (begin_of piece at) (end_of piece at) [] r (c.computes x r.registers r.computed);
          marks = c.marks;
          resumes = c.resumes;
        };
  }

  pub is_plain_assignment : (piece : List CodeItem) → IsPlainWrite code piece → IsPlainAssignment h target t piece
  is_plain_assignment piece comp = record {
    closed = comp.closed;
    few = omega (arith, sel.short, comp.few);
    fences = comp.fences ∙ no_fences code sel.pure;
    cleans = comp.cleans ∙ no_cleans code sel.pure;
    at = λ at.
        let c = comp.at at in
        record {
          store = c.store;
          evaluates = λ s x are reach may.
              let r = run s at.linking.environment.around (begin_of piece at) x c.has_code c.room are reach may in
              leads_by at s x (begin_of piece at) c.store (Mark ∷ []) r (c.computes x r.registers r.computed);
          stands = c.stands;
          does = c.does;
          stores = c.stores;
          after = c.after;
          plain = c.plain;
          marks = c.marks;
          resumes = c.resumes;
        };
  }

turn : (turned z : Bool) → (if turned then not (not z) else not z) ≡ (if turned then z else not z)
turn true true = refl
turn true false = refl
turn false z = refl

pub is_test : (h : Homes) (t : e.Expr) (turned : Bool) (label : ℕ) (code : List Instr) (other test : Test) (piece : List CodeItem) →
    length code ≤ 16 * nodes_of t + 8 → impure_among code ≡ 0 →
    IsTestCode h t other code → IsTurned other test turned → IsChoice code test label piece → IsTest h t turned label piece
is_test h t turned label code other test piece short none sel turns choice = record {
  closed = choice.closed;
  few = let b : sum_by most_words_of piece ≤ length code + 2 = choice.few in omega (arith, short, b);
  fences = choice.fences ∙ no_fences code none;
  cleans = choice.cleans ∙ no_cleans code none;
  at = λ at. record {
    tests = tests at (choice.at at);
    marks = (choice.at at).marks;
    resumes = (choice.at at).resumes;
  };
}
  where
    tests : (at : Site piece) → Chooses code test label piece at → (s : Source) (x : List ℕ) → AreRegisters x →
        MayEvaluate h s at.linking.environment.around x t →
        PieceLeads at x (begin_of piece at) (if is_taken turned (value s.locals s.numbers t) then label_of piece at label else end_of piece at) (Mark ∷ [])
        (IsTested x)
    tests at c s x are may =
        let b : ℕ = begin_of piece at in
        let end : EvaluationEnds at.linking.environment.around code is_temporary
        (λ y. passes other y ≡ not (is_zero (value s.locals s.numbers t).number)) (config x b) =
        sel.ends s at.linking.environment.around (config x b) may.legal (record {
          at = record { registers = are; stands = c.stands; room = c.room };
          locals = may.locals;
        }) in
        let taken : passes test end.registers ≡ is_taken turned (value s.locals s.numbers t) =
        turns.passed end.registers ∙ ap (λ (p : Bool). if turned then not p else p) end.has ∙ turn turned (is_zero (value s.locals s.numbers t).number) in
        let to : Bool → ℕ = λ p. if p then label_of piece at label else end_of piece at in
        weaker at.linking.environment (fragment x b (to (is_taken turned (value s.locals s.numbers t))) (words_in piece at)) (Mark ∷ [])
        (λ z. z ≡ end.registers) (IsTested x)
        (λ z f. subst (λ (v : List ℕ). IsTested x v) (sym f) (record { are = end.are; unchanged = end.unchanged }))
        (subst (λ (p : Bool). PieceLeads at x b (to p) (Mark ∷ []) (λ z. z ≡ end.registers)) taken
        (c.chooses x end.registers (record { run = end.leads; short = end.short })))
