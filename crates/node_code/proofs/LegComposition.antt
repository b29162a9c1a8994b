-- Runs of parts put together.
use Rattle.std.proofs.Common.{◌≡◌, ℕ, ◌+◌, ◌≤◌, List, [], ◌∷◌, ◌++◌, length, refl, ap, sym, ◌∙◌, arith, subst, Bool, true, false}
use Rattle.std.specs.Prelude.{sum_by}
use Rattle.std.proofs.lemmas.List.Sums.{sum_by-cons}
use Rattle.rv64_isa.specs.declared.instr.Instr.{Instr}
use Rattle.rv64_isa.specs.declared.object.CodeItem.{CodeItem}
use Rattle.rv64_isa.specs.declared.object.CodeItem.TheVariants.{Instruction, MarkNext}
use Rattle.rv64_isa.specs.Rows.{Effect}
use Rattle.rv64_link.specs.LabelledCode.{most_words_of}
use Rattle.operator_code.specs.StraightLineCode.{effects, registers_after}
use Rattle.operator_code.proofs.Public as s
use Rattle.code_runs.specs.ComputingRuns as r
use Rattle.code_runs.specs.CodeTraces.{MarkedEnvironment, Observation, Mark, AreMemory, Trace, Fragment, GoesThrough, seen_effects}
use Rattle.code_runs.proofs.Public.{along}
use Rattle.node_code.specs.Sites.{mark_waits, Linking, IsPart}
use Rattle.node_code.specs.links.ItemLists.{plain}
use Rattle.node_code.proofs.ItemAddresses.{part_right, waits_right, length_map}
use Rattle.node_code.proofs.LinkedPartRuns.{waiting, stays_at, straight_part, straight_part_on}

abbrev pub fragment : (x : List ℕ) → (from to most : ℕ) → Fragment
fragment x from to most = record { registers = x; from = from; to = to; most = most }

pub more_room : (s : MarkedEnvironment) (x : List ℕ) (from to m k : ℕ) (ss : List Observation) (P : List ℕ → Type 0) → m ≤ k →
    GoesThrough s (fragment x from to m) ss P →
    GoesThrough s (fragment x from to k) ss P
more_room s x from to m k ss P le g = record {
  registers = g.registers;
  steps = g.steps;
  walks = g.walks;
  short = let e : g.steps ≤ m = g.short in omega (arith, e, le);
  are = g.are;
}

-- registers that have the one property have the other
pub weaker : (s : MarkedEnvironment) (w : Fragment) (ss : List Observation) (P Q : List ℕ → Type 0) → ((y : List ℕ) → P y → Q y) → GoesThrough s w ss P →
    GoesThrough s w ss Q
weaker s w ss P Q f g = record { registers = g.registers; steps = g.steps; walks = g.walks; short = g.short; are = f g.registers g.are }

pub two_legs : (s : MarkedEnvironment) (x : List ℕ) (from by to m k : ℕ) (ss ts : List Observation) (P Q : List ℕ → Type 0) →
    GoesThrough s (fragment x from by m) ss P →
    ((y : List ℕ) → P y → GoesThrough s (fragment y by to k) ts Q) → GoesThrough s (fragment x from to (m + k)) (ss ++ ts) Q
two_legs s x from by to m k ss ts P Q g f =
    let h : GoesThrough s (fragment g.registers by to k) ts Q = f g.registers g.are in
    record {
      registers = h.registers;
      steps = g.steps + h.steps;
      walks = along s g.steps h.steps (r.config x from) (r.config g.registers by) (r.config h.registers to) ss ts g.walks h.walks;
      short = let e : g.steps ≤ m = g.short in let i : h.steps ≤ k = h.short in omega (arith, e, i);
      are = h.are;
    }

-- a fragment with its addresses written otherwise
pub moved : (s : MarkedEnvironment) (x : List ℕ) (from from' to to' most : ℕ) (ss : List Observation) (P : List ℕ → Type 0) → from ≡ from' → to ≡ to' →
    GoesThrough s (fragment x from to most) ss P → GoesThrough s (fragment x from' to' most) ss P
moved s x from from' to to' most ss P e f g =
    subst (λ (a : ℕ). GoesThrough s (fragment x a to' most) ss P) e (subst (λ (a : ℕ). GoesThrough s (fragment x from a most) ss P) f g)

pub words_of_plain : (code : List Instr) → sum_by most_words_of (plain code) ≡ length code
words_of_plain [] = refl
words_of_plain (i ∷ is) = let e : sum_by most_words_of (plain is) ≡ length is = words_of_plain is in sum_by-cons most_words_of (Instruction i) (plain is) ∙
    omega (arith, e)

module _ (all : List CodeItem) (n : Linking all) where
  abbrev at : ℕ → ℕ
  at = n.linked.address_of

  pub end_is : (k : ℕ) (code : List Instr) → at (k + length code) ≡ at (k + length (plain code))
  end_is k code = let e : k + length code ≡ k + length (plain code) = ap (λ (m : ℕ). k + m) (sym (length_map all n code)) in ap at e

  -- straight code, after the mark that waits for its first instruction
  pub straight_leg : (k : ℕ) (i : Instr) (is : List Instr) (p : IsPart all k (plain (i ∷ is))) (x y : List ℕ) (es : List Effect) (w : Bool) →
      mark_waits false p.before ≡ w →
      s.RunsFrom (i ∷ is) x (at k) es y → AreMemory es →
      GoesThrough n.environment (fragment x (at k) (at (k + length (plain (i ∷ is)))) (length (i ∷ is))) (waiting w ++ seen_effects es) (λ z. z ≡ y)
  straight_leg k i is p x y es w waits run memory =
      let walk : Trace n.environment (length (i ∷ is)) (r.config x (at k)) (waiting w ++ seen_effects (effects (i ∷ is) x (at k)))
      (r.config (registers_after (i ∷ is) x (at k)) (at (k + length (i ∷ is)))) =
      straight_part all n k i is p x w waits (subst (λ (fs : List Effect). AreMemory fs) (sym run.sees) memory) in
      moved n.environment x (at k) (at k) (at (k + length (i ∷ is))) (at (k + length (plain (i ∷ is)))) (length (i ∷ is)) (waiting w ++ seen_effects es)
      (λ z. z ≡ y) refl (end_is k (i ∷ is))
      (record {
        registers = registers_after (i ∷ is) x (at k);
        steps = length (i ∷ is);
        walks = subst (λ (fs : List Effect). Trace n.environment (length (i ∷ is)) (r.config x (at k)) (waiting w ++ seen_effects fs)
            (r.config (registers_after (i ∷ is) x (at k)) (at (k + length (i ∷ is))))) run.sees walk;
        short = omega arith;
        are = run.leaves;
      })

  pub straight_leg_on : (k : ℕ) (code : List Instr) (p : IsPart all k (plain code)) (x y : List ℕ) (es : List Effect) → mark_waits false p.before ≡ false →
      s.RunsFrom code x (at k) es y → AreMemory es →
      GoesThrough n.environment (fragment x (at k) (at (k + length (plain code))) (length code)) (seen_effects es) (λ z. z ≡ y)
  straight_leg_on k code p x y es closed run memory =
      let walk : Trace n.environment (length code) (r.config x (at k)) (seen_effects (effects code x (at k)))
      (r.config (registers_after code x (at k)) (at (k + length code))) =
      straight_part_on all n k code p x closed (subst (λ (fs : List Effect). AreMemory fs) (sym run.sees) memory) in
      moved n.environment x (at k) (at k) (at (k + length code)) (at (k + length (plain code))) (length code) (seen_effects es) (λ z. z ≡ y)
      refl (end_is k code)
      (record {
        registers = registers_after code x (at k);
        steps = length code;
        walks = subst (λ (fs : List Effect). Trace n.environment (length code) (r.config x (at k)) (seen_effects fs)
            (r.config (registers_after code x (at k)) (at (k + length code)))) run.sees walk;
        short = omega arith;
        are = run.leaves;
      })

  -- after a mark of its own
  pub mark_part : (k : ℕ) (rest : List CodeItem) → IsPart all k (MarkNext ∷ rest) → IsPart all (k + 1) rest
  mark_part k rest p = part_right all k (MarkNext ∷ []) rest p

  pub mark_waits_there : (k : ℕ) (rest : List CodeItem) (p : IsPart all k (MarkNext ∷ rest)) → mark_waits false (mark_part k rest p).before ≡ true
  unfolding mark_part
  mark_waits_there k rest p = waits_right all k (MarkNext ∷ []) rest p

  pub marked_leg : (k : ℕ) (i : Instr) (is : List Instr) (p : IsPart all k (MarkNext ∷ plain (i ∷ is))) (x y : List ℕ) (es : List Effect) →
      s.RunsFrom (i ∷ is) x (at k) es y → AreMemory es →
      GoesThrough n.environment (fragment x (at k) (at (k + length (MarkNext ∷ plain (i ∷ is)))) (length (i ∷ is))) (Mark ∷ seen_effects es) (λ z. z ≡ y)
  marked_leg k i is p x y es run memory =
      let q : IsPart all (k + 1) (plain (i ∷ is)) = mark_part k (plain (i ∷ is)) p in
      let here : at (k + 1) ≡ at k = stays_at all n k MarkNext (plain (i ∷ is)) p refl in
      let e : k + 1 + length (plain (i ∷ is)) ≡ k + length (MarkNext ∷ plain (i ∷ is)) = omega arith in
      moved n.environment x (at (k + 1)) (at k) (at (k + 1 + length (plain (i ∷ is)))) (at (k + length (MarkNext ∷ plain (i ∷ is)))) (length (i ∷ is))
      (Mark ∷ seen_effects es) (λ z. z ≡ y) here (ap at e)
      (straight_leg (k + 1) i is q x y es true (mark_waits_there k (plain (i ∷ is)) p) (subst (λ (a : ℕ). s.RunsFrom (i ∷ is) x a es y) (sym here) run) memory)
