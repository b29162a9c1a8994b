-- Forward branches and jumps, and choices made of them.
use Rattle.std.proofs.Common.{◌≡◌, ℕ, ◌+◌, ◌*◌, ◌%◌, ◌^◌, ◌<◌, List, [], ◌∷◌, ◌++◌, length, refl, ap, sym, ◌∙◌, arith, subst, Bool, true, false, Some}
use Rattle.std.proofs.Common.{length-append}
use Rattle.std.specs.Prelude.{not, nat_le, if◌then◌else◌, ◌==◌, ◌||◌}
use Rattle.std.proofs.lemmas.Bool.Decides.{nat_tests}
use Rattle.std.proofs.Math.Nat.{mod-eq_of_lt}
use Rattle.ido_ints.specs.Operators.{is_zero}
use Rattle.c_tree.specs.Exprs as e
use Rattle.c_tree.specs.Values.{value}
use Rattle.rv64_isa.specs.declared.instr.Instr.{Instr}
use Rattle.rv64_isa.specs.declared.instr.Instr.TheVariants.{Jal, Branch}
use Rattle.rv64_isa.specs.Rows.{Continues, row, read, next, displaced}
use Rattle.rv64_isa.specs.Arithmetic.{sign_extended, is_taken}
use Rattle.memory_layout.specs.Roles.{is_local}
use Rattle.operator_code.specs.declared.branches.Test.{Test}
use Rattle.operator_code.specs.ComputingCode.{Carries, passes, IsOpposite}
use Rattle.code_runs.specs.ComputingRuns.{Environment, LocalConfig, config, HasCodeAt}
use Rattle.expr_code.specs.EvaluationCode.{Homes, Source, HoldsLocals, IsLegal, IsEvaluationStart, EvaluationEnds}
use Rattle.expr_code.specs.links.OperandCode.{is_free, IsTest, IsMade, IsChoice, Choice}
use Rattle.expr_code.specs.links.ForwardJumps.{Skips, SkipsWhere, IsGuard, LeadsBy}
use Rattle.expr_code.proofs.RunComposition.{leads_then, arrive, within, goes, next_is, stands_left, stands_right}
use Rattle.expr_code.proofs.PreservedRegisters.{or_right, locals_kept, local_kept}
use Rattle.expr_code.proofs.CodeComposition.{leads_of}

small_jump : (n : ℕ) → n < 2 ^ 20 → sign_extended 21 64 n ≡ n
small_jump n h = let t : nat_le 1048576 n ≡ false = grind (arith, nat_tests) in rw t refl

small_branch : (n : ℕ) → n < 2 ^ 12 → sign_extended 13 64 n ≡ n
small_branch n h = let t : nat_le 4096 n ≡ false = grind (arith, nat_tests) in rw t refl

jumped : (pc n m : ℕ) → m ≡ pc + n → n < 2 ^ 20 → m < 2 ^ 64 → displaced pc 21 n ≡ m
jumped pc n m e h l = ap (λ (k : ℕ). (pc + k) % 2 ^ 64) (small_jump n h) ∙ let r : pc + n < 2 ^ 64 = omega arith in mod-eq_of_lt r ∙ sym e

branched : (pc n m : ℕ) → m ≡ pc + n → n < 2 ^ 12 → m < 2 ^ 64 → displaced pc 13 n ≡ m
branched pc n m e h l = ap (λ (k : ℕ). (pc + k) % 2 ^ 64) (small_branch n h) ∙ let r : pc + n < 2 ^ 64 = omega arith in mod-eq_of_lt r ∙ sym e

pub jump_skips : (words offset : ℕ) → offset ≡ 4 * (words + 1) → words + 1 < 2 ^ 18 → Skips words (Jal 0 offset)
unfolding row
jump_skips words offset e l = record {
  goes = λ x pc room. ap (λ (n : ℕ). Continues x n) (jumped pc offset (pc + 4 * (words + 1)) (omega arith) (omega arith) room);
}

pub branch_skips : (words offset : ℕ) (test : Test) → offset ≡ 4 * (words + 1) → words + 1 < 2 ^ 10 →
    SkipsWhere words test (Branch test.condition test.rs1 test.rs2 offset)
unfolding row
branch_skips words offset test e l = record {
  goes = λ x pc room.
      let b = is_taken test.condition (read x test.rs1) (read x test.rs2) in
      let far : displaced pc 13 offset ≡ pc + 4 * (words + 1) = branched pc offset (pc + 4 * (words + 1)) (omega arith) (omega arith) room in
      let near : next pc ≡ pc + 4 = next_is pc (omega arith) in
      ap (λ (n : ℕ). Continues x (if b then n else next pc)) far ∙ ap (λ (n : ℕ). Continues x (if b then pc + 4 * (words + 1) else n)) near;
}

-- ---- Guards

-- the end of a guard, by whether its test is passed
end_is : (b : Bool) (p q r : ℕ) → p ≡ r → (if b then p else q) ≡ (if b then r else q)
end_is b p q r e = ap (λ (n : ℕ). if b then n else q) e

pub near_guard : (words : ℕ) (test other : Test) (i : Instr) → IsOpposite test other → SkipsWhere words other i → IsGuard words test (i ∷ [])
near_guard words test other i opposite skips = record { leads = leads }
  where
    at : (r : Environment) (x : List ℕ) (pc : ℕ) (b : Bool) → passes test x ≡ b → r.fetch pc ≡ Some i → pc + 4 * (1 + words) < 2 ^ 64 →
        LeadsBy r (config x pc) (config x (if b then pc + 4 * 1 else pc + 4 * (1 + words))) 1
    at r x pc true e f room =
        let taken : passes other x ≡ false = opposite.taken x ∙ ap not e in
        let w : row i x pc ≡ Continues x (pc + 4) =
        skips.goes x pc (omega arith) ∙ ap (λ (b : Bool). Continues x (if b then pc + 4 * (words + 1) else pc + 4)) taken in
        let z : pc + 4 ≡ pc + 4 * 1 = omega arith in
        arrive r (config x pc) x (pc + 4) (pc + 4 * 1) 1 z (goes r i x x pc (pc + 4) f w (omega arith))
    at r x pc false e f room =
        let taken : passes other x ≡ true = opposite.taken x ∙ ap not e in
        let w : row i x pc ≡ Continues x (pc + 4 * (words + 1)) =
        skips.goes x pc (omega arith) ∙ ap (λ (b : Bool). Continues x (if b then pc + 4 * (words + 1) else pc + 4)) taken in
        let z : pc + 4 * (words + 1) ≡ pc + 4 * (1 + words) = omega arith in
        arrive r (config x pc) x (pc + 4 * (words + 1)) (pc + 4 * (1 + words)) 1 z (goes r i x x pc (pc + 4 * (words + 1)) f w (omega arith))

    leads : (r : Environment) (x : List ℕ) (pc : ℕ) → HasCodeAt r pc (i ∷ []) → pc + 4 * (1 + words) < 2 ^ 64 →
        LeadsBy r (config x pc) (config x (if passes test x then pc + 4 * 1 else pc + 4 * (1 + words))) 1
    leads r x pc s room = at r x pc (passes test x) refl s.0 room

pub far_guard : (words : ℕ) (test : Test) (i j : Instr) → SkipsWhere 1 test i → Skips words j → IsGuard words test (i ∷ j ∷ [])
far_guard words test i j over far = record { leads = leads }
  where
    at : (r : Environment) (x : List ℕ) (pc : ℕ) (b : Bool) → passes test x ≡ b → r.fetch pc ≡ Some i → r.fetch (pc + 4) ≡ Some j →
        pc + 4 * (2 + words) < 2 ^ 64 →
        LeadsBy r (config x pc) (config x (if b then pc + 4 * 2 else pc + 4 * (2 + words))) 2
    at r x pc true e f g room =
        let w : row i x pc ≡ Continues x (pc + 4 * (1 + 1)) =
        over.goes x pc (omega arith) ∙ ap (λ (b : Bool). Continues x (if b then pc + 4 * (1 + 1) else pc + 4)) e in
        within r (config x pc) (config x (pc + 4 * 2)) 1 2 (omega arith) (goes r i x x pc (pc + 4 * 2) f w (omega arith))
    at r x pc false e f g room =
        let w : row i x pc ≡ Continues x (pc + 4) =
        over.goes x pc (omega arith) ∙ ap (λ (b : Bool). Continues x (if b then pc + 4 * (1 + 1) else pc + 4)) e in
        let v : row j x (pc + 4) ≡ Continues x (pc + 4 + 4 * (words + 1)) = far.goes x (pc + 4) (omega arith) in
        let z : pc + 4 + 4 * (words + 1) ≡ pc + 4 * (2 + words) = omega arith in
        leads_then r (config x pc) (config x (pc + 4)) (config x (pc + 4 * (2 + words))) 1 1 (goes r i x x pc (pc + 4) f w (omega arith))
        (arrive r (config x (pc + 4)) x (pc + 4 + 4 * (words + 1)) (pc + 4 * (2 + words)) 1 z
        (goes r j x x (pc + 4) (pc + 4 + 4 * (words + 1)) g v (omega arith)))

    leads : (r : Environment) (x : List ℕ) (pc : ℕ) → HasCodeAt r pc (i ∷ j ∷ []) → pc + 4 * (2 + words) < 2 ^ 64 →
        LeadsBy r (config x pc) (config x (if passes test x then pc + 4 * 2 else pc + 4 * (2 + words))) 2
    leads r x pc s room = at r x pc (passes test x) refl s.0 s.1.0 room

-- ---- Choices

-- the parts of a choice stand one after another
record Placed (r : Environment) (t g a : List Instr) (past : Instr) (o : List Instr) (pc : ℕ) : Type 0 where
  test_code : HasCodeAt r pc t
  guard : HasCodeAt r (pc + 4 * length t) g
  chosen : HasCodeAt r (pc + 4 * (length t + length g)) a
  jump : r.fetch (pc + 4 * (length t + length g + length a)) ≡ Some past
  otherwise : HasCodeAt r (pc + 4 * (length t + length g + length a + 1)) o
  count : length ((((t ++ g) ++ a) ++ past ∷ []) ++ o) ≡ length t + length g + length a + 1 + length o

moved : (r : Environment) (code : List Instr) (p q : ℕ) → p ≡ q → HasCodeAt r p code → HasCodeAt r q code
moved r code p q e h = subst (λ (n : ℕ). HasCodeAt r n code) e h

placed : (r : Environment) (t g a : List Instr) (past : Instr) (o : List Instr) (pc : ℕ) → HasCodeAt r pc ((((t ++ g) ++ a) ++ past ∷ []) ++ o) →
    Placed r t g a past o pc
placed r t g a past o pc h =
    let l1 : length (t ++ g) ≡ length t + length g = length-append t g in
    let l2 : length ((t ++ g) ++ a) ≡ length (t ++ g) + length a = length-append (t ++ g) a in
    let l3 : length (((t ++ g) ++ a) ++ past ∷ []) ≡ length ((t ++ g) ++ a) + 1 = length-append ((t ++ g) ++ a) (past ∷ []) in
    let l4 : length ((((t ++ g) ++ a) ++ past ∷ []) ++ o) ≡ length (((t ++ g) ++ a) ++ past ∷ []) + length o = length-append (((t ++ g) ++ a) ++ past ∷ []) o in
    let h3 = stands_left r pc (((t ++ g) ++ a) ++ past ∷ []) o h in
    let h2 = stands_left r pc ((t ++ g) ++ a) (past ∷ []) h3 in
    let h1 = stands_left r pc (t ++ g) a h2 in
    let p = stands_right r pc ((t ++ g) ++ a) (past ∷ []) h3 in
    let e3 : pc + 4 * length ((t ++ g) ++ a) ≡ pc + 4 * (length t + length g + length a) = omega arith in
    record {
      test_code = stands_left r pc t g h1;
      guard = stands_right r pc t g h1;
      chosen = moved r a (pc + 4 * length (t ++ g)) (pc + 4 * (length t + length g)) (omega arith) (stands_right r pc (t ++ g) a h2);
      jump = ap r.fetch (sym e3) ∙ p.0;
      otherwise = moved r o (pc + 4 * length (((t ++ g) ++ a) ++ past ∷ [])) (pc + 4 * (length t + length g + length a + 1)) (omega arith)
          (stands_right r pc (((t ++ g) ++ a) ++ past ∷ []) o h);
      count = omega arith;
    }

pub choice : (h : Homes) (c : Choice) (held rd : ℕ) (test : Test) (t g a : List Instr) (past : Instr) (o : List Instr) →
    IsGuard (length a + 1) test g → Skips (length o) past → IsTest h c.condition held test t →
    IsMade h c.chosen c.from_chosen held rd a → IsMade h c.otherwise c.from_otherwise held rd o →
    IsChoice h c held rd ((((t ++ g) ++ a) ++ past ∷ []) ++ o)
choice h c held rd test t g a past o guards skips tests makes others = record { ends = ends }
  where
    ends : (s : Source) (r : Environment) (m : LocalConfig) → IsLegal h s r c.condition → IsLegal h s r c.chosen → IsLegal h s r c.otherwise →
        IsEvaluationStart h s r c.condition ((((t ++ g) ++ a) ++ past ∷ []) ++ o) m → IsEvaluationStart h s r c.chosen ((((t ++ g) ++ a) ++ past ∷ []) ++ o) m →
        IsEvaluationStart h s r c.otherwise ((((t ++ g) ++ a) ++ past ∷ []) ++ o) m →
        EvaluationEnds r ((((t ++ g) ++ a) ++ past ∷ []) ++ o) (λ n. n == rd || is_free held n)
        (λ y. Carries y rd (if is_zero (value s.locals s.numbers c.condition).number then c.from_otherwise (value s.locals s.numbers c.otherwise)
        else c.from_chosen (value s.locals s.numbers c.chosen))) m
    ends s r m lc la lo bc ba bo = by (is_zero (value s.locals s.numbers c.condition).number) first.has
      where
        place : Placed r t g a past o m.pc
        place = placed r t g a past o m.pc bc.at.stands

        room : m.pc + 4 * (length t + length g + length a + 1 + length o) < 2 ^ 64
        room = let l = bc.at.room in let k = place.count in omega arith

        first : EvaluationEnds r t (is_free held) (λ y. passes test y ≡ not (is_zero (value s.locals s.numbers c.condition).number)) m
        first = let k = room in tests.ends s r m lc
            (record { at = record { registers = bc.at.registers; stands = place.test_code; room = omega arith }; locals = bc.locals })

        same : (n : ℕ) → is_local n ≡ true → read first.registers n ≡ read m.registers n
        same n l = first.unchanged n (local_kept held n l)

        begun : (x : e.Expr) (code : List Instr) (pc : ℕ) → IsLegal h s r x → HoldsLocals h s r.loads m.registers x → HasCodeAt r pc code →
            pc + 4 * length code < 2 ^ 64 →
            IsEvaluationStart h s r x code (config first.registers pc)
        begun x code pc legal locals stands l = record {
          at = record { registers = first.are; stands = stands; room = l };
          locals = locals_kept h s r.loads m.registers first.registers x legal.suits legal.formed same locals;
        }

        test_leads : LeadsBy r m (config first.registers (m.pc + 4 * length t)) (length t)
        test_leads = leads_of r t (is_free held) (λ y. passes test y ≡ not (is_zero (value s.locals s.numbers c.condition).number)) m first

        guarded : LeadsBy r (config first.registers (m.pc + 4 * length t)) (config first.registers
            (if passes test first.registers then m.pc + 4 * length t + 4 * length g else m.pc + 4 * length t + 4 * (length g + (length a + 1)))) (length g)
        guarded = let k = room in guards.leads r first.registers (m.pc + 4 * length t) place.guard (omega arith)

        by : (z : Bool) → passes test first.registers ≡ not z → EvaluationEnds r ((((t ++ g) ++ a) ++ past ∷ []) ++ o) (λ n. n == rd || is_free held n)
            (λ y. Carries y rd (if z then c.from_otherwise (value s.locals s.numbers c.otherwise) else c.from_chosen (value s.locals s.numbers c.chosen))) m
        by false e =
            let k = room in
            let y = first.registers in
            let p1 = m.pc + 4 * length t in
            let p2 = m.pc + 4 * (length t + length g) in
            let p3 = m.pc + 4 * (length t + length g + length a) in
            let p5 = m.pc + 4 * length ((((t ++ g) ++ a) ++ past ∷ []) ++ o) in
            let n = place.count in
            let to : (if passes test y then p1 + 4 * length g else p1 + 4 * (length g + (length a + 1))) ≡ p2 =
            ap (λ (q : Bool). if q then p1 + 4 * length g else p1 + 4 * (length g + (length a + 1))) e ∙ omega arith in
            let more = makes.ends s r (config y p2) la (begun c.chosen a p2 la ba.locals place.chosen (omega arith)) in
            let q : row past more.registers p3 ≡ Continues more.registers (p3 + 4 * (length o + 1)) = skips.goes more.registers p3 (omega arith) in
            let e3 : p2 + 4 * length a ≡ p3 = omega arith in
            let e5 : p3 + 4 * (length o + 1) ≡ p5 = omega arith in
            let last : LeadsBy r (config more.registers p3) (config more.registers p5) 1 =
            arrive r (config more.registers p3) more.registers (p3 + 4 * (length o + 1)) p5 1 e5
            (goes r past more.registers more.registers p3 (p3 + 4 * (length o + 1)) place.jump q (omega arith)) in
            let arm = leads_of r a (λ n. n == rd || is_free held n) (λ q. Carries q rd (c.from_chosen (value s.locals s.numbers c.chosen)))
            (config y p2) more in
            let whole = within r m (config more.registers p5) (length t + (length g + (length a + 1))) (length ((((t ++ g) ++ a) ++ past ∷ []) ++ o))
            (omega arith)
            (leads_then r m (config y p1) (config more.registers p5) (length t) (length g + (length a + 1)) test_leads
            (leads_then r (config y p1) (config y p2) (config more.registers p5) (length g) (length a + 1) (arrive r (config y p1) y
            (if passes test y then p1 + 4 * length g else p1 + 4 * (length g + (length a + 1))) p2 (length g) to guarded)
            (leads_then r (config y p2) (config more.registers p3) (config more.registers p5) (length a) 1
            (arrive r (config y p2) more.registers (p2 + 4 * length a) p3 (length a) e3 arm) last))) in
            record {
              registers = more.registers;
              leads = whole.leads;
              short = whole.short;
              are = more.are;
              unchanged = λ i u. more.unchanged i u ∙ first.unchanged i (or_right (i == rd) (is_free held i) u);
              has = more.has;
            }
        by true e =
            let k = room in
            let y = first.registers in
            let p1 = m.pc + 4 * length t in
            let p4 = m.pc + 4 * (length t + length g + length a + 1) in
            let p5 = m.pc + 4 * length ((((t ++ g) ++ a) ++ past ∷ []) ++ o) in
            let n = place.count in
            let to : (if passes test y then p1 + 4 * length g else p1 + 4 * (length g + (length a + 1))) ≡ p4 =
            ap (λ (q : Bool). if q then p1 + 4 * length g else p1 + 4 * (length g + (length a + 1))) e ∙ omega arith in
            let more = others.ends s r (config y p4) lo (begun c.otherwise o p4 lo bo.locals place.otherwise (omega arith)) in
            let e5 : p4 + 4 * length o ≡ p5 = omega arith in
            let arm = leads_of r o (λ n. n == rd || is_free held n) (λ q. Carries q rd (c.from_otherwise (value s.locals s.numbers c.otherwise)))
            (config y p4) more in
            let whole = within r m (config more.registers p5) (length t + (length g + length o)) (length ((((t ++ g) ++ a) ++ past ∷ []) ++ o)) (omega arith)
            (leads_then r m (config y p1) (config more.registers p5) (length t) (length g + length o) test_leads
            (leads_then r (config y p1) (config y p4) (config more.registers p5) (length g) (length o) (arrive r (config y p1) y
            (if passes test y then p1 + 4 * length g else p1 + 4 * (length g + (length a + 1))) p4 (length g) to guarded)
            (arrive r (config y p4) more.registers (p4 + 4 * length o) p5 (length o) e5 arm))) in
            record {
              registers = more.registers;
              leads = whole.leads;
              short = whole.short;
              are = more.are;
              unchanged = λ i u. more.unchanged i u ∙ first.unchanged i (or_right (i == rd) (is_free held i) u);
              has = more.has;
            }
