-- Runs of straight-line code, put together from those of its parts.
use Rattle.std.proofs.Common.{◌≡◌, ℕ, ◌+◌, ◌*◌, List, [], ◌∷◌, ◌++◌, length, refl, ap, sym, ◌∙◌, arith, eq-eqb, append_assoc}
use Rattle.std.specs.Prelude.{slice_set}
use Rattle.rv64_isa.specs.declared.instr.Instr.{Instr}
use Rattle.rv64_isa.specs.Rows.{Effect, Continues, Stores, Cleans, Fences, row, read, next}
use Rattle.operator_code.specs.StraightLineCode.{seen, left_by, effects, registers_after, IsConstant}

-- what is seen of the code from registers x at the address, and the registers after it
pub record RunsFrom (code : List Instr) (x : List ℕ) (pc : ℕ) (es : List Effect) (y : List ℕ) : Type 0 where
  pub sees : effects code x pc ≡ es
  pub leaves : registers_after code x pc ≡ y

pub stop : (x : List ℕ) (pc : ℕ) → RunsFrom [] x pc [] x
stop x pc = record { sees = refl; leaves = refl }

seen_next : (y : List ℕ) (pc : ℕ) → seen pc (Continues y (next pc)) ≡ []
seen_next y pc = rw (eq-eqb (next pc) (next pc) refl) refl

-- an instruction before code
pub go : (i : Instr) (is : List Instr) (x y : List ℕ) (pc : ℕ) (fs : List Effect) (z : List ℕ) → row i x pc ≡ Continues y (next pc) →
    RunsFrom is y (pc + 4) fs z → RunsFrom (i ∷ is) x pc fs z
go i is x y pc fs z e more = record {
  sees =
      ap (λ (f : Effect). seen pc f ++ effects is (left_by x f) (pc + 4)) e ∙
      ap (λ (es : List Effect). es ++ effects is y (pc + 4)) (seen_next y pc) ∙ more.sees;
  leaves = ap (λ (f : Effect). registers_after is (left_by x f) (pc + 4)) e ∙ more.leaves;
}

pub store : (i : Instr) (is : List Instr) (x : List ℕ) (pc address bytes value : ℕ) (fs : List Effect) (z : List ℕ) →
    row i x pc ≡ Stores address bytes value → RunsFrom is x (pc + 4) fs z →
    RunsFrom (i ∷ is) x pc (Stores address bytes value ∷ fs) z
store i is x pc address bytes value fs z e more = record {
  sees = ap (λ (f : Effect). seen pc f ++ effects is (left_by x f) (pc + 4)) e ∙ ap (λ (es : List Effect). Stores address bytes value ∷ es) more.sees;
  leaves = ap (λ (f : Effect). registers_after is (left_by x f) (pc + 4)) e ∙ more.leaves;
}

pub clean : (i : Instr) (is : List Instr) (x : List ℕ) (pc address : ℕ) (fs : List Effect) (z : List ℕ) → row i x pc ≡ Cleans address →
    RunsFrom is x (pc + 4) fs z → RunsFrom (i ∷ is) x pc (Cleans address ∷ fs) z
clean i is x pc address fs z e more = record {
  sees = ap (λ (f : Effect). seen pc f ++ effects is (left_by x f) (pc + 4)) e ∙ ap (λ (es : List Effect). Cleans address ∷ es) more.sees;
  leaves = ap (λ (f : Effect). registers_after is (left_by x f) (pc + 4)) e ∙ more.leaves;
}

pub fence : (i : Instr) (is : List Instr) (x : List ℕ) (pc : ℕ) (fs : List Effect) (z : List ℕ) → row i x pc ≡ Fences → RunsFrom is x (pc + 4) fs z →
    RunsFrom (i ∷ is) x pc (Fences ∷ fs) z
fence i is x pc fs z e more = record {
  sees = ap (λ (f : Effect). seen pc f ++ effects is (left_by x f) (pc + 4)) e ∙ ap (λ (es : List Effect). Fences ∷ es) more.sees;
  leaves = ap (λ (f : Effect). registers_after is (left_by x f) (pc + 4)) e ∙ more.leaves;
}

effects-append : (a b : List Instr) (x : List ℕ) (pc : ℕ) → effects (a ++ b) x pc ≡ effects a x pc ++ effects b (registers_after a x pc) (pc + 4 * length a)
effects-append [] b x pc = ap (λ (n : ℕ). effects b x n) (let e : pc ≡ pc + 4 * 0 = omega arith in e)
effects-append (i ∷ a) b x pc =
    let x' : List ℕ = left_by x (row i x pc) in
    let first : List Effect = seen pc (row i x pc) in
    ap (λ (es : List Effect). first ++ es) (effects-append a b x' (pc + 4)) ∙
    ap (λ (n : ℕ). first ++ (effects a x' (pc + 4) ++ effects b (registers_after a x' (pc + 4)) n))
    (let e : pc + 4 + 4 * length a ≡ pc + 4 * length (i ∷ a) = omega arith in e) ∙
    sym (append_assoc first (effects a x' (pc + 4)) (effects b (registers_after a x' (pc + 4)) (pc + 4 * length (i ∷ a))))

registers-append : (a b : List Instr) (x : List ℕ) (pc : ℕ) → registers_after (a ++ b) x pc ≡ registers_after b (registers_after a x pc) (pc + 4 * length a)
registers-append [] b x pc = ap (λ (n : ℕ). registers_after b x n) (let e : pc ≡ pc + 4 * 0 = omega arith in e)
registers-append (i ∷ a) b x pc =
    let x' : List ℕ = left_by x (row i x pc) in
    registers-append a b x' (pc + 4) ∙ ap (λ (n : ℕ). registers_after b (registers_after a x' (pc + 4)) n)
    (let e : pc + 4 + 4 * length a ≡ pc + 4 * length (i ∷ a) = omega arith in e)

-- code after code
pub along : (a b : List Instr) (x y z : List ℕ) (pc : ℕ) (es fs : List Effect) → RunsFrom a x pc es y → RunsFrom b y (pc + 4 * length a) fs z →
    RunsFrom (a ++ b) x pc (es ++ fs) z
along a b x y z pc es fs first second = record {
  sees =
      effects-append a b x pc ∙
      ap (λ (gs : List Effect). gs ++ effects b (registers_after a x pc) (pc + 4 * length a)) first.sees ∙
      ap (λ (w : List ℕ). es ++ effects b w (pc + 4 * length a)) first.leaves ∙
      ap (λ (gs : List Effect). es ++ gs) second.sees;
  leaves = registers-append a b x pc ∙ ap (λ (w : List ℕ). registers_after b w (pc + 4 * length a)) first.leaves ∙ second.leaves;
}

pub constant_runs : (r value : ℕ) (code : List Instr) (x : List ℕ) (pc : ℕ) → IsConstant r value code → length x ≡ 32 → read x 0 ≡ 0 →
    RunsFrom code x pc [] (slice_set x r value)
constant_runs r value code x pc c l z = record { sees = c.unseen x pc l z; leaves = c.changes x pc l z }
