-- Code of evaluations.
use Rattle.std.proofs.Common.{◌≡◌, ℕ, ◌+◌, ◌*◌, List, ◌++◌, length, refl, ap, sym, ◌∙◌, Bool, true, false, ◌==◌, ◌||◌, subst, lit<}
use Rattle.ido_base.specs.declared.place.Place.{Place}
use Rattle.ido_ints.specs.declared.kinds.Kind.{Kind}
use Rattle.ido_ints.specs.TypedNumbers.{converted}
use Rattle.c_tree.specs.Exprs as e
use Rattle.c_tree.specs.Values.{value, element_at}
use Rattle.rv64_isa.specs.declared.instr.Instr.{Instr}
use Rattle.rv64_isa.specs.Rows.{read}
use Rattle.memory_layout.specs.Roles.{is_temporary, is_local}
use Rattle.operator_code.specs.ComputingCode.{Carries}
use Rattle.operator_code.proofs.Public.{equal_by}
use Rattle.code_runs.specs.ComputingRuns.{Environment, LocalConfig, config}
use Rattle.expr_code.specs.EvaluationCode.{Homes, Source, HasCodeThere, EvaluationEnds, IsEvaluationStart, home_of}
use Rattle.expr_code.specs.EvaluationCode.{IsConvertedCode, IsVariableAddressCode, IsElementAddressCode, place_of}
use Rattle.expr_code.proofs.Public.{computed, stands_right, wider, then_ends, at_left, room_right, or_left, or_right, local_kept, locals_kept, free_first}
use Rattle.rv64_codegen.specs.Evaluations.{HasSet, MayEvaluate, is_in}
use Rattle.rv64_codegen.specs.links.Targets.{IsTargetCode}
use Rattle.expr_code.specs.declared.home.Home.{Home}
use Rattle.expr_code.specs.declared.home.Home.TheVariants.{InRegister, InFrame}
use Rattle.operator_code.specs.StraightLineCode.{IsConstant}

-- ---- Registers that are kept

-- the registers of a store's address and value, and the temporaries
abbrev pub spare : ℕ → Bool
spare n = n == 29 || (n == 28 || is_temporary n)

pub local_spare : (n : ℕ) → is_local n ≡ true → spare n ≡ false
local_spare n h =
    let e : (n == 29) ≡ false = other n 29 refl h in
    let f : (n == 28) ≡ false = other n 28 refl h in
    let g : is_temporary n ≡ false = sym (free_first n) ∙ local_kept 0 n h in
    ap (λ (b : Bool). b || (n == 28 || is_temporary n)) e ∙ ap (λ (b : Bool). b || is_temporary n) f ∙ g
  where
    other : (n t : ℕ) → is_local t ≡ false → is_local n ≡ true → (n == t) ≡ false
    other n t not_it it = by (n == t) refl
      where
        by : (b : Bool) → (n == t) ≡ b → (n == t) ≡ false
        by false e = e
        by true e = let same : is_local n ≡ is_local t = ap is_local (equal_by n t e) in absurd (let z : ⊥ = cc (same, it, not_it) in z)

spare_first : (n : ℕ) → spare n ≡ false → (n == 28 || is_temporary n) ≡ false
spare_first n h = or_right (n == 29) (n == 28 || is_temporary n) h

regrouped : (n : ℕ) → ((n == 29 || n == 28) || is_temporary n) ≡ false → spare n ≡ false
regrouped n h = by (n == 29) (n == 28) h
  where
    by : (b c : Bool) → ((b || c) || is_temporary n) ≡ false → (b || (c || is_temporary n)) ≡ false
    by true c off = off
    by false c off = off

spare_second : (n : ℕ) → spare n ≡ false → (n == 29 || is_temporary n) ≡ false
spare_second n h =
    let e : (n == 29) ≡ false = or_left (n == 29) (n == 28 || is_temporary n) h in
    let f : is_temporary n ≡ false = or_right (n == 28) (is_temporary n) (spare_first n h) in
    ap (λ (b : Bool). b || is_temporary n) e ∙ f

-- ---- Codes

-- a local's register gets it
pub local_target : (h : Homes) (place : Place) (local register : ℕ) (k : Kind) (t : e.Expr) (code : List Instr) → home_of h.locals local ≡ InRegister register →
    IsConvertedCode h t k register code → IsTargetCode h (e.ToLocal place local k) t code
local_target h place local register k t code is c = record {
  ends = λ s r m at reach may.
      let v = converted (value s.locals s.numbers t) k in
      subst (λ (home : Home). EvaluationEnds r code (λ n. is_in home n || is_temporary n) (λ y. HasSet y home v) m) (sym is)
      (c.ends s r m may.legal (record { at = at; locals = may.locals }));
}

-- the value's code after that of the address
module _ (h : Homes) (t : e.Expr) (k : Kind) (a b : List Instr) (c : IsConvertedCode h t k 29 b) where
  -- x28 keeps what it has
  valued : (s : Source) (r : Environment) (m : LocalConfig) (place : ℕ) → HasCodeThere r (a ++ b) m → MayEvaluate h s r m.registers t →
      EvaluationEnds r a (λ n. n == 28 || is_temporary n) (λ y. read y 28 ≡ place) m →
      EvaluationEnds r (a ++ b) spare (λ y. (read y 28 ≡ place) × Carries y 29 (converted (value s.locals s.numbers t) k)) m
  valued s r m place at may first =
      then_ends r a b spare (λ y. read y 28 ≡ place) (λ y. (read y 28 ≡ place) × Carries y 29 (converted (value s.locals s.numbers t) k)) m
      (wider r a (λ n. n == 28 || is_temporary n) spare (λ y. read y 28 ≡ place) m spare_first first)
      (λ y are same p.
      let n : LocalConfig = config y (m.pc + 4 * length a) in
      let begins : IsEvaluationStart h s r t b n = record {
        at = record { registers = are; stands = stands_right r m.pc a b at.stands; room = room_right r a b m at };
        locals = locals_kept h s r.loads m.registers y t may.legal.suits may.legal.formed (λ j l. same j (local_spare j l)) may.locals;
      } in
      let second : EvaluationEnds r b (λ j. j == 29 || is_temporary j) (λ z. Carries z 29 (converted (value s.locals s.numbers t) k)) n =
      c.ends s r n may.legal begins in
      record {
        registers = second.registers;
        leads = second.leads;
        short = second.short;
        are = second.are;
        unchanged = λ j l. second.unchanged j (spare_second j l);
        has = (second.unchanged 28 refl ∙ p, second.has);
      })

  -- a local that stands in a word of memory, whose address is a constant
  pub framed_target : (place : Place) (local address : ℕ) → home_of h.locals local ≡ InFrame address → IsConstant 28 address a →
      IsTargetCode h (e.ToLocal place local k) t (a ++ b)
  framed_target place local address is constant = record {
    ends = λ s r m at reach may.
        let v = converted (value s.locals s.numbers t) k in
        let here : HasCodeThere r a m = at_left r a b m at in
        let first : EvaluationEnds r a (λ n. n == 28 || is_temporary n) (λ y. read y 28 ≡ address) m =
        computed r a is_temporary 28 address (λ y. read y 28 ≡ address) m (lit< tt) (lit< tt) here.registers
        (record {
          unseen = λ pc. constant.unseen m.registers pc here.registers.count here.registers.zero_is;
          changes = λ pc. constant.changes m.registers pc here.registers.count here.registers.zero_is;
        })
        here.stands here.room (λ y _ now _. now) in
        let ends : EvaluationEnds r (a ++ b) spare (λ y. (read y 28 ≡ address) × Carries y 29 v) m = valued s r m address at may first in
        subst (λ (home : Home). EvaluationEnds r (a ++ b) (λ n. is_in home n || is_temporary n) (λ y. HasSet y home v) m) (sym is) (record {
          registers = ends.registers;
          leads = ends.leads;
          short = ends.short;
          are = ends.are;
          unchanged = λ n off. ends.unchanged n (regrouped n off);
          has = ends.has;
        });
  }

  pub variable_target : (place : Place) (variable : ℕ) → IsVariableAddressCode h variable 28 a → IsTargetCode h (e.ToVariable place variable k) t (a ++ b)
  variable_target place variable v = record {
    ends = λ s r m at reach may.
        valued s r m (place_of s variable 0) at may (v.ends s r m may.legal.suits reach (at_left r a b m at));
  }

  pub element_target : (place : Place) (variable : ℕ) (index : e.Placed) → IsElementAddressCode h variable k index 28 a →
      IsTargetCode h (e.ToElement place variable k index) t (a ++ b)
  element_target place variable index v = record {
    ends = λ s r m at reach may.
        valued s r m (place_of s variable (element_at (value s.locals s.numbers index.expr))) at may
        (v.ends s r m reach.0 reach.1 reach.2.legal (record { at = at_left r a b m at; locals = reach.2.locals }));
  }
