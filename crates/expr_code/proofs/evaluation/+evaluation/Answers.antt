-- What the recursion owes besides the contracts of the functions that it calls.
use Rattle.std.proofs.Common.{refl, Box, Global, ◌≡◌, ◌+◌, ◌*◌, ◌<◌, ◌≤◌, ◌∙◌, ap, sym, subst, arith, ℕ, List, length, get_or}
use Rattle.std.specs.Prelude.{true}
use Rattle.std.proofs.lemmas.Option.{slice_get-get_or, same_Some}
use Rattle.rv64_isa.specs.declared.instr.Instr.{Instr}
use Rattle.ido_ints.specs.declared.kinds.Kind.{Kind}
use Rattle.ido_ints.specs.declared.kinds.Kind.TheVariants.{UnsignedLong}
use Rattle.ido_ints.specs.declared.operators.Binary.TheVariants.{Add, Sub}
use Rattle.ido_ints.specs.Kinds.{bits_of, rank_of}
use Rattle.c_tree.specs.declared.expr.Expr.{Expr}
use Rattle.c_tree.specs.declared.expr.Expr as raw
use Rattle.c_tree.specs.Exprs as e
use Rattle.c_tree.specs.Exprs.{expr_of}
use Rattle.c_tree.specs.Prices.{nodes_of}
use Rattle.c_tree.specs.Elaboration.{kind_of}
use Rattle.operator_code.specs.declared.operation.BinaryOperation.{BinaryOperation}
use Rattle.operator_code.specs.ComputingCode.{is_comparison, left_kind}
use Rattle.expr_code.specs.declared.home.Home.{Home}
use Rattle.expr_code.specs.declared.home.Home.TheVariants.{InRegister}
use Rattle.expr_code.specs.EvaluationCode.{Homes, homes_of, AreAtHome, home_of, is_home}
use Rattle.expr_code.specs.links.OperandCode.{IsEvaluation, IsOperand, IsMade, IsConstantForm, truth_of, conversion_words, one, reference_operation}
use Rattle.expr_code.proofs.TemporaryNeeds.{need_some}
use Rattle.expr_code.proofs.OperationCode.{comparison_made, skipped_code, kept_value, address_code, again_operand, referent_code}
use Rattle.expr_code.proofs.Words.{wider_rank, some_rank}
use Rattle.expr_code.proofs.evaluation.+evaluation.Goals as goal
use Rattle.expr_code.proofs.evaluation.+evaluation.Goals.{evaluate_converted-in_default-via-in-Converted+else-bits}
use Rattle.expr_code.proofs.evaluation.+evaluation.Goals.{evaluate_converted-in_default-via-in_default}

-- ---- A temporary is free where one is needed

pub evaluate-element_code-requires-clause-held : goal.evaluate-element_code-requires-clause-held
evaluate-element_code-requires-clause-held t c = let some = need_some (expr_of c.args.expr.now) in let need = c.requires.need in omega arith

pub operand-held_operand-requires : goal.operand-held_operand-requires
operand-held_operand-requires t c = let some = need_some (expr_of c.args.expr.now) in let need = c.requires.need in omega arith

pub operand_in-converted-requires : goal.operand_in-converted-requires
operand_in-converted-requires t c = let some = need_some (expr_of c.args.expr.now) in let need = c.requires.need in omega arith

-- ---- A comparison's value is its truth

pub evaluate_truth-returns-in_ok-code-in-Binary-clause-code : goal.evaluate_truth-returns-in_ok-code-in-Binary-clause-code
evaluate_truth-returns-in_ok-code-in-Binary-clause-code t c =
    let w = c.in-Binary in
    let h = homes_of c.args.frame.now in
    let code : List Instr = c.in_ok-code-in-Binary.code.items in
    let x = expr_of w.left.value in
    let y = expr_of w.right.value in
    let seen : expr_of c.args.expr.now ≡ e.Binary w.operator x y = ap expr_of w.is in
    let compares : is_comparison w.operator ≡ true = sym c.is_comparison.ensures ∙ c.if-is_comparison.true in
    let g : IsEvaluation h (expr_of c.args.expr.now) c.args.held c.args.rd code = c.in_ok-code-in-Binary.ensures.code in
    subst (λ (z : e.Expr). IsMade h z truth_of c.args.held c.args.rd code) (sym seen)
    (comparison_made h w.operator x y c.args.held c.args.rd code compares
    (subst (λ (z : e.Expr). IsEvaluation h z c.args.held c.args.rd code) seen g))

-- ---- Locals

-- the home of a local that has one
record IsHome (h : Homes) (local : ℕ) (it : Home) : Type 0 where
  is : home_of h.locals local ≡ it
  home : is_home it ≡ true

has_home : (h : Homes) (local : ℕ) (d : Home) → (local < length h.locals) × (is_home (home_of h.locals local) ≡ true) →
    IsHome h local (get_or h.locals local d)
has_home h local d home =
    let at : home_of h.locals local ≡ get_or h.locals local d =
    same_Some (home_of h.locals local) (get_or h.locals local d)
    (sym (slice_get-get_or h.locals local (InRegister 0) home.0) ∙ slice_get-get_or h.locals local d home.0) in
    record { is = at; home = ap is_home (sym at) ∙ home.1 }

pub evaluate-returns-in_ok-local_code-in-Local-clause-code : goal.evaluate-returns-in_ok-local_code-in-Local-clause-code
evaluate-returns-in_ok-local_code-in-Local-clause-code t c =
    let w = c.in-Local in
    let h = homes_of c.args.frame.now in
    let code : List Instr = c.in_ok-local_code-in-Local.field-0.items in
    let seen : expr_of c.args.expr.now ≡ e.Local w.local w.kind = ap expr_of w.is in
    let home : AreAtHome h (e.Local w.local w.kind) = subst (λ (z : e.Expr). AreAtHome h z) seen c.requires.home in
    let it = has_home h w.local c.index-frame-local.result home in
    subst (λ (z : e.Expr). IsEvaluation h z c.args.held c.args.rd code) (sym seen)
    (c.in_ok-local_code-in-Local.ensures.code h w.local w.kind c.args.held it.is it.home)

pub operand-returns-in_ok-local-in-Local-clause-operand : goal.operand-returns-in_ok-local-in-Local-clause-operand
operand-returns-in_ok-local-in-Local-clause-operand t c =
    let w = c.in-Local in
    let h = homes_of c.args.frame.now in
    let local = c.in_ok-local-in-Local.local in
    let seen : expr_of c.args.expr.now ≡ e.Local w.local w.kind = ap expr_of w.is in
    let home : AreAtHome h (e.Local w.local w.kind) = subst (λ (z : e.Expr). AreAtHome h z) seen c.requires.home in
    let it = has_home h w.local c.index-frame-local.result home in
    subst (λ (z : e.Expr). IsOperand h z c.args.held local.register local.code.items) (sym seen)
    (c.in_ok-local-in-Local.ensures.operand h w.local w.kind it.is it.home)

-- ---- References

pub evaluate-returns-in_ok-with_immediate-in-Address-clause-code : goal.evaluate-returns-in_ok-with_immediate-in-Address-clause-code
evaluate-returns-in_ok-with_immediate-in-Address-clause-code t c =
    let w = c.in-Address in
    let h = homes_of c.args.frame.now in
    let code : List Instr = c.in_ok-with_immediate-in-Address.field-0.items in
    let x = expr_of w.index.value in
    let seen : expr_of c.args.expr.now ≡ e.Address w.variable w.index_place x = ap expr_of w.is in
    let index = c.in_ok-index-in-Address.index in
    let operand : IsOperand h (e.Converted UnsignedLong x) c.args.held index.register index.code.items =
    subst (λ (z : Expr). IsOperand h (e.Converted UnsignedLong (expr_of z)) c.args.held index.register index.code.items) c.deref-in-Address.ensures
    c.in_ok-index-in-Address.ensures.operand in
    subst (λ (z : e.Expr). IsEvaluation h z c.args.held c.args.rd code) (sym seen)
    (address_code h w.variable w.index_place x c.args.held c.args.rd code
    (c.in_ok-with_immediate-in-Address.ensures.code (reference_operation Add) h (e.Converted UnsignedLong x) one c.args.held refl refl c.one_more.ensures
    (again_operand h (e.Converted UnsignedLong x) c.args.held index.register index.code.items refl operand)))

pub evaluate-returns-in_ok-with_immediate-in-Referent-clause-code : goal.evaluate-returns-in_ok-with_immediate-in-Referent-clause-code
evaluate-returns-in_ok-with_immediate-in-Referent-clause-code t c =
    let w = c.in-Referent in
    let h = homes_of c.args.frame.now in
    let code : List Instr = c.in_ok-with_immediate-in-Referent.field-0.items in
    let own : e.Expr = e.Local w.local UnsignedLong in
    let seen : expr_of c.args.expr.now ≡ e.Referent w.place w.last w.local = ap expr_of w.is in
    let home : AreAtHome h (e.Referent w.place w.last w.local) = subst (λ (z : e.Expr). AreAtHome h z) seen c.requires.home in
    let it = has_home h w.local c.index-frame-local-in-Referent.result home in
    let local = c.in_ok-local-in-Referent.local in
    let operand : IsOperand h own c.args.held local.register local.code.items =
    c.in_ok-local-in-Referent.ensures.operand h w.local UnsignedLong it.is it.home in
    subst (λ (z : e.Expr). IsEvaluation h z c.args.held c.args.rd code) (sym seen)
    (referent_code h w.place w.last w.local c.args.held c.args.rd code
    (c.in_ok-with_immediate-in-Referent.ensures.code (reference_operation Sub) h own one c.args.held refl refl c.one_less.ensures
    (again_operand h own c.args.held local.register local.code.items refl operand)))

-- ---- Conversions

pub evaluate_converted-returns-in_ok-code-in-Converted-clause-code : goal.evaluate_converted-returns-in_ok-code-in-Converted-clause-code
evaluate_converted-returns-in_ok-code-in-Converted-clause-code t c =
    let w = c.in-Converted in
    let h = homes_of c.args.frame.now in
    let code : List Instr = c.in_ok-code-in-Converted.code.items in
    let x = expr_of w.inner.value in
    let seen : expr_of c.args.expr.now ≡ e.Converted w.between x = ap expr_of w.is in
    let narrow : bits_of c.args.kind ≤ bits_of w.between = omega arith in
    let passed : c.deref.result.now ≡ w.inner.value = c.deref.ensures in
    let g : IsEvaluation h (e.Converted c.args.kind x) c.args.held c.args.rd code =
    subst (λ (z : Expr). IsEvaluation h (e.Converted c.args.kind (expr_of z)) c.args.held c.args.rd code) passed c.in_ok-code-in-Converted.ensures.code in
    subst (λ (z : e.Expr). IsEvaluation h (e.Converted c.args.kind z) c.args.held c.args.rd code) (sym seen)
    (skipped_code h w.between c.args.kind x c.args.held c.args.rd code narrow g)

pub evaluate_converted-returns-in_ok-code-in_default-clause-code : goal.evaluate_converted-returns-in_ok-code-in_default-clause-code
evaluate_converted-returns-in_ok-code-in_default-clause-code t c =
    kept_value c.kind-from.result c.args.kind c.args.rd c.in_ok-code-in_default.code.items (c.keeps_form.ensures.0 c.if-keeps_form.true)
    (homes_of c.args.frame.now) (expr_of c.args.expr.now) c.args.held (sym c.kind-from.ensures) c.in_ok-code-in_default.ensures.code

-- what isn't a conversion has no words of one
unconverted : (x : Expr) → ((kind : Kind) (operand : Box Expr Global) → x ≡ raw.Converted kind operand → ⊥) → conversion_words (expr_of x) ≡ 0
unconverted (raw.Constant value) h = refl
unconverted (raw.Local local kind) h = refl
unconverted (raw.Variable place variable kind) h = refl
unconverted (raw.Element' place variable kind index_place b index) h = refl
unconverted (raw.Address' variable index_place b index) h = refl
unconverted (raw.Referent place last local) h = refl
unconverted (raw.Unary' operator b operand) h = refl
unconverted (raw.Cast' kind b operand) h = refl
unconverted (raw.Converted' kind b operand) h = absurd (h kind _ refl)
unconverted (raw.Binary' operator b left d right) h = refl
unconverted (raw.Conditional' kind b condition d chosen f otherwise) h = refl

pub evaluate_converted-returns-in_ok-code-in_default-clause-short : goal.evaluate_converted-returns-in_ok-code-in_default-clause-short
evaluate_converted-returns-in_ok-code-in_default-clause-short t c =
    let some = some_rank c.args.kind in
    let wider : conversion_words (expr_of c.args.expr.now) + 2 ≤ 2 * rank_of c.args.kind = elim c.in_default.branch [
      | evaluate_converted-in_default-via-in-Converted+else-bits w ↦
          let less : bits_of w.in-Converted.between < bits_of c.args.kind = omega arith in
          let rank = wider_rank w.in-Converted.between c.args.kind less in
          subst (λ (x : Expr). conversion_words (expr_of x) + 2 ≤ 2 * rank_of c.args.kind) (sym w.in-Converted.is)
          (let e : 2 * rank_of w.in-Converted.between + 2 ≤ 2 * rank_of c.args.kind = omega arith in e)
      | evaluate_converted-in_default-via-in_default w ↦
          let none = unconverted c.args.expr.now w.in_default.not-Converted in
          omega (arith, none, some)
    ] in
    let before = c.in_ok-code-in_default.ensures.short in
    omega arith

pub evaluate_converted-returns-in_ok-with_conversion-in_default-clause-short : goal.evaluate_converted-returns-in_ok-with_conversion-in_default-clause-short
evaluate_converted-returns-in_ok-with_conversion-in_default-clause-short t c =
    let some = some_rank c.args.kind in
    let wider : conversion_words (expr_of c.args.expr.now) + 2 ≤ 2 * rank_of c.args.kind = elim c.in_default.branch [
      | evaluate_converted-in_default-via-in-Converted+else-bits w ↦
          let less : bits_of w.in-Converted.between < bits_of c.args.kind = omega arith in
          let rank = wider_rank w.in-Converted.between c.args.kind less in
          subst (λ (x : Expr). conversion_words (expr_of x) + 2 ≤ 2 * rank_of c.args.kind) (sym w.in-Converted.is)
          (let e : 2 * rank_of w.in-Converted.between + 2 ≤ 2 * rank_of c.args.kind = omega arith in e)
      | evaluate_converted-in_default-via-in_default w ↦
          let none = unconverted c.args.expr.now w.in_default.not-Converted in
          omega (arith, none, some)
    ] in
    let before = c.in_ok-inner-in_default.ensures.short in
    let more = c.in_ok-with_conversion-in_default.ensures.short in
    omega arith

-- ---- A constant operand

pub evaluate-returns-in_ok-with_immediate-in_default-clause-code : goal.evaluate-returns-in_ok-with_immediate-in_default-clause-code
evaluate-returns-in_ok-with_immediate-in_default-clause-code t c =
    let w = c.in-Binary in
    let h = homes_of c.args.frame.now in
    let code : List Instr = c.in_ok-with_immediate-in_default.field-0.items in
    let x = expr_of w.left.value in
    let y = expr_of w.right.value in
    let o : BinaryOperation = record { operator = w.operator; left = c.kind.result; right = c.kind-in_default.result } in
    let seen : expr_of c.args.expr.now ≡ e.Binary w.operator x y = ap expr_of w.is in
    let kx : kind_of x ≡ o.left = sym (c.kind.ensures ∙ ap (λ (z : Expr). kind_of (expr_of z)) c.deref-in_default.ensures) in
    let ky : kind_of y ≡ o.right = sym (c.kind-in_default.ensures ∙ ap (λ (z : Expr). kind_of (expr_of z)) c.deref-in_default-2.ensures) in
    let form : IsConstantForm o y c.in-Some.form =
    subst (λ (z : Expr). IsConstantForm o (expr_of z) c.in-Some.form) c.deref-in_default-3.ensures c.in-Some.ensures in
    let left = c.in_ok-left-in_default.left in
    let operand : IsOperand h (e.Converted (left_kind o) x) c.args.held left.register left.code.items =
    subst (λ (k : Kind). IsOperand h (e.Converted k x) c.args.held left.register left.code.items) c.left_kind.ensures
    (subst (λ (z : Expr). IsOperand h (e.Converted c.left_kind.result (expr_of z)) c.args.held left.register left.code.items) c.deref-in-Some.ensures
    c.in_ok-left-in_default.ensures.operand) in
    subst (λ (z : e.Expr). IsEvaluation h z c.args.held c.args.rd code) (sym seen)
    (c.in_ok-with_immediate-in_default.ensures.code o h x y c.args.held kx ky form operand)

pub evaluate-returns-in_ok-with_immediate-in_default-clause-short : goal.evaluate-returns-in_ok-with_immediate-in_default-clause-short
evaluate-returns-in_ok-with_immediate-in_default-clause-short t c =
    let w = c.in-Binary in
    let code : List Instr = c.in_ok-with_immediate-in_default.field-0.items in
    let x = expr_of w.left.value in
    let y = expr_of w.right.value in
    let left = c.in_ok-left-in_default.left in
    let before : length left.code.items ≤ 16 * nodes_of x + 2 =
    subst (λ (z : Expr). length left.code.items ≤ 16 * nodes_of (expr_of z) + 2) c.deref-in-Some.ensures c.in_ok-left-in_default.ensures.short in
    let more = c.in_ok-with_immediate-in_default.ensures.short in
    let few : length code + 8 ≤ 16 * (1 + nodes_of x + nodes_of y) + 0 = omega arith in
    let seen : expr_of c.args.expr.now ≡ e.Binary w.operator x y = ap expr_of w.is in
    subst (λ (z : e.Expr). length code + 8 ≤ 16 * nodes_of z + conversion_words z) (sym seen) few
