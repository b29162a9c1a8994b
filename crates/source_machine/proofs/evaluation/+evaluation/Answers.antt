-- A number is put together from its low bits, and an operator makes of low bits those of its result.
use Rattle.std.proofs.Common.{◌≡◌, refl, ◌∙◌, sym, ap, cond, ⊎_elim}
use Rattle.std.specs.Prelude.{slice_index_or, pos}
use Rattle.c_tree.specs.declared.expr.Expr.{Expr}
use Rattle.c_tree.specs.Exprs.{expr_of}
use Rattle.c_tree.specs.Values.{value, reference_to}
use Rattle.ido_ints.specs.declared.kinds.Kind.TheVariants.{UnsignedLong}
use Rattle.ido_ints.specs.declared.operators.Binary.TheVariants.{Add, Sub}
use Rattle.ido_ints.specs.Operators.{is_zero, unary_of, binary_of}
use Rattle.ido_ints.specs.Reduction.{residue}
use Rattle.ido_ints.specs.TypedNumbers.{Typed, typed, converted}
use Rattle.source_machine.proofs.LowBits.{whole_unary, whole_binary, whole_converted, unary_low, converted_low, binary_low, low_left}
use Rattle.source_machine.proofs.evaluation.+evaluation.Goals as goal

pub evaluate-returns-in-Address : goal.evaluate-returns-in-Address
evaluate-returns-in-Address t c =
    let V : Expr → Typed = λ x. value c.args.locals.now c.args.variables.now (expr_of x) in
    let low = c.address in
    c.value.ensures
    ∙ whole_binary Add (converted (V c.deref-in-Address.result.now) UnsignedLong) (typed UnsignedLong (pos 1)) low.result.kind low.result.bits
    low.ensures.kind low.ensures.bits
    ∙ ap (λ x. reference_to (V x)) c.deref-in-Address.ensures
    ∙ sym (ap V c.in-Address.is)

pub evaluate-returns-in-Referent : goal.evaluate-returns-in-Referent
evaluate-returns-in-Referent t c =
    let V : Expr → Typed = λ x. value c.args.locals.now c.args.variables.now (expr_of x) in
    let low = c.referent in
    c.value-in-Referent.ensures
    ∙ whole_binary Sub (typed UnsignedLong (slice_index_or c.args.locals.now c.in-Referent.local (pos 0))) (typed UnsignedLong (pos 1))
    low.result.kind low.result.bits low.ensures.kind low.ensures.bits
    ∙ sym (ap V c.in-Referent.is)

small_residue : typed UnsignedLong (pos 1) ≡ typed UnsignedLong (pos (residue 64 (pos 1)))
unfolding residue
small_residue = refl

pub address-returns-clause-bits : goal.address-returns-clause-bits
address-returns-clause-bits t c =
    let v = converted (value c.args.locals.now c.args.variables.now (expr_of c.args.index.now)) UnsignedLong in
    let one = typed UnsignedLong (pos 1) in
    let one_is : one ≡ typed UnsignedLong (pos (residue 64 (pos 1))) = small_residue in
    let low = c.converted-index in
    let same = c.binary.ensures ∙ (λ i. binary_of Add (c.number.ensures i) (c.new-one.ensures i))
    ∙ low_left Add v one low.result.kind low.result.bits (λ e. cc) (λ e. cc) low.ensures.kind low.ensures.bits one_is in
    c.of.ensures.bits ∙ ap (λ (r : Typed). residue 64 r.number) same

pub evaluate-returns-in-Unary : goal.evaluate-returns-in-Unary
evaluate-returns-in-Unary t c =
    let V : Expr → Typed = λ x. value c.args.locals.now c.args.variables.now (expr_of x) in
    let op = c.in-Unary.operator in
    let low = c.unary in
    c.value-in-Unary.ensures
    ∙ whole_unary op (V c.deref-in-Unary.result.now) low.result.kind low.result.bits low.ensures.kind low.ensures.bits
    ∙ ap (λ x. unary_of op (V x)) c.deref-in-Unary.ensures
    ∙ sym (ap V c.in-Unary.is)

pub evaluate-returns-in-Binary : goal.evaluate-returns-in-Binary
evaluate-returns-in-Binary t c =
    let V : Expr → Typed = λ x. value c.args.locals.now c.args.variables.now (expr_of x) in
    let op = c.in-Binary.operator in
    let low = c.binary in
    c.value-in-Binary.ensures
    ∙ whole_binary op (V c.deref-in-Binary.result.now) (V c.deref-in-Binary-2.result.now) low.result.kind low.result.bits low.ensures.kind low.ensures.bits
    ∙ (λ i. binary_of op (V (c.deref-in-Binary.ensures i)) (V (c.deref-in-Binary-2.ensures i)))
    ∙ sym (ap V c.in-Binary.is)

pub evaluate-returns-in-Conditional : goal.evaluate-returns-in-Conditional
evaluate-returns-in-Conditional t c =
    let V : Expr → Typed = λ x. value c.args.locals.now c.args.variables.now (expr_of x) in
    let chosen : Expr → Expr → Expr → Typed = λ x y z. cond (is_zero (V x).number) (V z) (V y) in
    let kind = c.in-Conditional.kind in
    let low = c.conditional in
    c.value-in-Conditional.ensures
    ∙ whole_converted (chosen c.deref-in-Conditional.result.now c.deref-in-Conditional-2.result.now c.deref-in-Conditional-3.result.now) kind
    low.result.kind low.result.bits low.ensures.kind low.ensures.bits
    ∙ (λ i. converted (chosen (c.deref-in-Conditional.ensures i) (c.deref-in-Conditional-2.ensures i) (c.deref-in-Conditional-3.ensures i)) kind)
    ∙ sym (ap V c.in-Conditional.is)

pub evaluate-returns-in-Cast : goal.evaluate-returns-in-Cast
evaluate-returns-in-Cast t c =
    let V : Expr → Typed = λ x. value c.args.locals.now c.args.variables.now (expr_of x) in
    let kind = c.in-Cast.kind in
    let low = c.converted in
    c.value-in-Cast.ensures
    ∙ whole_converted (V c.deref-in-Cast.result.now) kind low.result.kind low.result.bits low.ensures.kind low.ensures.bits
    ∙ ap (λ x. converted (V x) kind) c.deref-in-Cast.ensures
    ∙ ⊎_elim (λ is. sym (ap V is)) (λ is. sym (ap V is)) c.in-Cast.is

pub unary-returns-in_default : goal.unary-returns-in_default
unary-returns-in_default t c =
    let v = value c.args.locals.now c.args.variables.now (expr_of c.args.operand.now) in
    let low = c.low_bits-operand in
    let same = c.unary.ensures ∙ ap (unary_of c.args.operator) c.number.ensures
    ∙ unary_low c.args.operator v low.result.kind low.result.bits c.in_default.not-Not low.ensures.kind low.ensures.bits in
    record {
      kind = c.of.ensures.kind ∙ ap (λ (r : Typed). r.kind) same;
      bits = c.of.ensures.bits ∙ ap (λ (r : Typed). residue 64 r.number) same;
    }

pub converted-returns-clause-bits : goal.converted-returns-clause-bits
converted-returns-clause-bits t c =
    let v = value c.args.locals.now c.args.variables.now (expr_of c.args.operand.now) in
    let low = c.low_bits-operand in
    let same = c.convert.ensures ∙ ap (λ (r : Typed). converted r c.args.kind) c.number.ensures
    ∙ converted_low v c.args.kind low.result.kind low.result.bits low.ensures.bits in
    c.of.ensures.bits ∙ ap (λ (r : Typed). residue 64 r.number) same

pub binary-returns-in_default : goal.binary-returns-in_default
binary-returns-in_default t c =
    let op = c.args.operator in
    let v = value c.args.locals.now c.args.variables.now (expr_of c.args.left.now) in
    let w = value c.args.locals.now c.args.variables.now (expr_of c.args.right.now) in
    let l = c.low_bits-left in
    let r = c.low_bits-right in
    let same = c.binary.ensures ∙ (λ i. binary_of op (c.number.ensures i) (c.number-in_default.ensures i))
    ∙ binary_low op v w l.result.kind r.result.kind l.result.bits r.result.bits c.in_default.not-LogicalAnd c.in_default.not-LogicalOr l.ensures.kind
    l.ensures.bits r.ensures.kind r.ensures.bits in
    record {
      kind = c.of.ensures.kind ∙ ap (λ (r : Typed). r.kind) same;
      bits = c.of.ensures.bits ∙ ap (λ (r : Typed). residue 64 r.number) same;
    }
