use Rattle.expr_code.specs.EvaluationCode.{impure_among}
use Rattle.std.proofs.Common.{◌≡◌, ◌^◌, ◌<◌, length, sym, subst, List, arith, lit<, ap}
use Rattle.rv64_isa.specs.declared.instr.Instr.{Instr}
use Rattle.c_tree.specs.Exprs as e
use Rattle.expr_code.specs.links.OperandCode.{IsEvaluation, IsMade, truth_of}
use Rattle.ido_ints.specs.TypedNumbers.{Typed, register_form_of}
use Rattle.expr_code.proofs.ConditionalCode.{conjunction, conjunction_code, number, small_form}
use Rattle.expr_code.proofs.conditions.conjunction.Goals as goal

pub returns-clause-code : goal.returns-clause-code
returns-clause-code c = λ h x y held tests right.
    conjunction_code h x y held c.args.rd c.in_ok-code.code.items (c.in_ok-code.ensures.code h (conjunction x y) held c.args.rd tests
    (subst (λ (code : List Instr). IsMade h y truth_of held c.args.rd code) (sym c.deref.ensures.value) right)
    (subst (λ (code : List Instr). IsEvaluation h (number 0) held c.args.rd code) (sym c.deref-2.ensures.value)
    (subst (λ (v : Typed). IsEvaluation h (e.Constant v) held c.args.rd c.in_ok-zero.zero.items) c.new.ensures (c.in_ok-zero.ensures.code h held))))

pub returns-clause-short : goal.returns-clause-short
returns-clause-short c =
    let small = subst (λ (v : Typed). register_form_of v < 2 ^ 11 → length c.in_ok-zero.zero.items ≡ 1) c.new.ensures c.in_ok-zero.ensures.small in
    let one : length c.in_ok-zero.zero.items ≡ 1 = small (small_form 0 (lit< tt)) in
    let whole = c.in_ok-code.ensures.short in
    let first = c.deref.ensures.len in
    let second = c.deref-2.ensures.len in
    omega arith

pub returns-clause-pure : goal.returns-clause-pure
returns-clause-pure c =
    let whole = c.in_ok-code.ensures.pure in
    let none = c.in_ok-zero.ensures.pure in
    let right = ap impure_among c.deref.ensures.value in
    let last = ap impure_among c.deref-2.ensures.value in
    omega (arith, whole, none, right, last)
