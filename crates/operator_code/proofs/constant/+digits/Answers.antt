use Rattle.std.proofs.Common.{rules, ◌<◌, ◌%◌, ◌^◌, List, [], ◌∷◌, subst, ap, sym, ◌∙◌, arith}
use Rattle.std.proofs.lemmas.Result.{IfOk-weaker}
use Rattle.rv64_isa.specs.declared.instr.Instr.{Instr}
use Rattle.operator_code.specs.links.Digits.{IsConstantOfBits}
use Rattle.operator_code.specs.links.InstructionLists.{word_code}
use Rattle.operator_code.proofs.ConstantSteps.{addi_digits, word_digits, word_is, far, more_digits, word_below}
use Rattle.operator_code.proofs.constant.+digits.Goals as goal

pub returns-then-is_near-clause-code : goal.returns-then-is_near-clause-code
returns-then-is_near-clause-code t c =
    subst (λ (is : List Instr). IsConstantOfBits c.args.rd c.args.bits c.args.number is)
    (sym (c.in_ok-vec.ensures.items ∙ ap (λ (i : Instr). i ∷ []) c.immediate-addi.ensures))
    (addi_digits c.args.rd c.args.bits c.args.number c.requires.rd c.requires.bits c.requires.number (sym c.is_near.ensures ∙ c.if-is_near.true))

pub returns-then-is_near-2-clause-code : goal.returns-then-is_near-2-clause-code
returns-then-is_near-2-clause-code t c =
    let small : c.args.rd < 32 = search rules in
    IfOk-weaker c.word.result _ _
    (λ code k. subst (λ (is : List Instr). IsConstantOfBits c.args.rd c.args.bits c.args.number is) (sym k)
    (word_digits c.args.rd c.args.bits c.args.number (word_code c.args.rd (c.args.number % 2 ^ 32)) c.requires.bits c.requires.number
    (sym c.is_near-2.ensures ∙ c.if-is_near-2.true)
    (word_is c.args.rd (c.args.number % 2 ^ 32) c.requires.rd small (word_below c.args.number))))
    c.word.ensures.code

pub overflow_sub-bits-2 : goal.overflow_sub-bits-2
overflow_sub-bits-2 t c =
    let f = far c.args.bits c.args.number c.requires.bits c.requires.number (sym c.is_near-2.ensures ∙ c.if-is_near-2.false) in
    omega (arith, f.zeros_fit)

pub digits-requires : goal.digits-requires
digits-requires t c =
    let f = far c.args.bits c.args.number c.requires.bits c.requires.number (sym c.is_near-2.ensures ∙ c.if-is_near-2.false) in
    (omega (arith, f.zeros_fit, c.decreases), (c.requires.rd, (omega (arith, f.zeros_fit), (omega (arith, c.requires.bits), f.rest))))

pub push_digit-requires-clause-count : goal.push_digit-requires-clause-count
push_digit-requires-clause-count t c =
    let f = far c.args.bits c.args.number c.requires.bits c.requires.number (sym c.is_near-2.ensures ∙ c.if-is_near-2.false) in
    omega (arith, f.zeros_fit, c.requires.bits)

pub returns-clause-code : goal.returns-clause-code
returns-clause-code t c =
    let f = far c.args.bits c.args.number c.requires.bits c.requires.number (sym c.is_near-2.ensures ∙ c.if-is_near-2.false) in
    let small : c.args.rd < 32 = search rules in
    more_digits c.args.rd c.args.bits c.args.number c.in_ok-code.code.items c.requires.rd small c.requires.bits c.requires.number f
    c.push_digit.new.code.items c.in_ok-push_digit.ensures.code c.in_ok-code.ensures.code

pub returns-clause-short : goal.returns-clause-short
returns-clause-short t c =
    let f = far c.args.bits c.args.number c.requires.bits c.requires.number (sym c.is_near-2.ensures ∙ c.if-is_near-2.false) in
    let before = c.in_ok-code.ensures.short in
    let more = c.in_ok-push_digit.ensures.short in
    omega (arith, f.long, f.zeros_fit)
