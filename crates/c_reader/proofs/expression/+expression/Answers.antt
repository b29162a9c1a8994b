use Rattle.std.proofs.Common.{◌≡◌, ◌-◌, ◌∙◌, arith}
use Rattle.std.proofs.lemmas.Grind.{common_steps}
use Rattle.c_tree.specs.Views.{expression_of}
use Rattle.c_reader.proofs.ParserStepEquations.{operand_at, operand_at_none, expression_at, expression_at_none, after_none, after_some, from_end, from_some}
use Rattle.c_reader.proofs.expression.+expression.Goals as goal

pub expression-returns-then-fuel-eq0 : goal.expression-returns-then-fuel-eq0
expression-returns-then-fuel-eq0 t c = let none : c.args.fuel ≡ 0 = omega arith in expression_at_none _ _ none

pub expression-returns-in_err-first : goal.expression-returns-in_err-first
expression-returns-in_err-first t c = let e = expression_at c.args.fuel c.args.tokens.now (omega arith) in grind (arith, common_steps)

pub expression-returns-in_err-condition : goal.expression-returns-in_err-condition
expression-returns-in_err-condition t c = let e = expression_at c.args.fuel c.args.tokens.now (omega arith) in grind (arith, common_steps)

pub expression-returns : goal.expression-returns
expression-returns t c = let e = expression_at c.args.fuel c.args.tokens.now (omega arith) in grind (arith, common_steps)

pub operand-returns-then-fuel-eq0 : goal.operand-returns-then-fuel-eq0
operand-returns-then-fuel-eq0 t c = let none : c.args.fuel ≡ 0 = omega arith in operand_at_none _ _ none

pub operand-returns-in_err-place-in_default : goal.operand-returns-in_err-place-in_default
operand-returns-in_err-place-in_default t c = let e = operand_at c.args.fuel c.args.tokens.now (omega arith) in grind (arith, common_steps)

pub operand-returns-in_err-inner-in_default : goal.operand-returns-in_err-inner-in_default
operand-returns-in_err-inner-in_default t c = let e = operand_at c.args.fuel c.args.tokens.now (omega arith) in grind (arith, common_steps)

pub operand-returns-in_ok-place-in-Some-Number : goal.operand-returns-in_ok-place-in-Some-Number
operand-returns-in_ok-place-in-Some-Number t c = let e = operand_at c.args.fuel c.args.tokens.now (omega arith) in grind (arith, common_steps)

pub operand-returns-in_ok-name-in-Some-Name : goal.operand-returns-in_ok-name-in-Some-Name
operand-returns-in_ok-name-in-Some-Name t c = let e = operand_at c.args.fuel c.args.tokens.now (omega arith) in grind (arith, common_steps)

pub operand-returns-in_ok-opening-in-Some-Punctuator-OpenParenthesis : goal.operand-returns-in_ok-opening-in-Some-Punctuator-OpenParenthesis
operand-returns-in_ok-opening-in-Some-Punctuator-OpenParenthesis t c =
    let e = operand_at c.args.fuel c.args.tokens.now (omega arith) in grind (arith, common_steps)

pub operand-returns-in_ok-place-in-Some-Keyword-Null : goal.operand-returns-in_ok-place-in-Some-Keyword-Null
operand-returns-in_ok-place-in-Some-Keyword-Null t c =
    let e = operand_at c.args.fuel c.args.tokens.now (omega arith) in grind (arith, common_steps)

pub operand-returns-in_err-reference-in-Some-Punctuator-Star : goal.operand-returns-in_err-reference-in-Some-Punctuator-Star
operand-returns-in_err-reference-in-Some-Punctuator-Star t c =
    let e = operand_at c.args.fuel c.args.tokens.now (omega arith) in grind (arith, common_steps)

pub operand-returns-in_ok-reference-in-Some-Punctuator-Star : goal.operand-returns-in_ok-reference-in-Some-Punctuator-Star
operand-returns-in_ok-reference-in-Some-Punctuator-Star t c =
    let e = operand_at c.args.fuel c.args.tokens.now (omega arith) in grind (arith, common_steps)

pub operand-returns-in_err-array-in-Some-Punctuator-Ampersand : goal.operand-returns-in_err-array-in-Some-Punctuator-Ampersand
operand-returns-in_err-array-in-Some-Punctuator-Ampersand t c =
    let e = operand_at c.args.fuel c.args.tokens.now (omega arith) in grind (arith, common_steps)

pub operand-returns-in_ok-array-in-Some-Punctuator-Ampersand : goal.operand-returns-in_ok-array-in-Some-Punctuator-Ampersand
operand-returns-in_ok-array-in-Some-Punctuator-Ampersand t c =
    let e = operand_at c.args.fuel c.args.tokens.now (omega arith) in grind (arith, common_steps)

pub operand-returns-in_ok-unary_of-in_default : goal.operand-returns-in_ok-unary_of-in_default
operand-returns-in_ok-unary_of-in_default t c = let e = operand_at c.args.fuel c.args.tokens.now (omega arith) in grind (arith, common_steps)

pub operators-returns-then-precedences-eq0 : goal.operators-returns-then-precedences-eq0
operators-returns-then-precedences-eq0 t c = let none : c.args.precedences ≡ 0 = omega arith in after_none _ _ _ _ none

pub operators-returns-in_err-left : goal.operators-returns-in_err-left
operators-returns-in_err-left t c =
    let e = after_some c.args.fuel c.args.precedences (expression_of c.args.first) c.args.tokens.now (omega arith) in grind (arith, common_steps)

pub operators-loop-turn-init : goal.operators-loop-turn-init
operators-loop-turn-init t c =
    let e = after_some c.args.fuel c.args.precedences (expression_of c.args.first) c.args.tokens.now (omega arith) in grind (arith, common_steps)

pub operators-returns-then-not-sees_operator : goal.operators-returns-then-not-sees_operator
operators-returns-then-not-sees_operator t c =
    let e = from_some c.args.fuel (c.args.precedences - 1) c.loop-turn._turn (expression_of c.loop-turn.left) c.loop-turn.tokens c.loop-turn-test.true in
    grind (arith, common_steps)

pub operators-returns-in_err-operator : goal.operators-returns-in_err-operator
operators-returns-in_err-operator t c =
    let e = from_some c.args.fuel (c.args.precedences - 1) c.loop-turn._turn (expression_of c.loop-turn.left) c.loop-turn.tokens c.loop-turn-test.true in
    grind (arith, common_steps)

pub operators-returns-in_err-right : goal.operators-returns-in_err-right
operators-returns-in_err-right t c =
    let e = from_some c.args.fuel (c.args.precedences - 1) c.loop-turn._turn (expression_of c.loop-turn.left) c.loop-turn.tokens c.loop-turn-test.true in
    grind (arith, common_steps)

pub operators-returns-in_err-right-2 : goal.operators-returns-in_err-right-2
operators-returns-in_err-right-2 t c =
    let e = from_some c.args.fuel (c.args.precedences - 1) c.loop-turn._turn (expression_of c.loop-turn.left) c.loop-turn.tokens c.loop-turn-test.true in
    grind (arith, common_steps)

pub operators-loop-turn-preserved : goal.operators-loop-turn-preserved
operators-loop-turn-preserved t c =
    let e = from_some c.args.fuel (c.args.precedences - 1) c.loop-turn._turn (expression_of c.loop-turn.left) c.loop-turn.tokens c.loop-turn-test.true in
    grind (arith, common_steps)

pub operators-returns : goal.operators-returns
operators-returns t c = c.loop-turn.invariant ∙ from_end _ _ _ _ _ (omega arith)
