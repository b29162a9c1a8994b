use Rattle.std.proofs.Common.{◌≡◌, ◌-◌, ◌∙◌, arith}
use Rattle.std.proofs.lemmas.Grind.{common_steps}
use Rattle.c_tree.specs.Views.{arms_list_of, statements_of}
use Rattle.c_reader.specs.links.ParserSteps.{parse_while, parse_do, parse_for}
use Rattle.c_tree.proofs.Public.{of_block}
use Rattle.c_reader.proofs.Blocks.{statement_none, statement_some, statements_start, statements_some, statements_end}
use Rattle.c_reader.proofs.Blocks.{push_statement, if_start, arms_some, arms_end, push_arm}
use Rattle.c_reader.proofs.block.+statement.Goals as goal

pub do_statement-returns-in_err-place : goal.do_statement-returns-in_err-place
unfolding parse_do
do_statement-returns-in_err-place t c =
    grind (arith, common_steps)

pub do_statement-returns : goal.do_statement-returns
unfolding parse_do
do_statement-returns t c =
    grind (arith, common_steps)

pub do_statement-returns-in_err-block : goal.do_statement-returns-in_err-block
unfolding parse_do
do_statement-returns-in_err-block t c =
    grind (arith, common_steps)

pub do_statement-returns-in_err-word : goal.do_statement-returns-in_err-word
unfolding parse_do
do_statement-returns-in_err-word t c =
    grind (arith, common_steps)

pub do_statement-returns-in_err-condition : goal.do_statement-returns-in_err-condition
unfolding parse_do
do_statement-returns-in_err-condition t c =
    grind (arith, common_steps)

pub do_statement-returns-in_err-mark : goal.do_statement-returns-in_err-mark
unfolding parse_do
do_statement-returns-in_err-mark t c =
    grind (arith, common_steps)

pub for_statement-returns-in_err-place : goal.for_statement-returns-in_err-place
unfolding parse_for
for_statement-returns-in_err-place t c =
    grind (arith, common_steps)

pub for_statement-returns-in_err-head : goal.for_statement-returns-in_err-head
unfolding parse_for
for_statement-returns-in_err-head t c =
    grind (arith, common_steps)

pub for_statement-returns-in_err-mark : goal.for_statement-returns-in_err-mark
unfolding parse_for
for_statement-returns-in_err-mark t c =
    grind (arith, common_steps)

pub for_statement-returns : goal.for_statement-returns
unfolding parse_for
for_statement-returns t c =
    grind (arith, common_steps)

pub for_statement-returns-in_err-block : goal.for_statement-returns-in_err-block
unfolding parse_for
for_statement-returns-in_err-block t c =
    grind (arith, common_steps)

pub while_statement-returns-in_err-place : goal.while_statement-returns-in_err-place
unfolding parse_while
while_statement-returns-in_err-place t c =
    grind (arith, common_steps)

pub while_statement-returns-in_err-condition : goal.while_statement-returns-in_err-condition
unfolding parse_while
while_statement-returns-in_err-condition t c =
    grind (arith, common_steps)

pub while_statement-returns : goal.while_statement-returns
unfolding parse_while
while_statement-returns t c =
    grind (arith, common_steps)

pub while_statement-returns-in_err-block : goal.while_statement-returns-in_err-block
unfolding parse_while
while_statement-returns-in_err-block t c =
    grind (arith, common_steps)

pub if_statement-returns-in_err-place : goal.if_statement-returns-in_err-place
if_statement-returns-in_err-place t c =
    let e = if_start c.args.language c.args.fuel c.args.tokens.now in
    grind (arith, common_steps)

pub if_statement-returns-in_err-first_arm : goal.if_statement-returns-in_err-first_arm
if_statement-returns-in_err-first_arm t c =
    let e = if_start c.args.language c.args.fuel c.args.tokens.now in
    grind (arith, common_steps)

pub if_statement-loop-turn-init : goal.if_statement-loop-turn-init
if_statement-loop-turn-init t c =
    let e = if_start c.args.language c.args.fuel c.args.tokens.now in
    grind (arith, common_steps)

pub if_statement-returns-then-not-sees_word : goal.if_statement-returns-then-not-sees_word
if_statement-returns-then-not-sees_word t c =
    let e = arms_some c.args.language (c.args.fuel - 1) c.args.fuel c.loop-turn.turn c.in_ok-place.place
    (arms_list_of c.loop-turn.arms.items) c.loop-turn.tokens c.loop-turn-test.true in
    grind (arith, common_steps)

pub if_statement-returns-in_err-inside : goal.if_statement-returns-in_err-inside
if_statement-returns-in_err-inside t c =
    let e = arms_some c.args.language (c.args.fuel - 1) c.args.fuel c.loop-turn.turn c.in_ok-place.place
    (arms_list_of c.loop-turn.arms.items) c.loop-turn.tokens c.loop-turn-test.true in
    grind (arith, common_steps)

pub if_statement-returns-then-not-sees_word-2 : goal.if_statement-returns-then-not-sees_word-2
if_statement-returns-then-not-sees_word-2 t c =
    let e = arms_some c.args.language (c.args.fuel - 1) c.args.fuel c.loop-turn.turn c.in_ok-place.place
    (arms_list_of c.loop-turn.arms.items) c.loop-turn.tokens c.loop-turn-test.true in
    grind (arith, common_steps)

pub if_statement-returns-in_err-next : goal.if_statement-returns-in_err-next
if_statement-returns-in_err-next t c =
    let e = arms_some c.args.language (c.args.fuel - 1) c.args.fuel c.loop-turn.turn c.in_ok-place.place
    (arms_list_of c.loop-turn.arms.items) c.loop-turn.tokens c.loop-turn-test.true in
    grind (arith, common_steps)

pub if_statement-loop-turn-preserved : goal.if_statement-loop-turn-preserved
if_statement-loop-turn-preserved t c =
    let e = arms_some c.args.language (c.args.fuel - 1) c.args.fuel c.loop-turn.turn c.in_ok-place.place
    (arms_list_of c.loop-turn.arms.items) c.loop-turn.tokens c.loop-turn-test.true in
    let s = push_arm c.loop-turn.arms.items c.in_ok-next.next in
    grind (arith, common_steps)

pub if_statement-returns : goal.if_statement-returns
if_statement-returns t c =
    c.loop-turn.invariant ∙ arms_end _ _ _ _ _ _ _ c.loop-turn-test.false

pub marked_statement-returns-in_ok-inside-in-OpenBrace : goal.marked_statement-returns-in_ok-inside-in-OpenBrace
marked_statement-returns-in_ok-inside-in-OpenBrace t c =
    let e = of_block c.in_ok-inside-in-OpenBrace.inside in
    grind (arith, common_steps)

pub statement-returns-then-fuel-eq0 : goal.statement-returns-then-fuel-eq0
statement-returns-then-fuel-eq0 t c =
    let none : c.args.fuel ≡ 0 = omega arith in statement_none _ _ _ none

pub statement-returns-in-Some-Name : goal.statement-returns-in-Some-Name
statement-returns-in-Some-Name t c =
    let e = statement_some c.args.language c.args.fuel c.args.tokens.now (omega arith) in
    grind (arith, common_steps)

pub statement-returns-in-Some-Punctuator : goal.statement-returns-in-Some-Punctuator
statement-returns-in-Some-Punctuator t c =
    let e = statement_some c.args.language c.args.fuel c.args.tokens.now (omega arith) in
    grind (arith, common_steps)

pub statement-returns-in-Some-Keyword : goal.statement-returns-in-Some-Keyword
statement-returns-in-Some-Keyword t c =
    let e = statement_some c.args.language c.args.fuel c.args.tokens.now (omega arith) in
    grind (arith, common_steps)

pub statement-returns-in_default : goal.statement-returns-in_default
statement-returns-in_default t c =
    let e = statement_some c.args.language c.args.fuel c.args.tokens.now (omega arith) in
    grind (arith, common_steps)

pub statements-loop-turn-init : goal.statements-loop-turn-init
statements-loop-turn-init t c =
    let e = statements_start c.args.language c.args.fuel c.args.tokens.now in
    grind (arith, common_steps)

pub statements-returns-then-not-sees_statement : goal.statements-returns-then-not-sees_statement
statements-returns-then-not-sees_statement t c =
    let e = statements_some c.args.language c.args.fuel c.loop-turn._turn (statements_of c.loop-turn.found.items) c.loop-turn.tokens c.loop-turn-test.true in
    grind (arith, common_steps)

pub statements-returns-in_err-next : goal.statements-returns-in_err-next
statements-returns-in_err-next t c =
    let e = statements_some c.args.language c.args.fuel c.loop-turn._turn (statements_of c.loop-turn.found.items) c.loop-turn.tokens c.loop-turn-test.true in
    grind (arith, common_steps)

pub statements-loop-turn-preserved : goal.statements-loop-turn-preserved
statements-loop-turn-preserved t c =
    let e = statements_some c.args.language c.args.fuel c.loop-turn._turn (statements_of c.loop-turn.found.items) c.loop-turn.tokens c.loop-turn-test.true in
    let s = push_statement c.loop-turn.found.items c.in_ok-next.next in
    grind (arith, common_steps)

pub statements-returns : goal.statements-returns
statements-returns t c =
    c.loop-turn.invariant ∙ statements_end _ _ _ _ _ c.loop-turn-test.false
