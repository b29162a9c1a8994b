use Rattle.std.proofs.Common.{◌≡◌, ◌<◌, ◌+◌, List, Bool, Vec, Global, length, min, ap, ap₂, sym, ◌∙◌, arith}
use Rattle.std.below.core.specs.declared.int.u64.TheConstants as u64
use Rattle.std.proofs.lemmas.List.{drop_all}
use Rattle.c_tree.specs.Flats as f
use Rattle.c_tree.specs.Flats.{statement_of, statements_of, arms_list_of}
use Rattle.c_tree.specs.LockNames.{Held}
use Rattle.c_tree.specs.declared.flat.Arm.{Arm}
use Rattle.c_tree.specs.declared.flat.Statement.{Statement}
use Rattle.c_tree.specs.HoldPrices.{held_price, statement_hold, statements_hold, arms_hold}
use Rattle.c_tree.specs.links.KnownNames.{names_of}
use Rattle.c_tree.proofs.FlatRows.{of_while, of_do, of_if}
use Rattle.c_tree.proofs.HeldPrices.{statements_more, arms_more, done_first, done_before, no_end}
use Rattle.c_tree.proofs.hold.+holding.Goals as goal
use Rattle.c_tree.proofs.hold.+holding.Goals.{arms_hold-then-is_first, arms_hold-else-is_first}

pub test_hold-returns-clause-price : goal.test_hold-returns-clause-price
test_hold-returns-clause-price t c = let same = ap (held_price (names_of c.args.names.now)) c.deref.ensures.value in
    omega (arith, same, c.held_price-test.ensures, c.in_ok-inside.ensures.price)

pub statements_hold-loop-statement-preserved : goal.statements_hold-loop-statement-preserved
statements_hold-loop-statement-preserved t c =
    let xs = c.args.statements.now in
    let i = c.loop-statement.statement-index in
    let within : i < length xs = omega arith in
    let more = statements_more (names_of c.args.names.now) c.loop-statement.held.items _ xs i c.statement-item.result within c.statement-item.is
    c.in_ok-statement_hold.ensures.after in (
      omega arith,
      omega (arith, c.loop-statement.invariant.0, c.loop-statement.invariant.1, more.0, c.in_ok-statement_hold.ensures.price),
      more.1 ∙ c.loop-statement.invariant.2,
    )

pub statements_hold-returns-clause-price : goal.statements_hold-returns-clause-price
statements_hold-returns-clause-price t c =
    let xs = c.args.statements.now in
    let i = c.loop-statement.statement-index in
    let none = ap (λ (ys : List Statement). (statements_hold (names_of c.args.names.now) c.loop-statement.held.items (statements_of ys)).price)
    (drop_all i xs (omega arith)) in
    omega (arith, c.loop-statement.invariant.0, c.loop-statement.invariant.1, none)

pub statements_hold-returns-clause-after : goal.statements_hold-returns-clause-after
statements_hold-returns-clause-after t c =
    let xs = c.args.statements.now in
    let i = c.loop-statement.statement-index in
    sym (ap (λ (ys : List Statement). (statements_hold (names_of c.args.names.now) c.loop-statement.held.items (statements_of ys)).after)
    (drop_all i xs (omega arith))) ∙ c.loop-statement.invariant.2

pub arms_hold-loop-arm-preserved : goal.arms_hold-loop-arm-preserved
arms_hold-loop-arm-preserved t c =
    let N = names_of c.args.names.now in
    let B = c.in_ok-before.before.items in
    let xs = c.args.arms.now in
    let i = c.loop-arm.arm-index in
    let x = c.arm-item.result in
    let so = c.loop-arm.invariant in
    let within : i < length xs = omega arith in
    let begins : c.in_ok-inner.inner.items ≡ B = c.in_ok-inner.ensures ∙ c.deref-in-loop-arm.ensures.value in
    let body : c.deref-in-loop-arm-2.result.now ≡ x.body.items = c.deref-in-loop-arm-2.ensures.value in
    let cost = c.in_ok-test_hold.ensures.price
    ∙ ap₂ (λ (h : Held) (ys : List Statement). min (held_price N h + (statements_hold N h (statements_of ys)).price) u64.MAX) begins body in
    let ends = c.in_ok-test_hold.ensures.after ∙ ap₂ (λ (h : Held) (ys : List Statement). (statements_hold N h (statements_of ys)).after) begins body in
    let more = arms_more N B xs i x within c.arm-item.is in (
      omega arith,
      omega (arith, so.0, so.1, more, cost, c.saturating_add-price.ensures),
      elim c.if-is_first.branch [
        | arms_hold-then-is_first w ↦
            done_first N B xs _ _ i (i + 1) x _ _ so.2 w.if-is_first.true w.is_first-is within c.arm-item.is
            (ap (λ (v : Vec Bool Global). v.items) w.held-is ∙ ends)
        | arms_hold-else-is_first w ↦
            done_before N B xs _ _ i (i + 1) _ _ so.2 w.if-is_first.false w.is_first-is (ap (λ (v : Vec Bool Global). v.items) w.held-is)
      ],
    )

pub arms_hold-returns-clause-price : goal.arms_hold-returns-clause-price
arms_hold-returns-clause-price t c =
    let N = names_of c.args.names.now in
    let B = c.in_ok-before.before.items in
    let xs = c.args.arms.now in
    let none = ap (λ (ys : List Arm). (arms_hold N B (arms_list_of ys)).price) (drop_all c.loop-arm.arm-index xs (omega arith)) in
    let whole = ap (λ (h : Held). (arms_hold N h (arms_list_of xs)).price) (c.in_ok-before.ensures ∙ c.deref.ensures.value) in
    omega (arith, c.loop-arm.invariant.0, c.loop-arm.invariant.1, none, whole)

pub arms_hold-returns-clause-after : goal.arms_hold-returns-clause-after
arms_hold-returns-clause-after t c =
    let N = names_of c.args.names.now in
    let xs = c.args.arms.now in
    no_end N c.in_ok-before.before.items xs c.loop-arm.is_first c.loop-arm.arm-index c.loop-arm.held.items (omega arith) c.loop-arm.invariant.2
    ∙ ap (λ (h : Held). (arms_hold N h (arms_list_of xs)).after) (c.in_ok-before.ensures ∙ c.deref.ensures.value)

pub statement_hold-returns-in_ok-price-in-While-clause-price : goal.statement_hold-returns-in_ok-price-in-While-clause-price
statement_hold-returns-in_ok-price-in-While-clause-price t c =
    let N = names_of c.args.names.now in
    let w = c.in-While in
    let view = ap statement_of w.is ∙ of_while w.place w.condition w.body in
    let begins = c.in_ok-inner-in-While.ensures ∙ c.deref-in-While.ensures.value in
    c.in_ok-price-in-While.ensures.price
    ∙ (ap₂ (λ (h : Held) (ys : List Statement). min (held_price N h + (statements_hold N h (statements_of ys)).price) u64.MAX) begins
    c.deref-in-While-2.ensures.value
    ∙ sym (ap (λ (y : f.Statement). min (statement_hold N c.args.held.now.items y).price u64.MAX) view))

pub statement_hold-returns-in_ok-price-in-Do-clause-price : goal.statement_hold-returns-in_ok-price-in-Do-clause-price
statement_hold-returns-in_ok-price-in-Do-clause-price t c =
    let N = names_of c.args.names.now in
    let w = c.in-Do in
    let view = ap statement_of w.is ∙ of_do w.place w.body w.condition in
    let begins = c.in_ok-inner-in-Do.ensures ∙ c.deref-in-Do.ensures.value in
    c.in_ok-price-in-Do.ensures.price
    ∙ (ap₂ (λ (h : Held) (ys : List Statement). min (held_price N h + (statements_hold N h (statements_of ys)).price) u64.MAX) begins
    c.deref-in-Do-2.ensures.value
    ∙ sym (ap (λ (y : f.Statement). min (statement_hold N c.args.held.now.items y).price u64.MAX) view))

pub statement_hold-returns-in_ok-last-in-If-clause-price : goal.statement_hold-returns-in_ok-last-in-If-clause-price
statement_hold-returns-in_ok-last-in-If-clause-price t c =
    let N = names_of c.args.names.now in
    let h = c.args.held.now.items in
    let w = c.in-If in
    let view = ap statement_of w.is ∙ of_if w.place w.arms w.otherwise in
    let chosen = c.in_ok-chosen-in-If.ensures.price
    ∙ ap (λ (ys : List Arm). min (arms_hold N h (arms_list_of ys)).price u64.MAX) c.deref-in-If-2.ensures.value in
    let last = c.in_ok-last-in-If.ensures.price
    ∙ ap₂ (λ (k : Held) (ys : List Statement). min (statements_hold N k (statements_of ys)).price u64.MAX)
    (c.in_ok-before-in-If.ensures ∙ c.deref-in-If.ensures.value) c.deref-in-If-3.ensures.value in
    omega (arith, c.saturating_add.ensures, chosen, last, ap (λ (y : f.Statement). (statement_hold N h y).price) view)

pub statement_hold-returns-in_ok-last-in-If-clause-after : goal.statement_hold-returns-in_ok-last-in-If-clause-after
statement_hold-returns-in_ok-last-in-If-clause-after t c =
    let N = names_of c.args.names.now in
    let h = c.args.held.now.items in
    let w = c.in-If in
    let view = ap statement_of w.is ∙ of_if w.place w.arms w.otherwise in
    c.in_ok-chosen-in-If.ensures.after
    ∙ (ap (λ (ys : List Arm). (arms_hold N h (arms_list_of ys)).after) c.deref-in-If-2.ensures.value
    ∙ sym (ap (λ (y : f.Statement). (statement_hold N h y).after) view))
