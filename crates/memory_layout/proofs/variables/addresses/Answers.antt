use Rattle.std.proofs.Common.{◌+◌, ◌*◌, ◌∙◌, List, ℕ, get_or, sym, subst, arith, refl}
use Rattle.memory_layout.proofs.VariableEnds.{none}
use Rattle.memory_layout.proofs.Laying.{IsSoFar, up_is, next_fits, more_so_far}
use Rattle.memory_layout.proofs.variables.addresses.Goals as goal

pub next_multiple_of-first-requires-clause-fits : goal.next_multiple_of-first-requires-clause-fits
next_multiple_of-first-requires-clause-fits c =
    let up = up_is c.args.shapes.now c.loop-shape.shape-index c.requires.sizes c.loop-shape-test.true c.loop-shape.end in
    let fits = next_fits c.args.shapes.now c.loop-shape.shape-index c.requires.sizes c.loop-shape-test.true c.loop-shape.end c.requires.room
    c.loop-shape.invariant.end_is in
    omega (arith, up, fits)

pub overflow_add-first : goal.overflow_add-first
overflow_add-first c =
    let up = c.next_multiple_of-first.ensures.value
    ∙ up_is c.args.shapes.now c.loop-shape.shape-index c.requires.sizes c.loop-shape-test.true c.loop-shape.end in
    let fits = next_fits c.args.shapes.now c.loop-shape.shape-index c.requires.sizes c.loop-shape-test.true c.loop-shape.end c.requires.room
    c.loop-shape.invariant.end_is in
    omega (arith, up, fits)

pub overflow_mul-end : goal.overflow_mul-end
overflow_mul-end c =
    let fits = next_fits c.args.shapes.now c.loop-shape.shape-index c.requires.sizes c.loop-shape-test.true c.loop-shape.end c.requires.room
    c.loop-shape.invariant.end_is in
    omega (arith, fits)

pub overflow_add-end : goal.overflow_add-end
overflow_add-end c =
    let up = c.next_multiple_of-first.ensures.value
    ∙ up_is c.args.shapes.now c.loop-shape.shape-index c.requires.sizes c.loop-shape-test.true c.loop-shape.end in
    let fits = next_fits c.args.shapes.now c.loop-shape.shape-index c.requires.sizes c.loop-shape-test.true c.loop-shape.end c.requires.room
    c.loop-shape.invariant.end_is in
    omega (arith, up, fits)

pub loop-shape-preserved : goal.loop-shape-preserved
loop-shape-preserved c =
    let ss = c.args.shapes.now in
    let i = c.loop-shape.shape-index in
    let up = c.next_multiple_of-first.ensures.value ∙ up_is ss i c.requires.sizes c.loop-shape-test.true c.loop-shape.end in
    let next : ℕ = c.next_multiple_of-first.result + (get_or ss i none).bytes * (get_or ss i none).length in
    let more = more_so_far ss i c.requires.sizes c.loop-shape-test.true c.loop-shape.end c.next_multiple_of-first.result next
    c.loop-shape.addresses.items c.loop-shape.invariant up refl in
    subst (λ (given : List ℕ). IsSoFar ss (i + 1) next given) (sym c.in_ok-push.ensures.items) more
