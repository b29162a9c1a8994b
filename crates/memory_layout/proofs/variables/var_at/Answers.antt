use Rattle.std.proofs.Common.{◌≡◌, ◌+◌, ◌*◌, ℕ, take, refl, ap, arith, ◌∙◌, List}
use Rattle.std.proofs.lemmas.List.{take_all}
use Rattle.ido_base.specs.declared.location.Shape.{Shape}
use Rattle.ido_base.specs.Layout.{end_from}
use Rattle.memory_layout.proofs.VariableEnds.{end_within, small_at, small, next_end, address, aligned_small, product_small, passed}
use Rattle.memory_layout.proofs.variables.var_at.Goals as goal

pub loop-shape-init : goal.loop-shape-init
loop-shape-init c = refl

pub aligned_up-requires-clause-fits : goal.aligned_up-requires-clause-fits
aligned_up-requires-clause-fits c =
    let e : c.loop-shape.end ≡ end_from 0 (passed c.args.shapes.now c.args.variable c.loop-shape.shape-index) = c.loop-shape.invariant in
    let within = end_within c.args.shapes.now c.args.variable c.loop-shape.shape-index c.requires.sizes c.requires.within in
    let few = small_at c.args.shapes.now c.args.variable c.loop-shape.shape-index c.from-bytes.result c.requires.sizes c.loop-shape-test.true
    c.from-bytes.ensures in
    omega (arith, e, within, few)

pub overflow_add-end : goal.overflow_add-end
overflow_add-end c =
    let next = next_end c.args.shapes.now c.args.variable c.loop-shape.shape-index c.loop-shape.end c.from-bytes.result c.from.result
    c.aligned_up.result c.loop-shape-test.true c.loop-shape.invariant c.from-bytes.ensures c.from.ensures c.aligned_up.ensures in
    let within = end_within c.args.shapes.now c.args.variable (c.loop-shape.shape-index + 1) c.requires.sizes c.requires.within in
    omega (arith, next, within)

pub loop-shape-preserved : goal.loop-shape-preserved
loop-shape-preserved c =
    next_end c.args.shapes.now c.args.variable c.loop-shape.shape-index c.loop-shape.end c.from-bytes.result c.from.result c.aligned_up.result
    c.loop-shape-test.true c.loop-shape.invariant c.from-bytes.ensures c.from.ensures c.aligned_up.ensures

pub aligned_up-requires-2-clause-fits : goal.aligned_up-requires-2-clause-fits
aligned_up-requires-2-clause-fits c =
    let e : c.loop-shape.end ≡ end_from 0 (passed c.args.shapes.now c.args.variable c.loop-shape.shape-index) = c.loop-shape.invariant in
    let within = end_within c.args.shapes.now c.args.variable c.loop-shape.shape-index c.requires.sizes c.requires.within in
    let few = small c.args.shapes.now c.args.variable c.from-bytes-2.result c.requires.sizes c.requires.variable c.from-bytes-2.ensures in
    omega (arith, e, within, few)

pub overflow_add-result : goal.overflow_add-result
overflow_add-result c =
    let e : c.loop-shape.end ≡ end_from 0 (passed c.args.shapes.now c.args.variable c.loop-shape.shape-index) = c.loop-shape.invariant in
    let within = end_within c.args.shapes.now c.args.variable c.loop-shape.shape-index c.requires.sizes c.requires.within in
    let few = small c.args.shapes.now c.args.variable c.from-bytes-2.result c.requires.sizes c.requires.variable c.from-bytes-2.ensures in
    let up = aligned_small c.loop-shape.end c.from-bytes-2.result c.aligned_up-2.result (omega (arith, e, within)) few c.aligned_up-2.ensures in
    omega (arith, up)

pub overflow_add-result-2 : goal.overflow_add-result-2
overflow_add-result-2 c =
    let e : c.loop-shape.end ≡ end_from 0 (passed c.args.shapes.now c.args.variable c.loop-shape.shape-index) = c.loop-shape.invariant in
    let within = end_within c.args.shapes.now c.args.variable c.loop-shape.shape-index c.requires.sizes c.requires.within in
    let few = small c.args.shapes.now c.args.variable c.from-bytes-2.result c.requires.sizes c.requires.variable c.from-bytes-2.ensures in
    let up = aligned_small c.loop-shape.end c.from-bytes-2.result c.aligned_up-2.result (omega (arith, e, within)) few c.aligned_up-2.ensures in
    let element = product_small c.from-bytes-2.result c.from-2.result few (omega (arith, c.from-2.ensures, c.ranges.element)) in
    omega (arith, up, element)

pub returns : goal.returns
returns c =
    let all : take c.loop-shape.shape-index (take c.args.variable c.args.shapes.now) ≡ take c.args.variable c.args.shapes.now =
    take_all c.loop-shape.shape-index (take c.args.variable c.args.shapes.now) c.loop-shape-test.false in
    let end : c.loop-shape.end ≡ end_from 0 (take c.args.variable c.args.shapes.now) = c.loop-shape.invariant ∙ ap (λ (xs : List Shape). end_from 0 xs) all in
    let result = address c.args.shapes.now c.args.variable c.args.element c.loop-shape.end c.from-bytes-2.result c.aligned_up-2.result
    c.requires.variable end c.from-bytes-2.ensures c.aligned_up-2.ensures in
    ap (λ (n : ℕ). 268435456 + c.aligned_up-2.result + c.from-bytes-2.result * n) c.from-2.ensures ∙ result
