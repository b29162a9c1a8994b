use Rattle.std.proofs.Common.{arith, refl}
use Rattle.std.proofs.lemmas.Option.{slice_get_read}
use Rattle.source_machine.proofs.ConsecutiveLists.{span_within, place_found, place_past}
use Rattle.source_machine.proofs.variables.place_in.Goals as goal

pub overflow_add-result : goal.overflow_add-result
overflow_add-result c =
    let h = c.in_ok-span.ensures.lookup in
    let is = slice_get_read c.args.spans.now _ c.args.variable c.in_ok-span.span.now refl h.3.0 h.1 in
    omega (arith, span_within c.args.spans.now c.args.variable c.in_ok-span.span.now 0 c.args.end c.requires is, c.ranges.end.fits, c.if-element-span.true)

pub returns-then-element-span-clause-value : goal.returns-then-element-span-clause-value
returns-then-element-span-clause-value c =
    let h = c.in_ok-span.ensures.lookup in
    let is = slice_get_read c.args.spans.now _ c.args.variable c.in_ok-span.span.now refl h.3.0 h.1 in
    place_found c.args.spans.now c.args.variable c.args.element c.in_ok-span.span.now is c.if-element-span.true

pub returns-then-element-span-clause-within : goal.returns-then-element-span-clause-within
returns-then-element-span-clause-within c =
    let h = c.in_ok-span.ensures.lookup in
    let is = slice_get_read c.args.spans.now _ c.args.variable c.in_ok-span.span.now refl h.3.0 h.1 in
    omega (arith, span_within c.args.spans.now c.args.variable c.in_ok-span.span.now 0 c.args.end c.requires is, c.if-element-span.true)

pub returns-else-element-span-clause-value : goal.returns-else-element-span-clause-value
returns-else-element-span-clause-value c =
    let h = c.in_ok-span.ensures.lookup in
    let is = slice_get_read c.args.spans.now _ c.args.variable c.in_ok-span.span.now refl h.3.0 h.1 in
    place_past c.args.spans.now c.args.variable c.args.element c.in_ok-span.span.now is c.if-element-span.false
