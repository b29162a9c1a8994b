-- The range of an operator's value, from those of its operands.
use Rattle.std.proofs.Common.{◌∙◌, sym, ap}
use Rattle.c_tree.specs.Exprs as e
use Rattle.c_tree.specs.Exprs.{expr_of}
use Rattle.c_tree.specs.Ranges.{range_of, binary_range}
use Rattle.c_ranges.proofs.expression.+found.Goals as goal

pub returns-in-Binary-clause-range : goal.returns-in-Binary-clause-range
returns-in-Binary-clause-range t c =
    let l = c.found-in-Binary.ensures in
    let r = c.found-in-Binary-2.ensures in
    let x = c.deref-in-Binary.ensures in
    let y = c.deref-in-Binary-2.ensures in
    let seen = (λ i. e.Binary c.in-Binary.operator (expr_of (x i)) (expr_of (y i))) ∙ ap expr_of (sym c.in-Binary.is) in
    c.binary.ensures.range ∙ (λ i. binary_range c.in-Binary.operator (l.kind i) (l.range i) (r.kind i) (r.range i)) ∙ ap range_of seen
