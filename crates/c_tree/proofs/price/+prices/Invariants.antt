use Rattle.std.proofs.Common.{◌≡◌, ◌≤◌, ◌+◌, drop, min}
use Rattle.std.below.core.specs.declared.int.u64.TheConstants as u64
use Rattle.c_tree.specs.Prices.{statements_price, arms_price}
use Rattle.c_tree.specs.Flats.{statements_of, arms_list_of}
use Rattle.c_tree.proofs.price.+prices.Given as goal

abbrev pub invariant-arms_price-loop-arm : goal.invariant-arms_price-loop-arm
invariant-arms_price-loop-arm l =
    (l.price ≤ u64.MAX) × (min (l.price + arms_price (arms_list_of (drop l.arm-index l.arms))) u64.MAX ≡ min (arms_price (arms_list_of l.arms)) u64.MAX)

abbrev pub invariant-statements_price-loop-statement : goal.invariant-statements_price-loop-statement
invariant-statements_price-loop-statement l =
    (l.price ≤ u64.MAX) × (min (l.price + statements_price (statements_of (drop l.statement-index l.statements))) u64.MAX
    ≡ min (statements_price (statements_of l.statements)) u64.MAX)
