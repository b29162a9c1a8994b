use Rattle.std.proofs.Common.{◌≡◌, ◌≤◌, ◌+◌, drop, min}
use Rattle.std.below.core.specs.declared.int.u64.TheConstants as u64
use Rattle.c_tree.specs.HoldPrices.{held_price}
use Rattle.c_tree.specs.links.KnownNames.{names_of}
use Rattle.c_tree.proofs.hold.held_price.Given as goal

abbrev pub invariant-loop-number : goal.invariant-loop-number
invariant-loop-number l =
    (l.price ≤ u64.MAX)
    × (min (l.price + held_price (names_of (drop l.number l.names)) (drop l.number l.held)) u64.MAX ≡ min (held_price (names_of l.names) l.held) u64.MAX)
