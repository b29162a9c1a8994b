use Rattle.std.proofs.Common.{◌≡◌, ◌≤◌, ◌+◌, drop, min}
use Rattle.std.below.core.specs.declared.int.u64.TheConstants as u64
use Rattle.c_tree.specs.Flats.{statements_of, arms_list_of}
use Rattle.c_tree.specs.HoldPrices.{statements_hold, arms_hold}
use Rattle.c_tree.specs.links.KnownNames.{names_of}
use Rattle.c_tree.proofs.HeldPrices.{IsFirstEnd}
use Rattle.c_tree.proofs.hold.+holding.Given as goal

abbrev pub invariant-statements_hold-loop-statement : goal.invariant-statements_hold-loop-statement
invariant-statements_hold-loop-statement l =
    let names = names_of l.names in
    let left = statements_hold names l.held.items (statements_of (drop l.statement-index l.statements)) in
    let all = statements_hold names l.initial.held.items (statements_of l.statements) in
    (l.price ≤ u64.MAX) × (min (l.price + left.price) u64.MAX ≡ min all.price u64.MAX) × (left.after ≡ all.after)

abbrev pub invariant-arms_hold-loop-arm : goal.invariant-arms_hold-loop-arm
invariant-arms_hold-loop-arm l =
    let names = names_of l.names in
    let left = arms_hold names l.before.items (arms_list_of (drop l.arm-index l.arms)) in
    let all = arms_hold names l.before.items (arms_list_of l.arms) in
    (l.price ≤ u64.MAX) × (min (l.price + left.price) u64.MAX ≡ min all.price u64.MAX)
    × IsFirstEnd names l.before.items l.arms l.is_first l.arm-index l.held.items
