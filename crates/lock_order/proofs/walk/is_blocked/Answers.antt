use Rattle.std.proofs.Common.{◌<◌, ◌∙◌, Bool, true, false, length, map, sym, ap, arith}
use Rattle.std.specs.Prelude.{◌&&◌}
use Rattle.c_tree.specs.Exprs.{lock_ref_of}
use Rattle.c_tree.specs.Programs.{mutex_of}
use Rattle.lock_order.specs.LockOrder.{is_in_way}
use Rattle.lock_order.proofs.Walks.{any_at, none_from}
use Rattle.lock_order.proofs.walk.is_blocked.Goals as goal

pub returns-then-bars : goal.returns-then-bars
returns-then-bars c =
    let P = is_in_way (map mutex_of c.args.mutexes.now) (lock_ref_of c.args.wanted) in
    let xs = c.args.names.now in
    let i = c.loop-number.number in
    let x = c.index-names-number.result in
    let within : i < length xs = omega arith in
    let by = ap (λ (b : Bool). b && P (lock_ref_of x)) (sym c.is_held.ensures) ∙ sym c.bars.ensures ∙ c.if-bars.true in
    sym (c.loop-number.invariant ∙ any_at P xs c.args.held.now i x within c.index-names-number.is true by)

pub loop-number-preserved : goal.loop-number-preserved
loop-number-preserved c =
    let P = is_in_way (map mutex_of c.args.mutexes.now) (lock_ref_of c.args.wanted) in
    let xs = c.args.names.now in
    let i = c.loop-number.number in
    let x = c.index-names-number.result in
    let within : i < length xs = omega arith in
    let by = ap (λ (b : Bool). b && P (lock_ref_of x)) (sym c.is_held.ensures) ∙ sym c.bars.ensures ∙ c.if-bars.false in
    c.loop-number.invariant ∙ any_at P xs c.args.held.now i x within c.index-names-number.is false by

pub returns : goal.returns
returns c =
    let P = is_in_way (map mutex_of c.args.mutexes.now) (lock_ref_of c.args.wanted) in
    sym (c.loop-number.invariant ∙ none_from P c.args.names.now c.args.held.now c.loop-number.number (omega arith))
