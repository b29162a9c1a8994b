use Rattle.std.proofs.Common.{◌∙◌, sym, true, false, map}
use Rattle.c_tree.specs.Exprs.{lock_ref_of}
use Rattle.c_tree.specs.Programs.{mutex_of}
use Rattle.c_tree.specs.links.KnownNames.{names_of}
use Rattle.lock_order.proofs.Walks.{last_next}
use Rattle.lock_order.proofs.walk.last_in_way.Goals as goal
use Rattle.lock_order.proofs.walk.last_in_way.Goals.{then-was_in_way, else-was_in_way}

pub loop-one-preserved : goal.loop-one-preserved
loop-one-preserved c =
    let ms = map mutex_of c.args.mutexes.now in
    let names = names_of c.args.names.now in
    let wanted = lock_ref_of c.args.wanted in
    elim c.if-was_in_way.branch [
      | then-was_in_way w ↦
          w.last-is
          ∙ sym (last_next ms names c.args.held.now wanted c.args.met.now c.loop-one.one-index _ true c.loop-one-test.true
          (sym c.was_in_way.ensures ∙ w.if-was_in_way.true))
      | else-was_in_way w ↦
          w.last-is ∙ c.loop-one.invariant
          ∙ sym (last_next ms names c.args.held.now wanted c.args.met.now c.loop-one.one-index _ false c.loop-one-test.true
          (sym c.was_in_way.ensures ∙ w.if-was_in_way.false))
    ]
