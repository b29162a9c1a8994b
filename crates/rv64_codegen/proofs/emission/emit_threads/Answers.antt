use Rattle.std.proofs.Common.{◌+◌, List, Vec, sym, subst}
use Rattle.std.specs.Global.{Global}
use Rattle.rv64_isa.specs.declared.object.CodeItem.{CodeItem}
use Rattle.rv64_codegen.specs.Plans.{plan_of}
use Rattle.rv64_codegen.specs.links.Emission.{AreEmittedTo}
use Rattle.rv64_codegen.proofs.JoinedPieces.{emitted_more}
use Rattle.rv64_codegen.proofs.emission.emit_threads.Goals as goal

pub loop-number-preserved : goal.loop-number-preserved
loop-number-preserved c =
    let p = plan_of c.args.plan.now in
    subst (λ (xs : List (Vec CodeItem Global)). AreEmittedTo p (c.loop-number.number + 1) xs) (sym c.in_ok-push.ensures.items)
    (emitted_more p c.loop-number.number c.loop-number.threads.items c.in_ok-items.items c.loop-number.invariant c.in_ok-items.ensures)
