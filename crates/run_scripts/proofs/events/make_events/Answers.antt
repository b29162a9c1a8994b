use Rattle.std.proofs.Common.{get_or, inl}
use Rattle.machine_events.specs.declared.event.Event.TheVariants.{Step}
use Rattle.run_scripts.proofs.MadeEvents.{still_valid}
use Rattle.run_scripts.proofs.events.make_events.Goals as goal

pub event-requires-clause-valid : goal.event-requires-clause-valid
event-requires-clause-valid g c =
    let now = c.loop-event.core in
    let first = c.args.core.now in
    let i = c.loop-event.event-index in
    inl (still_valid (g.C.Core.hart_count first) (g.C.Core.hart_count now) (g.C.Core.evictable first) (g.C.Core.evictable now) c.loop-event.invariant.3
    c.loop-event.invariant.4 (get_or c.args.events.now i (Step 0)) (c.requires.valid i (Step 0) c.loop-event-test.true))
