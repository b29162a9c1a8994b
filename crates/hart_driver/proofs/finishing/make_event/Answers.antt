use Rattle.std.proofs.Common.{inl}
use Rattle.hart_driver.proofs.Rounds.{goes_on, valid_now}
use Rattle.hart_driver.proofs.finishing.make_event.Goals as goal

pub event-requires-clause-valid : goal.event-requires-clause-valid
event-requires-clause-valid g c =
    inl (valid_now g.C.Core g.V.Evictions.coming c.args.start.now c.args.core.now c.next_event-event.result c.requires.under_way.plays
    c.next_event-event.ensures.valid)

pub returns-clause-under_way : goal.returns-clause-under_way
returns-clause-under_way g c = let e = c.event.ensures in
    goes_on g.C.Core g.V.Evictions.coming c.args.start.now c.requires.under_way c.next_event-event.ensures c.requires.worker
    (record { opens = e.opening; events_are = e.history; harts = e.harts; room = e.room; evicts = e.evictable })
