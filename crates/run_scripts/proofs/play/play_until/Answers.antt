use Rattle.std.proofs.Common.{◌≡◌, ◌+◌, ◌-◌, length, true, false, sym, ◌∙◌, ap, arith, inl, length-append}
use Rattle.ido_base.specs.declared.limits.TheConstants.{MOST_STEPS_TO}
use Rattle.machine_events.specs.declared.event.Event.TheVariants.{Step}
use Rattle.machine_events.specs.Cores.{played, passed_count}
use Rattle.run_scripts.specs.links.Goals.{reaches}
use Rattle.run_scripts.proofs.EventsWithinRoom.{whole, whole_fits}
use Rattle.run_scripts.proofs.GoalSteps as s
use Rattle.run_scripts.proofs.play.play_until.Goals as goal

pub event-requires-clause-valid : goal.event-requires-clause-valid
event-requires-clause-valid g c = inl (omega (arith, c.requires.hart, c.loop.invariant.5))

pub returns-then-stopped-clause-history : goal.returns-then-stopped-clause-history
returns-then-stopped-clause-history g c =
    let b = g.C.Core.behaviour in
    let t = reaches b c.args.goal c.args.hart in
    let opening = g.C.Core.opening c.args.core.now in
    let before = g.C.Core.history c.args.core.now in
    let now = g.C.Core.history c.loop.core in
    let left = g.C.Core.space c.args.core.now - c.args.floor in
    let inv = c.loop.invariant in
    let stopped : b.is_stopped (played b opening now) c.args.hart ≡ true =
    sym (c.stopped.ensures ∙ ap (λ o. b.is_stopped (played b o now) c.args.hart) inv.0) ∙ c.if-stopped.true in
    let made = s.stops b t c.args.hart opening before MOST_STEPS_TO left now c.loop.counter inv.1 c.loop-test.true stopped in
    whole before now _ left made (omega (arith, inv.3, inv.4, c.requires.floor))

pub returns-clause-history : goal.returns-clause-history
returns-clause-history g c =
    let b = g.C.Core.behaviour in
    let t = reaches b c.args.goal c.args.hart in
    let opening = g.C.Core.opening c.args.core.now in
    let before = g.C.Core.history c.args.core.now in
    let now = g.C.Core.history c.loop.core in
    let left = g.C.Core.space c.args.core.now - c.args.floor in
    let inv = c.loop.invariant in
    let made = s.over b t c.args.hart opening before MOST_STEPS_TO left now c.loop.counter inv.1 c.loop-test.false in
    whole before now _ left made (omega (arith, inv.3, inv.4, c.requires.floor))

pub returns-then-times_reached-before-clause-history : goal.returns-then-times_reached-before-clause-history
returns-then-times_reached-before-clause-history g c =
    let b = g.C.Core.behaviour in
    let t = reaches b c.args.goal c.args.hart in
    let opening = g.C.Core.opening c.args.core.now in
    let before = g.C.Core.history c.args.core.now in
    let now = g.C.Core.history c.loop.core in
    let left = g.C.Core.space c.args.core.now - c.args.floor in
    let inv = c.loop.invariant in
    let going : b.is_stopped (played b opening now) c.args.hart ≡ false =
    sym (c.stopped.ensures ∙ ap (λ o. b.is_stopped (played b o now) c.args.hart) inv.0) ∙ c.if-stopped.false in
    let new = g.C.Core.history c.event.new.self in
    let opens : g.C.Core.opening c.event.new.self ≡ opening = c.event.ensures.opening ∙ inv.0 in
    let count : c.times_reached.result ≡ passed_count b t opening new = c.times_reached.ensures ∙ ap (λ o. passed_count b t o new) opens in
    let longer : length new ≡ length now + 1 = ap length c.event.ensures.history ∙ length-append now _ in
    let reached = s.passes b t c.args.hart opening now new (Step c.args.hart) c.times_reached-before.result c.event.ensures.history
    (inv.2 ∙ sym c.times_reached-before.ensures) (omega (arith, count, c.if-times_reached-before.true)) in
    let made = s.reaches_it b t c.args.hart opening before MOST_STEPS_TO left now c.loop.counter inv.1 new c.loop-test.true going reached
    c.event.ensures.history in
    whole before new _ left made (omega (arith, inv.3, inv.4, longer, c.event.ensures.room, c.room.ensures, c.if-room-floor.false, c.requires.floor))

pub returns-then-stopped-clause-all : goal.returns-then-stopped-clause-all
returns-then-stopped-clause-all g c =
    let b = g.C.Core.behaviour in
    let t = reaches b c.args.goal c.args.hart in
    let opening = g.C.Core.opening c.args.core.now in
    let before = g.C.Core.history c.args.core.now in
    let now = g.C.Core.history c.loop.core in
    let left = g.C.Core.space c.args.core.now - c.args.floor in
    let inv = c.loop.invariant in
    let stopped : b.is_stopped (played b opening now) c.args.hart ≡ true =
    sym (c.stopped.ensures ∙ ap (λ o. b.is_stopped (played b o now) c.args.hart) inv.0) ∙ c.if-stopped.true in
    let made = s.stops b t c.args.hart opening before MOST_STEPS_TO left now c.loop.counter inv.1 c.loop-test.true stopped in
    sym (whole_fits before now _ left made (omega (arith, inv.3, inv.4, c.requires.floor)))

pub returns-clause-all : goal.returns-clause-all
returns-clause-all g c =
    let b = g.C.Core.behaviour in
    let t = reaches b c.args.goal c.args.hart in
    let opening = g.C.Core.opening c.args.core.now in
    let before = g.C.Core.history c.args.core.now in
    let now = g.C.Core.history c.loop.core in
    let left = g.C.Core.space c.args.core.now - c.args.floor in
    let inv = c.loop.invariant in
    let made = s.over b t c.args.hart opening before MOST_STEPS_TO left now c.loop.counter inv.1 c.loop-test.false in
    sym (whole_fits before now _ left made (omega (arith, inv.3, inv.4, c.requires.floor)))

pub returns-then-times_reached-before-clause-all : goal.returns-then-times_reached-before-clause-all
returns-then-times_reached-before-clause-all g c =
    let b = g.C.Core.behaviour in
    let t = reaches b c.args.goal c.args.hart in
    let opening = g.C.Core.opening c.args.core.now in
    let before = g.C.Core.history c.args.core.now in
    let now = g.C.Core.history c.loop.core in
    let left = g.C.Core.space c.args.core.now - c.args.floor in
    let inv = c.loop.invariant in
    let going : b.is_stopped (played b opening now) c.args.hart ≡ false =
    sym (c.stopped.ensures ∙ ap (λ o. b.is_stopped (played b o now) c.args.hart) inv.0) ∙ c.if-stopped.false in
    let new = g.C.Core.history c.event.new.self in
    let opens : g.C.Core.opening c.event.new.self ≡ opening = c.event.ensures.opening ∙ inv.0 in
    let count : c.times_reached.result ≡ passed_count b t opening new = c.times_reached.ensures ∙ ap (λ o. passed_count b t o new) opens in
    let longer : length new ≡ length now + 1 = ap length c.event.ensures.history ∙ length-append now _ in
    let reached = s.passes b t c.args.hart opening now new (Step c.args.hart) c.times_reached-before.result c.event.ensures.history
    (inv.2 ∙ sym c.times_reached-before.ensures) (omega (arith, count, c.if-times_reached-before.true)) in
    let made = s.reaches_it b t c.args.hart opening before MOST_STEPS_TO left now c.loop.counter inv.1 new c.loop-test.true going reached
    c.event.ensures.history in
    sym (whole_fits before new _ left made (omega (arith, inv.3, inv.4, longer, c.event.ensures.room, c.room.ensures, c.if-room-floor.false, c.requires.floor)))

pub returns-then-room-floor-clause-history : goal.returns-then-room-floor-clause-history
returns-then-room-floor-clause-history g c =
    let b = g.C.Core.behaviour in
    let t = reaches b c.args.goal c.args.hart in
    let opening = g.C.Core.opening c.args.core.now in
    let before = g.C.Core.history c.args.core.now in
    let now = g.C.Core.history c.loop.core in
    let left = g.C.Core.space c.args.core.now - c.args.floor in
    let inv = c.loop.invariant in
    let going : b.is_stopped (played b opening now) c.args.hart ≡ false =
    sym (c.stopped.ensures ∙ ap (λ o. b.is_stopped (played b o now) c.args.hart) inv.0) ∙ c.if-stopped.false in
    (s.is_cut b t c.args.hart opening before MOST_STEPS_TO left now c.loop.counter inv.1 c.loop-test.true going
    (omega (arith, inv.3, c.room.ensures, c.if-room-floor.true, c.requires.floor))).0

pub returns-then-room-floor-clause-all : goal.returns-then-room-floor-clause-all
returns-then-room-floor-clause-all g c =
    let b = g.C.Core.behaviour in
    let t = reaches b c.args.goal c.args.hart in
    let opening = g.C.Core.opening c.args.core.now in
    let before = g.C.Core.history c.args.core.now in
    let now = g.C.Core.history c.loop.core in
    let left = g.C.Core.space c.args.core.now - c.args.floor in
    let inv = c.loop.invariant in
    let going : b.is_stopped (played b opening now) c.args.hart ≡ false =
    sym (c.stopped.ensures ∙ ap (λ o. b.is_stopped (played b o now) c.args.hart) inv.0) ∙ c.if-stopped.false in
    sym (s.is_cut b t c.args.hart opening before MOST_STEPS_TO left now c.loop.counter inv.1 c.loop-test.true going
    (omega (arith, inv.3, c.room.ensures, c.if-room-floor.true, c.requires.floor))).1

pub loop-preserved : goal.loop-preserved
loop-preserved g c =
    let b = g.C.Core.behaviour in
    let t = reaches b c.args.goal c.args.hart in
    let opening = g.C.Core.opening c.args.core.now in
    let before = g.C.Core.history c.args.core.now in
    let now = g.C.Core.history c.loop.core in
    let left = g.C.Core.space c.args.core.now - c.args.floor in
    let inv = c.loop.invariant in
    let going : b.is_stopped (played b opening now) c.args.hart ≡ false =
    sym (c.stopped.ensures ∙ ap (λ o. b.is_stopped (played b o now) c.args.hart) inv.0) ∙ c.if-stopped.false in
    let new = g.C.Core.history c.event.new.self in
    let opens : g.C.Core.opening c.event.new.self ≡ opening = c.event.ensures.opening ∙ inv.0 in
    let count : c.times_reached.result ≡ passed_count b t opening new = c.times_reached.ensures ∙ ap (λ o. passed_count b t o new) opens in
    let longer : length new ≡ length now + 1 = ap length c.event.ensures.history ∙ length-append now _ in
    let missed = s.fails b t c.args.hart opening now new (Step c.args.hart) c.times_reached-before.result c.event.ensures.history
    (inv.2 ∙ sym c.times_reached-before.ensures) (omega (arith, count, c.if-times_reached-before.false)) in (
      opens,
      s.goes_on b t c.args.hart opening before MOST_STEPS_TO left now c.loop.counter inv.1 new c.loop-test.true going missed.0 c.event.ensures.history,
      missed.1 ∙ c.times_reached-before.ensures,
      omega (arith, inv.3, longer, c.event.ensures.room),
      omega (arith, inv.4, c.event.ensures.room, c.room.ensures, c.if-room-floor.false),
      c.event.ensures.harts ∙ inv.5,
      λ line mask. (
        (λ h. (inv.6 line mask).0 ((c.event.ensures.evictable line mask).0 h)),
        (λ h. (c.event.ensures.evictable line mask).1 ((inv.6 line mask).1 h)),
      ),
    )
