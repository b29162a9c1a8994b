use Rattle.std.proofs.Common.{◌≡◌, ◌+◌, ◌-◌, ◌<◌, length, Some, None, sym, ◌∙◌, ap, subst, arith, length-append, inl}
use Rattle.machine_events.specs.Cores.{played, least_enabled}
use Rattle.run_scripts.proofs.EventsWithinRoom.{whole, whole_fits}
use Rattle.run_scripts.proofs.EnabledSteps as s
use Rattle.run_scripts.proofs.play.play_enabled.Goals as goal

pub returns-in_default-clause-history : goal.returns-in_default-clause-history
returns-in_default-clause-history g c =
    let b = g.C.Core.behaviour in
    let harts = g.C.Core.hart_count c.args.core.now in
    let opening = g.C.Core.opening c.args.core.now in
    let before = g.C.Core.history c.args.core.now in
    let now = g.C.Core.history c.loop.core in
    let left = g.C.Core.space c.args.core.now - c.args.floor in
    let inv = c.loop.invariant in
    let asked : least_enabled b (played b opening now) harts ≡ c.can_step.result =
    sym (c.can_step.ensures ∙ ap (λ o. least_enabled b (played b o now) (g.C.Core.hart_count c.loop.core)) inv.0
    ∙ ap (least_enabled b (played b opening now)) inv.4) in
    let none : least_enabled b (played b opening now) harts ≡ None = asked ∙ c.in_default.is in
    let made = s.none_goes b harts opening before c.args.count left now c.loop.counter inv.1 c.loop-test.true none in
    whole before now _ left made (omega (arith, inv.2, inv.3, c.requires.floor))

pub returns-in_default-clause-all : goal.returns-in_default-clause-all
returns-in_default-clause-all g c =
    let b = g.C.Core.behaviour in
    let harts = g.C.Core.hart_count c.args.core.now in
    let opening = g.C.Core.opening c.args.core.now in
    let before = g.C.Core.history c.args.core.now in
    let now = g.C.Core.history c.loop.core in
    let left = g.C.Core.space c.args.core.now - c.args.floor in
    let inv = c.loop.invariant in
    let asked : least_enabled b (played b opening now) harts ≡ c.can_step.result =
    sym (c.can_step.ensures ∙ ap (λ o. least_enabled b (played b o now) (g.C.Core.hart_count c.loop.core)) inv.0
    ∙ ap (least_enabled b (played b opening now)) inv.4) in
    let none : least_enabled b (played b opening now) harts ≡ None = asked ∙ c.in_default.is in
    let made = s.none_goes b harts opening before c.args.count left now c.loop.counter inv.1 c.loop-test.true none in
    sym (whole_fits before now _ left made (omega (arith, inv.2, inv.3, c.requires.floor)))

pub returns-then-room-floor-clause-history : goal.returns-then-room-floor-clause-history
returns-then-room-floor-clause-history g c =
    let b = g.C.Core.behaviour in
    let harts = g.C.Core.hart_count c.args.core.now in
    let opening = g.C.Core.opening c.args.core.now in
    let before = g.C.Core.history c.args.core.now in
    let now = g.C.Core.history c.loop.core in
    let left = g.C.Core.space c.args.core.now - c.args.floor in
    let inv = c.loop.invariant in
    let asked : least_enabled b (played b opening now) harts ≡ c.can_step.result =
    sym (c.can_step.ensures ∙ ap (λ o. least_enabled b (played b o now) (g.C.Core.hart_count c.loop.core)) inv.0
    ∙ ap (least_enabled b (played b opening now)) inv.4) in
    let goes : least_enabled b (played b opening now) harts ≡ Some c.in-Some.hart = asked ∙ c.in-Some.is in
    let full : length now ≡ length before + left = omega (arith, inv.2, c.room.ensures, c.if-room-floor.true, c.requires.floor) in
    (s.is_cut b harts opening before c.args.count left now c.loop.counter inv.1 c.in-Some.hart c.loop-test.true goes full).0

pub returns-then-room-floor-clause-all : goal.returns-then-room-floor-clause-all
returns-then-room-floor-clause-all g c =
    let b = g.C.Core.behaviour in
    let harts = g.C.Core.hart_count c.args.core.now in
    let opening = g.C.Core.opening c.args.core.now in
    let before = g.C.Core.history c.args.core.now in
    let now = g.C.Core.history c.loop.core in
    let left = g.C.Core.space c.args.core.now - c.args.floor in
    let inv = c.loop.invariant in
    let asked : least_enabled b (played b opening now) harts ≡ c.can_step.result =
    sym (c.can_step.ensures ∙ ap (λ o. least_enabled b (played b o now) (g.C.Core.hart_count c.loop.core)) inv.0
    ∙ ap (least_enabled b (played b opening now)) inv.4) in
    let goes : least_enabled b (played b opening now) harts ≡ Some c.in-Some.hart = asked ∙ c.in-Some.is in
    let full : length now ≡ length before + left = omega (arith, inv.2, c.room.ensures, c.if-room-floor.true, c.requires.floor) in
    sym (s.is_cut b harts opening before c.args.count left now c.loop.counter inv.1 c.in-Some.hart c.loop-test.true goes full).1

pub event-requires-clause-valid : goal.event-requires-clause-valid
event-requires-clause-valid g c =
    let b = g.C.Core.behaviour in
    let harts = g.C.Core.hart_count c.args.core.now in
    let opening = g.C.Core.opening c.args.core.now in
    let before = g.C.Core.history c.args.core.now in
    let now = g.C.Core.history c.loop.core in
    let left = g.C.Core.space c.args.core.now - c.args.floor in
    let inv = c.loop.invariant in
    let asked : least_enabled b (played b opening now) harts ≡ c.can_step.result =
    sym (c.can_step.ensures ∙ ap (λ o. least_enabled b (played b o now) (g.C.Core.hart_count c.loop.core)) inv.0
    ∙ ap (least_enabled b (played b opening now)) inv.4) in
    let goes : least_enabled b (played b opening now) harts ≡ Some c.in-Some.hart = asked ∙ c.in-Some.is in
    inl (subst (λ n. c.in-Some.hart < n) (sym inv.4) (s.is_hart b harts (played b opening now) harts c.in-Some.hart goes))

pub loop-preserved : goal.loop-preserved
loop-preserved g c =
    let b = g.C.Core.behaviour in
    let harts = g.C.Core.hart_count c.args.core.now in
    let opening = g.C.Core.opening c.args.core.now in
    let before = g.C.Core.history c.args.core.now in
    let now = g.C.Core.history c.loop.core in
    let left = g.C.Core.space c.args.core.now - c.args.floor in
    let inv = c.loop.invariant in
    let asked : least_enabled b (played b opening now) harts ≡ c.can_step.result =
    sym (c.can_step.ensures ∙ ap (λ o. least_enabled b (played b o now) (g.C.Core.hart_count c.loop.core)) inv.0
    ∙ ap (least_enabled b (played b opening now)) inv.4) in
    let goes : least_enabled b (played b opening now) harts ≡ Some c.in-Some.hart = asked ∙ c.in-Some.is in
    let new = g.C.Core.history c.event.new.self in
    let longer : length new ≡ length now + 1 = ap length c.event.ensures.history ∙ length-append now _ in (
      c.event.ensures.opening ∙ inv.0,
      s.one_goes b harts opening before c.args.count left now c.loop.counter inv.1 c.in-Some.hart c.loop-test.true goes new c.event.ensures.history,
      omega (arith, inv.2, longer, c.event.ensures.room),
      omega (arith, inv.3, c.event.ensures.room, c.room.ensures, c.if-room-floor.false),
      c.event.ensures.harts ∙ inv.4,
      λ line mask. (
        (λ h. (inv.5 line mask).0 ((c.event.ensures.evictable line mask).0 h)),
        (λ h. (c.event.ensures.evictable line mask).1 ((inv.5 line mask).1 h)),
      ),
    )

pub returns-clause-history : goal.returns-clause-history
returns-clause-history g c =
    let b = g.C.Core.behaviour in
    let harts = g.C.Core.hart_count c.args.core.now in
    let opening = g.C.Core.opening c.args.core.now in
    let before = g.C.Core.history c.args.core.now in
    let now = g.C.Core.history c.loop.core in
    let left = g.C.Core.space c.args.core.now - c.args.floor in
    let inv = c.loop.invariant in
    let made = s.all_made b harts opening before c.args.count left now c.loop.counter inv.1 c.loop-test.false in
    whole before now _ left made (omega (arith, inv.2, inv.3, c.requires.floor))

pub returns-clause-all : goal.returns-clause-all
returns-clause-all g c =
    let b = g.C.Core.behaviour in
    let harts = g.C.Core.hart_count c.args.core.now in
    let opening = g.C.Core.opening c.args.core.now in
    let before = g.C.Core.history c.args.core.now in
    let now = g.C.Core.history c.loop.core in
    let left = g.C.Core.space c.args.core.now - c.args.floor in
    let inv = c.loop.invariant in
    let made = s.all_made b harts opening before c.args.count left now c.loop.counter inv.1 c.loop-test.false in
    sym (whole_fits before now _ left made (omega (arith, inv.2, inv.3, c.requires.floor)))
