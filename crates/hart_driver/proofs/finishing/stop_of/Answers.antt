use Rattle.std.proofs.Common.{sym, ◌∙◌, true, false, eq-eqb, ne_eqb, length, refl, eqb}
use Rattle.hart_driver.specs.Legs.{made}
use Rattle.hart_driver.specs.links.UnderWay.{leg_from, since}
use Rattle.hart_driver.proofs.Rounds.{ended_now, full_now}
use Rattle.hart_driver.proofs.Stops.{stop_is}
use Rattle.hart_driver.proofs.finishing.stop_of.Goals as goal

pub returns-then-has_ended : goal.returns-then-has_ended
returns-then-has_ended g c = let l = leg_from g.C.Core.behaviour g.C.Core.opening g.C.Core.history g.C.Core.hart_count g.V.Evictions.coming c.args.start.now in
    let now = since g.C.Core.history c.args.start.now c.args.core.now in
    sym (stop_is l c.args.worker now true (eqb (made l c.args.worker now) l.turns) (eqb (length now) l.most)
    (ended_now g.C.Core g.V.Evictions.coming c.args.start.now c.args.core.now c.args.worker true c.requires.plays c.if-has_ended.ensures) refl refl)

pub returns-then-events-start : goal.returns-then-events-start
returns-then-events-start g c =
    let l = leg_from g.C.Core.behaviour g.C.Core.opening g.C.Core.history g.C.Core.hart_count g.V.Evictions.coming c.args.start.now in
    let now = since g.C.Core.history c.args.start.now c.args.core.now in
    sym (stop_is l c.args.worker now false true (eqb (length now) l.most)
    (ended_now g.C.Core g.V.Evictions.coming c.args.start.now c.args.core.now c.args.worker false c.requires.plays c.if-has_ended.ensures)
    (eq-eqb (made l c.args.worker now) l.turns (sym c.requires.made ∙ c.if-events-start.true)) refl)

pub returns-then-events-start-2 : goal.returns-then-events-start-2
returns-then-events-start-2 g c =
    let l = leg_from g.C.Core.behaviour g.C.Core.opening g.C.Core.history g.C.Core.hart_count g.V.Evictions.coming c.args.start.now in
    let now = since g.C.Core.history c.args.start.now c.args.core.now in
    let full = full_now g.C.Core g.V.Evictions.coming c.args.start.now c.args.core.now c.requires.plays c.requires.begun in
    sym (stop_is l c.args.worker now false false true
    (ended_now g.C.Core g.V.Evictions.coming c.args.start.now c.args.core.now c.args.worker false c.requires.plays c.if-has_ended.ensures)
    (ne_eqb (made l c.args.worker now) l.turns (λ e. c.if-events-start.false (c.requires.made ∙ e)))
    (eq-eqb (length now) l.most (full.1 (sym c.events.ensures ∙ c.if-events-start-2.true))))

pub returns : goal.returns
returns g c = let l = leg_from g.C.Core.behaviour g.C.Core.opening g.C.Core.history g.C.Core.hart_count g.V.Evictions.coming c.args.start.now in
    let now = since g.C.Core.history c.args.start.now c.args.core.now in
    let full = full_now g.C.Core g.V.Evictions.coming c.args.start.now c.args.core.now c.requires.plays c.requires.begun in
    sym (stop_is l c.args.worker now false false false
    (ended_now g.C.Core g.V.Evictions.coming c.args.start.now c.args.core.now c.args.worker false c.requires.plays c.if-has_ended.ensures)
    (ne_eqb (made l c.args.worker now) l.turns (λ e. c.if-events-start.false (c.requires.made ∙ e)))
    (ne_eqb (length now) l.most (λ e. c.if-events-start-2.false (c.events.ensures ∙ full.0 e))))
