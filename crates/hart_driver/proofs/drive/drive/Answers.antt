use Rattle.std.proofs.Common.{◌≡◌, ◌∙◌, ◌+◌, sym, subst, ap, arith, List, ℕ, Option}
use Rattle.std.specs.Prelude.{IfSome, MatchOption}
use Rattle.hart_driver.specs.declared.start.Start.{Start}
use Rattle.hart_driver.specs.declared.stop.Stop.{Stop}
use Rattle.hart_driver.specs.Driven.{IsDriven}
use Rattle.hart_driver.specs.Legs.{workers}
use Rattle.hart_driver.specs.links.BoardRuns.{HasRunBoard}
use Rattle.hart_driver.specs.links.UnderWay.{AreStops, CanDrive, IsUnderWay, leg_from}
use Rattle.hart_driver.proofs.BoardLegs.{under_way}
use Rattle.hart_driver.proofs.DrivenLegs.{driven, nobody, same_workers, workers_now}
use Rattle.hart_driver.proofs.drive.drive.Goals as goal

pub returns-then-harts-eq0 : goal.returns-then-harts-eq0
returns-then-harts-eq0 g c =
    subst (λ (z : List Stop).
    IsDriven g.C.Core.behaviour g.C.Core.opening g.C.Core.history g.C.Core.hart_count g.V.Evictions.coming g.C.Core.space
    g.C.Core.evictable c.args.core c.args.turns c.args.moment c.args.evict c.args.core z c.args.evict) (sym c.new-stops.ensures.items)
    (nobody g.C.Core.behaviour g.C.Core.opening g.C.Core.history g.C.Core.hart_count g.V.Evictions.coming g.C.Core.space g.C.Core.evictable
    c.args.core c.args.turns c.args.moment c.args.evict (sym c.harts-harts.ensures ∙ c.if-harts-eq0.true))

pub run-core-requires-clause-workers : goal.run-core-requires-clause-workers
run-core-requires-clause-workers g c κs within = let e = c.in_ok-board.ensures.board in
    same_workers c.args.evict c.count_workers-workers.result _ c.harts-harts.result _ c.count_workers-workers.ensures e.1
    (ap g.C.Core.hart_count e.0 ∙ sym c.harts-harts.ensures)

pub run-core-requires-clause-drives : goal.run-core-requires-clause-drives
run-core-requires-clause-drives g c κs within = let e = c.in_ok-board.ensures.board in
    subst (λ (z : g.row.C.Denot × ℕ). CanDrive g.C.Core.history g.C.Core.space g.C.Core.evictable g.V.Evictions.coming z.0 z.1 c.args.evict)
    (λ i. (sym e.0 i, sym e.3 i))
    record {
      begun = c.requires.moment.0;
      reached = c.requires.moment.1;
      valid = λ v n is.
          subst (λ (o : Option g.row.V.Denot).
          IfSome o (λ v. (n : ℕ) → g.C.Core.evictable c.args.core (g.V.Evictions.coming v n).0 (g.V.Evictions.coming v n).1)) is c.requires.evictions n;
    }

pub finish-requires-clause-under_way : goal.finish-requires-clause-under_way
finish-requires-clause-under_way g c κs within = let e = c.in_ok-board.ensures.board in
    let s : Start g.row.C.Denot g.row.V.Denot = record { core = c.of.result; evict = c.of-2.result; turns = c.args.turns; moment = c.args.moment } in
    let ran = subst (λ (z : g.row.C.Denot × ℕ × ℕ × Option g.row.V.Denot).
    HasRunBoard g.C.Core.behaviour g.C.Core.opening g.C.Core.history g.C.Core.hart_count g.V.Evictions.coming g.C.Core.space
    g.C.Core.evictable z.0 z.1 z.2 z.3 c.run-core.result.0 c.run-core.result.1.items c.run-core.result.2)
    (λ i. ((e.0 ∙ sym c.of.ensures) i, e.2 i, e.3 i, sym c.of-2.ensures i)) c.run-core.ensures in
    subst (λ (z : List ℕ).
    IsUnderWay g.C.Core.behaviour g.C.Core.opening g.C.Core.history g.C.Core.hart_count g.V.Evictions.coming g.C.Core.space
    g.C.Core.evictable s c.run-core.result.0 z c.run-core.result.2) (sym c.as_mut_slice.ensures.value)
    (under_way g.C.Core g.V.Evictions.coming s ran)

pub finish-requires-clause-workers : goal.finish-requires-clause-workers
finish-requires-clause-workers g c κs within =
    workers_now g.C.Core.behaviour g.C.Core.opening g.C.Core.history g.C.Core.hart_count g.V.Evictions.coming g.C.Core.space
    g.C.Core.evictable c.of.result.value c.args.turns c.args.moment c.of-2.result.value c.count_workers-workers.result
    (subst (λ (o : Option g.row.V.Denot). MatchOption o (c.count_workers-workers.result ≡ g.C.Core.hart_count c.of.result.value)
    (λ v. c.count_workers-workers.result ≡ g.C.Core.hart_count c.of.result.value + 1)) (sym c.of-2.ensures)
    (same_workers c.args.evict c.count_workers-workers.result c.count_workers-workers.result c.harts-harts.result (g.C.Core.hart_count c.of.result.value)
    c.count_workers-workers.ensures (λ i. c.count_workers-workers.result) (ap g.C.Core.hart_count c.of.ensures ∙ sym c.harts-harts.ensures)))
    (let h = c.harts-harts.ensures in let k = ap g.C.Core.hart_count c.of.ensures in let some = c.if-harts-eq0.false in omega (arith, h, k, some))

pub returns : goal.returns
returns g c =
    let s : Start g.row.C.Denot g.row.V.Denot = record { core = c.of.result; evict = c.of-2.result; turns = c.args.turns; moment = c.args.moment } in
    let leg = leg_from g.C.Core.behaviour g.C.Core.opening g.C.Core.history g.C.Core.hart_count g.V.Evictions.coming s in
    let count : c.count_workers-workers.result ≡ workers leg =
    workers_now g.C.Core.behaviour g.C.Core.opening g.C.Core.history g.C.Core.hart_count g.V.Evictions.coming g.C.Core.space
    g.C.Core.evictable c.of.result.value c.args.turns c.args.moment c.of-2.result.value c.count_workers-workers.result
    (subst (λ (o : Option g.row.V.Denot). MatchOption o (c.count_workers-workers.result ≡ g.C.Core.hart_count c.of.result.value)
    (λ v. c.count_workers-workers.result ≡ g.C.Core.hart_count c.of.result.value + 1)) (sym c.of-2.ensures)
    (same_workers c.args.evict c.count_workers-workers.result c.count_workers-workers.result c.harts-harts.result (g.C.Core.hart_count c.of.result.value)
    c.count_workers-workers.ensures (λ i. c.count_workers-workers.result) (ap g.C.Core.hart_count c.of.ensures ∙ sym c.harts-harts.ensures)))
    (let h = c.harts-harts.ensures in let k = ap g.C.Core.hart_count c.of.ensures in let some = c.if-harts-eq0.false in omega (arith, h, k, some)) in
    let are = subst (λ (n : ℕ).
    AreStops g.C.Core.behaviour g.C.Core.opening g.C.Core.history g.C.Core.hart_count g.V.Evictions.coming s c.finish.new.core n
    c.finish.new.stops.items) count c.finish.ensures.stops in
    subst (λ (z : g.row.C.Denot × Option g.row.V.Denot).
    IsDriven g.C.Core.behaviour g.C.Core.opening g.C.Core.history g.C.Core.hart_count g.V.Evictions.coming g.C.Core.space
    g.C.Core.evictable z.0 c.args.turns c.args.moment z.1 c.finish.new.core c.finish.new.stops.items c.finish.new.evict)
    (λ i. (c.of.ensures i, c.of-2.ensures i))
    (driven g.C.Core.behaviour g.C.Core.opening g.C.Core.history g.C.Core.hart_count g.V.Evictions.coming g.C.Core.space g.C.Core.evictable s
    c.finish.new.core c.finish.new.counts c.finish.new.evict c.finish.new.stops.items c.finish.ensures.under_way are)
