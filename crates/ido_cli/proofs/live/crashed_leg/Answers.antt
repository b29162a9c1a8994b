use Rattle.std.proofs.Common.{◌≡◌, ◌+◌, ℕ, length, min, arith, inl, subst}
use Rattle.ido_cli.specs.links.LegRuns.{HasCrashed}
use Rattle.ido_cli.proofs.LegRuns.{crash_fits, has_crashed}
use Rattle.ido_cli.proofs.live.crashed_leg.Goals as goal

pub event-requires-clause-valid : goal.event-requires-clause-valid
event-requires-clause-valid g c = inl tt

pub event-requires-clause-room : goal.event-requires-clause-room
event-requires-clause-room g c =
    let run = c.args.run in
    let is : c.min-moment.result ≡ min (length run.life.journal + c.args.word) c.args.most =
    omega (arith, c.events.ensures, c.saturating_add.ensures, c.min-moment.ensures, c.ranges.most.fits) in
    crash_fits c.from.result c.args.word c.args.most c.min-moment.result run is c.requires.can c.requires.within c.in_ok-driven.ensures

pub returns : goal.returns
returns g c =
    let run = c.args.run in
    let left = c.in_ok-driven.driven in
    let is : c.min-moment.result ≡ min (length run.life.journal + c.args.word) c.args.most =
    omega (arith, c.events.ensures, c.saturating_add.ensures, c.min-moment.ensures, c.ranges.most.fits) in
    subst (λ (t : ℕ). HasCrashed t c.args.word c.args.most run (record { life = c.event.new.self; evict = left.evict })) c.from.ensures
    (has_crashed c.from.result c.args.word c.args.most c.min-moment.result run is c.requires.can c.requires.within c.in_ok-driven.ensures
    c.event.new.self c.event.ensures.life)
